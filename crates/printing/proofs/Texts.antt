-- What the head line says, and a line in each case of what is shown and of a refusal.
use mathlib.Core.Path.{◌≡◌, refl, sym, ◌∙◌, subst}
use mathlib.Core.List.{List, ◌++◌}
use mathlib.Core.Logic.{◌≢◌}
use Prim.Native.Nat.{ℕ}
use borrow.Author.Tests.{eq-eqb, ne_eqb}
use Rattle.std.specs.Prelude.{Option}
use Rattle.answer.specs.declared.Place.{Place}
use Rattle.answer.specs.declared.Reply.{Reply}
use Rattle.layout.specs.declared.Head.{Head}
use Rattle.layout.specs.Inside.{HeadRead}
use Rattle.verdict.specs.Record.{record_at, verdict_in}
use Rattle.record.specs.declared.Entry.{Entry}
use Rattle.record.specs.Inside.{Stretch, Read}
use Rattle.line.specs.Text.{decimal_of, next_of}
use Rattle.line.specs.AnswerText.{place_text}
use Rattle.printing.specs.Lines.{head_text, out_word, carries_word, short_word, islands_word, missing_word, short_text, shown_text, reason_text}

pub head_shown : {bs : List ℕ} {h : Head} → HeadRead bs h → decimal_of h.buses ++ next_of h.branches ≡ head_text bs
head_shown e = rw (e.buses_are, e.branches_are) refl

-- The stretch that was cut and what was read from it, as what is read of the table's record.
pub read_of : {table rec : List ℕ} {k : ℕ} {s : Entry} → Stretch table k rec → Read rec s → Read (record_at table k) s
read_of {s = s} c r = subst (λ (x : List ℕ). Read x s) c.its_bytes r

pub short_word_lem : {verdict : ℕ} → verdict ≡ 2 → short_word ≡ missing_word verdict
short_word_lem {verdict} e = rw (eq-eqb verdict 2 e) refl

pub islands_word_lem : {verdict : ℕ} → verdict ≢ 2 → islands_word ≡ missing_word verdict
islands_word_lem {verdict} n = rw (ne_eqb verdict 2 n) refl

module _ {rec : List ℕ} {s : Entry} (r : Read rec s) where
  pub shown_out : s.verdict ≡ 0 → out_word ≡ shown_text rec
  shown_out h = rw (eq-eqb (verdict_in rec) 0 (sym r.verdict_is ∙ h)) refl

  pub shown_carries : s.verdict ≢ 0 → s.verdict ≡ 1 → carries_word ≡ shown_text rec
  shown_carries g h = rw (ne_eqb (verdict_in rec) 0 (λ q. g (r.verdict_is ∙ q)), eq-eqb (verdict_in rec) 1 (sym r.verdict_is ∙ h)) refl

  pub shown_short : s.verdict ≢ 0 → s.verdict ≢ 1 → missing_word s.verdict ++ short_text s.shortage s.group ≡ shown_text rec
  shown_short g h =
      rw (ne_eqb (verdict_in rec) 0 (λ q. g (r.verdict_is ∙ q)), ne_eqb (verdict_in rec) 1 (λ q. h (r.verdict_is ∙ q)))
      (rw (r.verdict_is, r.shortage_is, r.group_is) refl)

module _ (t : Reply) where
  pub reason_twelve : {n kw : ℕ} → n ≡ t.number → n ≡ 12 → kw ≡ t.shortage → next_of n ++ short_text kw t.group ≡ reason_text t
  reason_twelve e h f = rw (e, f, eq-eqb t.number 12 (sym e ∙ h)) refl

  pub reason_other : {n : ℕ} {p : Option Place} → n ≡ t.number → n ≢ 12 → p ≡ t.place → next_of n ++ place_text p ≡ reason_text t
  reason_other e h f = rw (e, f, ne_eqb t.number 12 (λ q. h (e ∙ q))) refl
