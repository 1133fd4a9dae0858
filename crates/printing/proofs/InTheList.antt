-- Each line of the printed list in document 01's words, over the case of the book: `out`, `carries`, or `short` or `islands` with the shortage and
-- the group of demand 2, whose members are counted over the book's own buses; and the one line of a refused book.
use mathlib.Core.Path.{◌≡◌, refl, sym, ap, ap₂, ◌∙◌}
use mathlib.Core.Bool.{true, false}
use mathlib.Core.List.{List, [], ◌++◌, append-nil}
use Prim.Native.Nat.{ℕ, suc, ◌≤◌, ◌<◌}
use native.Mathlib.Omega.{arith}
use lib.Dec.{eqb}
use lib.IntN.{ℤ}
use Rattle.rows.specs.Row.{member}
use Rattle.rows.specs.Sum.{Group}
use Rattle.std.specs.Prelude.{Option}
use Rattle.answer.specs.declared.Place.{Place}
use Rattle.answer.specs.Answer.{Answer, Accepted, At, SaidBy, number_of, place_of, reply, settled}
use Rattle.answer.proofs.Numbers.{gives_not}
use Rattle.answer.proofs.Refusals.{leaves, at_not_nowhere}
use Rattle.layout.specs.Layout.{buses_in, branches_in}
use Rattle.layout.proofs.WellFormed.{buses_of}
use Rattle.verdict.specs.Case.{Case, on}
use Rattle.verdict.specs.Excess.{Overload, Short, Carries}
use Rattle.verdict.specs.Island.{Joined}
use Rattle.verdict.specs.Record.{record_at, verdict_in, shortage_in, Told}
use Rattle.verdict.specs.Update.{Lent}
use Rattle.state.specs.Case.{case_of, case_in}
use Rattle.state.specs.Call.{lent, lent_numbers, OverloadSaid}
use Rattle.state.proofs.Checked.{passed, passing, posed_passed, lent_gives}
use Rattle.state.proofs.Status.{branches_of}
use Rattle.screen.specs.Promise.{screen_check, ScreenEnds, refuses, overloads, accepts}
use Rattle.line.specs.Text.{decimal_of, next_of, joined}
use Rattle.line.specs.AnswerText.{members_text, place_text}
use Rattle.line.proofs.Plain.{Plain, plain_then, plain_cond, plain_decimal, plain_next, plain_members}
use Rattle.printing.specs.Lines.{head_text, out_word, carries_word, short_word, islands_word, refused_word}
use Rattle.printing.specs.Lines.{missing_word, shown_text, branch_text, refused_text}
use Rattle.printing.specs.List.{line_of, line_at, accepted_text, list_text}
use Rattle.printing.proofs.Texts.{reason_other}
use Rattle.screen.proofs.AcceptedScreen.{never_over, number_zero, accepted_screen}
use Rattle.printing.proofs.ShownOfCase.{short_over, short_over_lem, shows_out, shows_carries, shows_short, shows_islands}
use Rattle.printing.proofs.LinesApart.{first_line, next_line, line_of_joined}

case_buses : (percent : ℕ) (bs : List ℕ) → (case_in percent bs).buses ≡ buses_in bs
unfolding case_of
case_buses percent bs = buses_of bs

-- ---- The lines stand apart: line 0 is the head line, and line k + 1 that of branch k.
plain_head : (bs : List ℕ) → Plain (head_text bs)
plain_head bs = plain_then (decimal_of (buses_in bs)) _ (plain_decimal _) (plain_next _)

plain_out : Plain out_word
unfolding Plain
plain_out = (refl, (refl, (refl, (refl, tt))))

plain_carries : Plain carries_word
unfolding Plain
plain_carries = (refl, (refl, (refl, (refl, (refl, (refl, (refl, (refl, tt))))))))

plain_short : Plain short_word
unfolding Plain
plain_short = (refl, (refl, (refl, (refl, (refl, (refl, tt))))))

plain_islands : Plain islands_word
unfolding Plain
plain_islands = (refl, (refl, (refl, (refl, (refl, (refl, (refl, (refl, tt))))))))

plain_branch : (table : List ℕ) (k : ℕ) → Plain (branch_text table k)
plain_branch table k =
    plain_then (decimal_of k) _ (plain_decimal k)
    (plain_cond (eqb (verdict_in rec) 0) _ _ plain_out
    (plain_cond (eqb (verdict_in rec) 1) _ _ plain_carries
    (plain_then (missing_word (verdict_in rec)) _ (plain_cond (eqb (verdict_in rec) 2) _ _ plain_short plain_islands)
    (plain_then (next_of (shortage_in rec)) _ (plain_next _) (plain_members 128 _)))))
  where
    rec : List ℕ
    rec = record_at table k

accepted_is : (bs : List ℕ) (r : Answer) (table : List ℕ) → r ≡ Accepted → list_text bs r table ≡ accepted_text bs table
accepted_is bs r table e = ap (λ (o : Answer). settled o (line_of (refused_text r)) (accepted_text bs table)) e

module _ (bs : List ℕ) (r : Answer) (table : List ℕ) (ok : r ≡ Accepted) where
  pub head_line : line_at 0 (list_text bs r table) ≡ head_text bs
  head_line = rw (accepted_is bs r table ok) (first_line (head_text bs) _ (plain_head bs))

  pub branch_line : (k : ℕ) → k < branches_in bs → line_at (suc k) (list_text bs r table) ≡ branch_text table k
  branch_line k l =
      rw (accepted_is bs r table ok)
      (next_line k (head_text bs) _ (plain_head bs)
      ∙ ap (line_at k) (sym (append-nil (joined (branches_in bs) (λ k. line_of (branch_text table k)))))
      ∙ line_of_joined (branch_text table) (plain_branch table) (branches_in bs) k [] l)

-- ---- An accepted book.
module _ {percent : ℕ} {bs : List ℕ} {flow : List ℤ} {table : List ℕ} {after : Lent} {r : Answer}
    (ends : ScreenEnds percent (lent bs flow table) after r) where
  few : r ≡ Accepted → (case_in percent bs).buses ≤ 128
  few ok = (posed_passed (accepted_screen ends ok).passes).few_buses

  told : (ok : r ≡ Accepted) (k : ℕ) → k < branches_in bs → Told (case_in percent bs) (on after.flow) k (record_at after.table k)
  told ok k l = ((accepted_screen ends ok).screened.table_true.each k (rw (branches_of percent bs) l)).told

  module _ (ok : r ≡ Accepted) (k : ℕ) (l : k < branches_in bs) where
    shown : (t : List ℕ) → shown_text (record_at after.table k) ≡ t → line_at (suc k) (list_text bs r after.table) ≡ decimal_of k ++ t
    shown t e = branch_line bs r after.table ok k l ∙ ap (λ (x : List ℕ). decimal_of k ++ x) e

    -- A branch out of service.
    pub out_line : (case_in percent bs).served k ≡ false → line_at (suc k) (list_text bs r after.table) ≡ decimal_of k ++ out_word
    out_line h = shown out_word (shows_out (case_in percent bs) (few ok) k _ _ (told ok k l) h)

    -- One that carries.
    pub carries_line : (case_in percent bs).served k ≡ true → Carries (case_in percent bs) k
        → line_at (suc k) (list_text bs r after.table) ≡ decimal_of k ++ carries_word
    carries_line h c = shown carries_word (shows_carries (case_in percent bs) (few ok) k _ _ (told ok k l) h c)

    -- One that is short and joined, by any v and S that the case has: v, how many of the book's buses are in S, and these in rising order.
    pub short_line : (case_in percent bs).served k ≡ true → (v : ℕ) (S : Group) → Short (case_in percent bs) k v S → Joined (case_in percent bs) k
        → line_at (suc k) (list_text bs r after.table) ≡ decimal_of k ++ (short_word ++ (next_of v ++ members_text (buses_in bs) S))
    short_line h v S s j =
        shown (short_word ++ short_over (case_in percent bs).buses v S) (shows_short (case_in percent bs) (few ok) k _ _ (told ok k l) h v S s j)
        ∙ ap (λ (n : ℕ). decimal_of k ++ (short_word ++ short_over n v S)) (case_buses percent bs)

    -- One whose loss would island, likewise.
    pub islands_line : (case_in percent bs).served k ≡ true → (v : ℕ) (S : Group) → Short (case_in percent bs) k v S → (Joined (case_in percent bs) k → ⊥)
        → line_at (suc k) (list_text bs r after.table) ≡ decimal_of k ++ (islands_word ++ (next_of v ++ members_text (buses_in bs) S))
    islands_line h v S s n =
        shown (islands_word ++ short_over (case_in percent bs).buses v S) (shows_islands (case_in percent bs) (few ok) k _ _ (told ok k l) h v S s n)
        ∙ ap (λ (m : ℕ). decimal_of k ++ (islands_word ++ short_over m v S)) (case_buses percent bs)

-- ---- A refused book.
said_by_check : (o : Answer) {r : Answer} → SaidBy o r → (number_of o ≡ 12 → ⊥)
    → refused_text r ≡ refused_word ++ (next_of (number_of o) ++ place_text (place_of o))
said_by_check o {r} s h = ap (λ (t : List ℕ). refused_word ++ t) (sym (reason_other (reply r) (sym s.number_is) h (sym s.place_is)))

over_said : (C : Case) → C.buses ≤ 128 → {r : Answer} → OverloadSaid C r → (v : ℕ) (S : Group) → Overload C v S
    → refused_text r ≡ refused_word ++ (next_of 12 ++ short_over C.buses v S)
over_said C few {r} o v S s =
    rw (o.answer.number_is, o.answer.shortage_is, o.answer.group_is)
    (ap (λ (t : List ℕ). refused_word ++ (next_of 12 ++ t)) (short_over_lem o.group few s o.overload))

module _ {percent : ℕ} {bs : List ℕ} {flow : List ℤ} {table : List ℕ} {after : Lent} {r : Answer} where
  -- By its check: the number, and for 4 and 5 the place.
  pub refused_line : ScreenEnds percent (lent bs flow table) after r → (screen_check percent (lent bs flow table) ≡ Accepted → ⊥)
      → list_text bs r after.table
      ≡ line_of (refused_word ++
      (next_of (number_of (screen_check percent (lent bs flow table))) ++ place_text (place_of (screen_check percent (lent bs flow table)))))
  unfolding member
  refused_line (refuses n a k) h =
      leaves r _ _ (λ e. n (passing _ _ _ (accepted_screen (refuses n a k) e).passes))
      ∙ ap line_of (said_by_check (screen_check percent (lent bs flow table)) a
      (gives_not lent_numbers (screen_check percent (lent bs flow table)) 12 (lent_gives _ _ _ _) refl (λ z. omega arith)))
  refused_line (overloads c o k) h = absurd (h c)
  refused_line (accepts c a s) h = absurd (h c)

  -- An answer with a place: the number, the item and the field.
  pub wrong_line : ScreenEnds percent (lent bs flow table) after r → {i j : ℕ} → place_of r ≡ At i j
      → list_text bs r after.table ≡ line_of (refused_word ++ (next_of (number_of r) ++ (next_of i ++ next_of j)))
  wrong_line (refuses n a k) e =
      refused_line (refuses n a k) n
      ∙ ap₂ {C = List ℕ} (λ (m : ℕ) (p : Option Place). line_of (refused_word ++ (next_of m ++ place_text p))) (sym a.number_is) (sym a.place_is ∙ e)
  wrong_line (overloads c o k) e = absurd (at_not_nowhere o.answer.place_is e)
  wrong_line (accepts c a s) e = absurd (at_not_nowhere a.place_is e)

  -- By its base excess: 12, then any v and S that the case has, as in the line of a short branch.
  pub overload_line : ScreenEnds percent (lent bs flow table) after r → screen_check percent (lent bs flow table) ≡ Accepted
      → (v : ℕ) (S : Group) → Overload (case_in percent bs) v S
      → list_text bs r after.table ≡ line_of (refused_word ++ (next_of 12 ++ (next_of v ++ members_text (buses_in bs) S)))
  overload_line (refuses n a k) c v S s = absurd (n c)
  overload_line (overloads c o k) c' v S s =
      leaves r _ _ (λ e. absurd (omega (arith, o.answer.number_is, number_zero e)))
      ∙ ap line_of (over_said (case_in percent bs) (posed_passed (passed _ _ _ c)).few_buses o v S s)
      ∙ ap (λ (n : ℕ). line_of (refused_word ++ (next_of 12 ++ short_over n v S))) (case_buses percent bs)
  overload_line (accepts c a x) c' v S s = absurd (never_over _ c x v S s)
