-- Any two results that the promise of `screen` allows have the same answer and leave the same lent memory, but for the flow numbers of branches in
-- service and, in the records of carrying branches that have a flow, the reroute bits of other branches in service.
use mathlib.Core.Path.{◌≡◌, refl, sym, ap, ◌∙◌}
use mathlib.Core.Bool.{Bool, true, false}
use mathlib.Core.List.{List}
use Prim.Native.Nat.{ℕ, ◌<◌}
use native.Mathlib.Omega.{arith}
use lib.IntN.{ℤ, pos}
use Rattle.rows.specs.Row.{nth}
use Rattle.rows.proofs.Sum.{side, below, equal, above}
use Rattle.answer.specs.Answer.{Answer}
use Rattle.verdict.specs.Case.{Case, on, Fits}
use Rattle.verdict.specs.Record.{record_at, verdict_in, names, TrueRecord}
use Rattle.verdict.specs.Update.{Lent, Beyond}
use Rattle.verdict.proofs.VerdictByCase.{same_record, first_twenty}
use Rattle.verdict.proofs.Named.{names_only}
use Rattle.state.specs.Case.{case_in}
use Rattle.state.proofs.OneOverload.{overloaded_same, fits_not_over}
use Rattle.state.proofs.Checked.{passed, posed_passed}
use Rattle.screen.specs.Promise.{ScreenEnds, refuses, overloads, accepts}
use Rattle.demands.specs.Same.{FreeFlow, FreeBit, Alike, SameResult}
use Rattle.answer.proofs.Said.{said_same}
use Rattle.demands.proofs.Ends.{is_accepted}

-- ---- Records.
module _ (C : Case) (written : ℕ → Type 0) (one two : Lent) (k : ℕ) where
  pub equal_alike : record_at one.table k ≡ record_at two.table k
      → Alike (FreeBit C written one two k) (record_at one.table k) (record_at two.table k)
  equal_alike e = record { front = λ m l. ap (λ (x : List ℕ). nth x m) e; reroute = λ j n. ap (λ (x : List ℕ). names x j) e; whole = λ n. e }

  -- Two true records, one of them written anew.
  pub true_alike : Fits C C.limit (on one.flow) → Fits C C.limit (on two.flow) → written k
      → TrueRecord C (on one.flow) k (record_at one.table k) → TrueRecord C (on two.flow) k (record_at two.table k)
      → Alike (FreeBit C written one two k) (record_at one.table k) (record_at two.table k)
  true_alike fr fs w p q = record {
    front = shown;
    reroute = λ j n. bit j n (names r j) (names s j) refl refl;
    whole = λ n. same_record r s p.long q.long p.bytes q.bytes shown (λ j. bit j (n j) (names r j) (names s j) refl refl);
  }
    where
      r : List ℕ
      r = record_at one.table k

      s : List ℕ
      s = record_at two.table k

      shown : (m : ℕ) → m < 20 → nth (record_at one.table k) m ≡ nth (record_at two.table k) m
      shown = first_twenty C _ _ k _ _ p q

      free : (j : ℕ) → verdict_in (record_at one.table k) ≡ 1 → ((on one.flow k ≡ pos 0) × (on two.flow k ≡ pos 0) → ⊥) → (j ≡ k → ⊥) → j < C.branches
          → C.served j ≡ true → FreeBit C written one two k j
      free j v f n l i = record { anew = w; carrying = v; flowing = f; another = n; there = l; in_service = i }

      bit : (j : ℕ) → (FreeBit C written one two k j → ⊥) → (t u : Bool) → names (record_at one.table k) j ≡ t
          → names (record_at two.table k) j ≡ u
          → names (record_at one.table k) j ≡ names (record_at two.table k) j
      bit j n true true e h = e ∙ sym h
      bit j n false false e h = e ∙ sym h
      bit j n true false e h =
          let m = names_only C _ k _ fr p.told j e in
          absurd (n (free j m.carrying (λ z. m.flowing z.0) m.another m.there m.in_service))
      bit j n false true e h =
          let m = names_only C _ k _ fs q.told j h in
          absurd (n (free j (shown 0 (omega arith) ∙ m.carrying) (λ z. m.flowing z.1) m.another m.there m.in_service))

-- ---- Flows: on a branch out of service two fitting ones are both 0.
pub still_same : (C : Case) (f g : ℕ → ℤ) → Fits C C.limit f → Fits C C.limit g → (j : ℕ) → j < C.branches → (s : Bool) → C.served j ≡ s
    → (C.served j ≡ true → f j ≡ g j) → f j ≡ g j
still_same C f g a b j l true e h = h e
still_same C f g a b j l false e h = a.still j l e ∙ sym (b.still j l e)

-- ---- What is left.
pub beyond_same : (C : Case) {before one two : Lent} → Beyond C before one → Beyond C before two → Beyond C two one
beyond_same C x y = record {
  flow_long = x.flow_long ∙ sym y.flow_long;
  flow_rest = λ k l. x.flow_rest k l ∙ sym (y.flow_rest k l);
  table_long = x.table_long ∙ sym y.table_long;
  table_rest = λ j l. x.table_rest j l ∙ sym (y.table_rest j l);
}

pub beyond_none : (C : Case) {one two : Lent} → one ≡ two → Beyond C two one
beyond_none C e = rw e (record { flow_long = refl; flow_rest = λ k l. refl; table_long = refl; table_rest = λ j l. refl })

-- Nothing was changed: nothing is open.
pub kept_same : (C : Case) (free written agreed : ℕ → Type 0) {before one two : Lent} {r s : Answer} → r ≡ s → one ≡ before → two ≡ before
    → SameResult C free written agreed one two r s
kept_same C free written agreed {before} {one} {two} e a b =
    let ab : one ≡ two = a ∙ sym b in
    record {
      answers = e;
      books = ap (λ (l : Lent). l.book) ab;
      flows = λ j n. ap (λ (l : Lent). on l.flow j) ab;
      beyond = beyond_none C ab;
      records = λ k l w. equal_alike C written one two k (ap (λ (m : Lent). record_at m.table k) ab);
      refused_same = λ h. ab;
    }

-- A flow number beyond the count is the same, and one below it where it is so.
pub flows_below : (C : Case) (free : ℕ → Type 0) {one two : Lent} → Beyond C two one
    → ((j : ℕ) → j < C.branches → (free j → ⊥) → on one.flow j ≡ on two.flow j)
    → (j : ℕ) → (free j → ⊥) → on one.flow j ≡ on two.flow j
flows_below C free x h j n = elim (side j C.branches) [
  | below l ↦ h j l n
  | equal l ↦ x.flow_rest j (omega arith)
  | above l ↦ x.flow_rest j (omega arith)
]

-- ---- Screens: every record is written, so the two agree on each.
abbrev pub Each : ℕ → Type 0
Each k = Unit

module _ {percent : ℕ} {before one two : Lent} {r s : Answer} where
  pub screens_same : ScreenEnds percent before one r → ScreenEnds percent before two s
      → SameResult (case_in percent before.book) (FreeFlow (case_in percent before.book)) Each Each one two r s
  screens_same (refuses n a k) (refuses n' a' k') = kept_same _ _ _ _ (said_same a a') k k'
  screens_same (refuses n a k) (overloads c o k') = absurd (n c)
  screens_same (refuses n a k) (accepts c a' x) = absurd (n c)
  screens_same (overloads c o k) (refuses n a k') = absurd (n c)
  screens_same (overloads c o k) (overloads c' o' k') = kept_same _ _ _ _ (overloaded_same _ r s o o') k k'
  screens_same (overloads c o k) (accepts c' a x) =
      absurd (fits_not_over _ (on two.flow) r (posed_passed (passed _ _ _ c)) x.table_true.fits o)
  screens_same (accepts c a x) (refuses n a' k) = absurd (n c)
  screens_same (accepts c a x) (overloads c' o k) =
      absurd (fits_not_over _ (on one.flow) s (posed_passed (passed _ _ _ c)) x.table_true.fits o)
  screens_same (accepts c a x) (accepts c' a' y) =
      let C = case_in percent before.book in
      let z = beyond_same C x.beyond y.beyond in
      let f = x.table_true.fits in
      let g = y.table_true.fits in
      record {
        answers = said_same a a';
        books = x.book_kept ∙ sym y.book_kept;
        flows = flows_below C (FreeFlow C) z (λ j l n.
            still_same C _ _ f g j l (C.served j) refl (λ i. absurd (n (record { there = l; in_service = i }))));
        beyond = z;
        records = λ k l w. true_alike C Each one two k f g tt (x.table_true.each k l) (y.table_true.each k l);
        refused_same = λ h. absurd (h (is_accepted a));
      }
