-- The shortlist as the code tests it is that of the paper; so a table whose listed records were written anew is an update.
use mathlib.Core.Path.{◌≡◌, refl, sym, ap, ◌∙◌}
use mathlib.Core.Bool.{Bool, true, false, not, ◌&&◌, ◌||◌, true≢false, false≢true}
use mathlib.Core.List.{List}
use Prim.Native.Nat.{ℕ, ◌≤◌, ◌<◌}
use native.Mathlib.Omega.{arith}
use borrow.Author.Tests.{eq-eqb, ne_eqb}
use lib.Dec.{eqb}
use lib.IntN.{ℤ}
use lib.ListN.{length, get_or}
use Rattle.rows.specs.Row.{some}
use Rattle.rows.proofs.Row.{some_at, some_never, or_true, both_true}
use Rattle.rows.specs.Bit.{has}
use Rattle.verdict.specs.Case.{Case, on, Fits}
use Rattle.verdict.specs.Record.{record_at, verdict_in, names}
use Rattle.verdict.specs.Update.{Shortlisted, not_served, not_carrying, is_touched, names_touched, Updated}
use Rattle.state.specs.Call.{lent}
use Rattle.record.specs.Inside.{listed}
use Rattle.state.specs.Inside.{Listing, Rewriting}
use Rattle.state.proofs.Rewriting.{renewed}
use Rattle.shortlist.specs.Inside.{listed_if, listed_at}

-- ---- The test of one record.
module _ (serving : Bool) (touched rec : List ℕ) (k : ℕ) where
  pub by_service : serving ≡ false → true ≡ listed_if serving touched rec k
  unfolding listed_if
  by_service e = rw e refl

  pub by_touch : serving ≡ true → has touched k ≡ true → true ≡ listed_if serving touched rec k
  unfolding listed_if
  by_touch e h = rw (e, h) refl

  pub by_record : serving ≡ true → has touched k ≡ false → listed rec touched ≡ listed_if serving touched rec k
  unfolding listed_if
  by_record e h = rw (e, h) refl

-- The test on a stretch is that of the record.
pub tested : (served : List Bool) (touched table : List ℕ) (k : ℕ) {rec : List ℕ} {t v : Bool} → t ≡ listed_if (get_or served k false) touched rec k → rec ≡ record_at table k → t ≡ v
    → listed_at served touched table k ≡ v
unfolding listed_at
tested served touched table k {rec} i r e = sym (ap (λ (x : List ℕ). listed_if (get_or served k false) touched x k) r) ∙ sym i ∙ e

-- ---- The test is the shortlist.
module _ (C : Case) (served : List Bool) (touched : List ℕ) (T : ℕ → Type 0) (few : C.branches ≤ 256) (served_is : (k : ℕ) → get_or served k false ≡ C.served k)
    (marks : (j : ℕ) → j < C.branches → T j → has touched j ≡ true) (marked-only : (j : ℕ) → has touched j ≡ true → (j < C.branches) × T j) (table : List ℕ) where
  pub shortlisted_listed : (k : ℕ) → k < C.branches → Shortlisted C table T k → listed_at served touched table k ≡ true
  unfolding listed_at listed_if listed
  shortlisted_listed k u (not_served e) = rw (served_is k, e) refl
  shortlisted_listed k u (not_carrying n) =
      rw (ne_eqb (verdict_in (record_at table k)) 1 n) (or_two (not (get_or served k false)) (has touched k) true refl)
    where
      or_two : (s t x : Bool) → x ≡ true → (s || (t || x)) ≡ true
      or_two true t x e = refl
      or_two false true x e = refl
      or_two false false x e = e
  shortlisted_listed k u (is_touched t) = rw (marks k u t) (or_true (not (get_or served k false)))
  shortlisted_listed k u (names_touched j v n t) =
      or_all (not (get_or served k false)) (has touched k) (not (eqb (verdict_in (record_at table k)) 1))
      (some 256 (λ i. names (record_at table k) i && has touched i))
      (some_at (λ i. names (record_at table k) i && has touched i) 256 j (omega arith) (rw (n, marks j v t) refl))
    where
      or_all : (s t x y : Bool) → y ≡ true → (s || (t || (x || y))) ≡ true
      or_all true t x y e = refl
      or_all false true x y e = refl
      or_all false false true y e = refl
      or_all false false false y e = e

  -- Off the shortlist the test says no.
  pub unlisted : (k : ℕ) → k < C.branches → (Shortlisted C table T k → ⊥) → listed_at served touched table k ≡ false
  unfolding listed_at listed_if listed
  unlisted k u no_short = all_false _ _ _ _
      (by (not (get_or served k false)) (λ e. no_short (not_served (sym (served_is k) ∙ turned _ e))))
      (by (has touched k) (λ e. no_short (is_touched (marked-only k e).1)))
      (by (not (eqb (verdict_in (record_at table k)) 1)) (λ e. no_short (not_carrying (λ q. true≢false (sym (eq-eqb _ _ q) ∙ turned _ e)))))
      (some_never (λ j. names (record_at table k) j && has touched j) 256 miss)
    where
      by : (t : Bool) → (t ≡ true → ⊥) → t ≡ false
      by true h = absurd (h refl)
      by false h = refl

      turned : (t : Bool) → not t ≡ true → t ≡ false
      turned true e = absurd (false≢true e)
      turned false e = refl

      all_false : (s t x y : Bool) → s ≡ false → t ≡ false → x ≡ false → y ≡ false → (s || (t || (x || y))) ≡ false
      all_false s t x y e f g h = rw (e, f, g, h) refl

      miss : (j : ℕ) → (names (record_at table k) j && has touched j) ≡ false
      miss j = by (names (record_at table k) j && has touched j) (λ e.
          let w = both_true (names (record_at table k) j) (has touched j) e in
          let m = marked-only j w.1 in
          no_short (names_touched j m.0 w.0 m.1))

  -- The bits of the shortlist.
  module _ (bits : List ℕ) (shown : Listing C.branches (listed_at served touched table) bits) where
    pub updated : {bs bs' : List ℕ} {flow flow' : List ℤ} {table' : List ℕ} → Fits C C.limit (on flow') → Rewriting C (on flow') bits C.branches table table'
        → length flow' ≡ length flow → ((k : ℕ) → C.branches ≤ k → on flow' k ≡ on flow k) → Updated C T (lent bs flow table) (lent bs' flow' table')
    updated fits r =
        renewed C (Shortlisted C table T) fits r (λ k u h. shown.bit k u ∙ shortlisted_listed k u h) (λ k u h. shown.bit k u ∙ unlisted k u h)
