-- Rows filled branch by branch: limits in service, and bits of changed branches.
use mathlib.Core.Path.{◌≡◌, refl, sym, ◌∙◌}
use mathlib.Core.Bool.{Bool, true, false, not, ◌&&◌, true≢false}
use mathlib.Core.List.{List}
use Prim.Native.Nat.{ℕ, ◌+◌, ◌<◌, ◌≤◌}
use native.Mathlib.Omega.{arith}
use borrow.Author.Count.{below_more}
use native.Mathlib.Decide.{dec_lt}
use lib.Dec.{eqb}
use borrow.Author.Tests.{ne_eqb, eqb-false, not-true}
use Rattle.bits.specs.Inside.{Marked}
use lib.ListN.{length, get_or, set, length-set}
use lib.Seq.{get_or-set_same, get_or-set_other}
use Rattle.rows.specs.Row.{nth}
use Rattle.rows.specs.Bit.{has}
use Rattle.rows.specs.Sum.{pick}
use Rattle.rows.proofs.Row.{both_true}
use Rattle.quantity.specs.declared.Kw.{Kw}
use Rattle.quantity.specs.Inside.{kw_at}
use Rattle.state.specs.Inside.{Live, Changed}
use Rattle.state.proofs.TrueRecords.{none, none_at}

-- ---- Limits in service.
module _ (n : ℕ) (served : List Bool) (limit : List Kw) where
  pub record Living (live : List ℕ) (k : ℕ) : Type 0 where
    pub few : n ≤ 256
    pub upto : k ≤ n
    pub long : length live ≡ 256
    pub so_far : (j : ℕ) → j < k → nth live j ≡ pick (get_or served j false) (kw_at limit j)
    pub beyond : (j : ℕ) → k ≤ j → nth live j ≡ 0

  pub living_none : n ≤ 256 → Living (none 256) 0
  living_none h = record { few = h; upto = omega arith; long = refl; so_far = λ j u. absurd (omega arith); beyond = λ j u. none_at 256 j }

  pub living_set : {live : List ℕ} {k : ℕ} → Living live k → k < n → get_or served k false ≡ true → Living (set live k (kw_at limit k)) (k + 1)
  living_set {live} {k} l u e =
      let h : k < length live = omega (arith, l.few, l.long) in
      record {
        few = l.few;
        upto = omega arith;
        long = simp length-set l.long;
        so_far = below_more _ k (λ j v. get_or-set_other live k j (kw_at limit k) 0 (λ q. omega arith) ∙ l.so_far j v)
            (rw (get_or-set_same live k (kw_at limit k) 0 h, e) refl);
        beyond = λ j v. get_or-set_other live k j (kw_at limit k) 0 (λ q. omega arith) ∙ l.beyond j (omega arith);
      }

  pub living_skip : {live : List ℕ} {k : ℕ} → Living live k → k < n → get_or served k false ≡ false → Living live (k + 1)
  living_skip {live} {k} l u e = record {
    few = l.few;
    upto = omega arith;
    long = l.long;
    so_far = below_more _ k l.so_far (rw e (l.beyond k (omega arith)));
    beyond = λ j v. l.beyond j (omega arith);
  }

  pub living_all : {live : List ℕ} {k : ℕ} → Living live k → k ≡ n → Live n served limit live
  living_all {live} {k} l e = record { in_service = λ j u. l.so_far j (omega arith); elsewhere = λ j u. l.beyond j (omega arith) }

-- ---- Bits of changed branches.
pub changed_by : {a b : List ℕ} {but n : ℕ} {row : List ℕ} → Marked n (λ k r. r ≡ (not (eqb k but) && not (eqb (nth a k) (nth b k)))) row → Changed n a b but row
changed_by {a} {b} {but} {n} {row} m = record {
  long = m.long;
  bytes = m.bytes;
  named = λ j q.
      let u : j < n = inside j (dec_lt j n) q in
      let e : not (eqb j but) && not (eqb (nth a j) (nth b j)) ≡ true = sym (m.told j u) ∙ q in
      let w = both_true (not (eqb j but)) (not (eqb (nth a j) (nth b j))) e in
      record { below = u; other = λ i. eqb-false j but (not-true _ w.0) i; changed = λ i. eqb-false _ _ (not-true _ w.1) i };
  names = λ j u o d. m.told j u ∙ rw (ne_eqb j but o, ne_eqb (nth a j) (nth b j) d) refl;
}
  where
    inside : (j : ℕ) → Dec (j < n) → has row j ≡ true → j < n
    inside j (yes u) q = u
    inside j (no u) q = absurd (true≢false (sym q ∙ m.beyond j (omega arith)))
