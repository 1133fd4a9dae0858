-- The sums at each bus, branch by branch.
use mathlib.Core.Path.{◌≡◌, refl}
use mathlib.Core.List.{List}
use Prim.Native.Nat.{ℕ, ◌+◌, ◌*◌, ◌<◌, ◌≤◌}
use native.Mathlib.Omega.{arith}
use native.Mathlib.Numerals.{add-one}
use borrow.Author.Tests.{eq-eqb, ne_eqb}
use lib.Dec.{eqb}
use lib.ListN.{length, set, length-set}
use lib.Seq.{get_or-set_same, get_or-set_other}
use Rattle.rows.specs.Row.{nth}
use Rattle.rows.specs.Sum.{Group, pick, over}
use Rattle.rows.proofs.Sum.{side, below, equal, above, pick_part}
use Rattle.fit.specs.Inside.{Talliable, Tallied}

bump : (l : List ℕ) (i x : ℕ) → i < length l → (j : ℕ) → nth (set l i (nth l i + x)) j ≡ nth l j + pick (eqb i j) x
bump l i x h j = elim (side j i) [
  | below u ↦ rw (get_or-set_other l i j (nth l i + x) 0 (λ e. omega arith), ne_eqb i j (λ e. omega arith)) (omega arith)
  | equal u ↦ rw (u, get_or-set_same l i (nth l i + x) 0 h, eq-eqb i i refl) (omega arith)
  | above u ↦ rw (get_or-set_other l i j (nth l i + x) 0 (λ e. omega arith), ne_eqb i j (λ e. omega arith)) (omega arith)
]

over_step : (n : ℕ) (S : Group) (f : ℕ → ℕ) → over (n + 1) S f ≡ over n S f + pick (S n) (f n)
unfolding over
over_step n S f = rw add-one refl

module _ (n : ℕ) (one x other y start : List ℕ) where
  pub record Tallying (sums : List ℕ) (k : ℕ) : Type 0 where
    pub asked : Talliable n one x other y start
    pub upto : k ≤ n
    pub long : length sums ≡ 128
    pub so_far : Tallied k one x other y start sums
    pub low : (i : ℕ) → i < 128 → nth sums i ≤ 2000000 + 3000000 * k

  pub tallying_none : Talliable n one x other y start → length start ≡ 128 → Tallying start 0
  unfolding over
  tallying_none a l = record { asked = a; upto = omega arith; long = l; so_far = record { sums = λ i u. omega arith }; low = λ i u. omega (arith, a.small_start i) }

  -- Neither sum passes what 32 bits hold.
  pub first_fits : {sums : List ℕ} {k : ℕ} → Tallying sums k → k < n → nth sums (nth one k) + nth x k < 4294967296
  first_fits {sums} {k} t u = omega (arith, t.low (nth one k) (t.asked.one_in k u), t.asked.small k u, t.asked.few)

  pub second_fits : {sums : List ℕ} {k : ℕ} → Tallying sums k → k < n → nth (set sums (nth one k) (nth sums (nth one k) + nth x k)) (nth other k) + nth y k < 4294967296
  second_fits {sums} {k} t u =
      let a = t.asked in
      omega (
        arith,
        bump sums (nth one k) (nth x k) (omega (arith, a.one_in k u, t.long)) (nth other k),
        pick_part (eqb (nth one k) (nth other k)) (nth x k),
        t.low (nth other k) (a.other_in k u),
        a.small k u,
        a.few,
      )

  pub tallying_more : {sums s₁ s₂ : List ℕ} {k : ℕ} → Tallying sums k → k < n → s₁ ≡ set sums (nth one k) (nth sums (nth one k) + nth x k)
      → s₂ ≡ set s₁ (nth other k) (nth s₁ (nth other k) + nth y k) → Tallying s₂ (k + 1)
  tallying_more {sums} {s₁} {s₂} {k} t u e₁ e₂ =
      let a = t.asked in
      let long₁ : length s₁ ≡ 128 = rw e₁ (simp length-set t.long) in
      let at₁ : (v : ℕ) → nth s₁ v ≡ nth sums v + pick (eqb (nth one k) v) (nth x k) = λ v. rw e₁ (bump sums (nth one k) (nth x k) (omega (arith, a.one_in k u, t.long)) v) in
      let at₂ : (v : ℕ) → nth s₂ v ≡ nth s₁ v + pick (eqb (nth other k) v) (nth y k) = λ v. rw e₂ (bump s₁ (nth other k) (nth y k) (omega (arith, a.other_in k u)) v) in
      record {
        asked = a;
        upto = omega arith;
        long = rw e₂ (simp length-set long₁);
        so_far = record {
          sums = λ i v. omega (
            arith,
            at₁ i,
            at₂ i,
            t.so_far.sums i v,
            over_step k (λ j. eqb (nth one j) i) (nth x),
            over_step k (λ j. eqb (nth other j) i) (nth y),
          );
        };
        low = λ i v. omega (arith, at₁ i, at₂ i, t.low i v, pick_part (eqb (nth one k) i) (nth x k), pick_part (eqb (nth other k) i) (nth y k), a.small k u);
      }
