-- The roles of the buses, and the sum of what is left.
use mathlib.Core.Path.{◌≡◌, refl, ap, ◌∙◌}
use mathlib.Core.List.{List}
use Prim.Native.Nat.{ℕ, zero, suc, ◌+◌, ◌*◌, ◌<◌, ◌≤◌}
use native.Mathlib.Omega.{arith}
use native.Mathlib.Numerals.{add-one}
use lib.ListN.{length, take}
use Rattle.std.specs.List.{sum}
use Rattle.std.proofs.lemmas.List.Sums.{fold_more}
use Rattle.rows.specs.Row.{nth}
use Rattle.rows.specs.Sum.{over}
use Rattle.reroute.specs.InsideMoves.{total}
use Rattle.reroute.specs.Inside.{role_of, Summable}
use Rattle.reroute.specs.declared.Rest.{Rest}

pub surplus_role : (l d : ℕ) → 0 < l → 1 ≡ role_of l d
surplus_role zero d h = absurd (omega arith)
surplus_role (suc l) d h = refl

pub deficit_role : (l d : ℕ) → l ≤ 0 → 0 < d → 2 ≡ role_of l d
deficit_role zero zero h g = absurd (omega arith)
deficit_role zero (suc d) h g = refl
deficit_role (suc l) d h g = absurd (omega arith)

pub role_surplus : (l d : ℕ) → role_of l d ≡ 1 → 0 < l
role_surplus zero zero e = absurd (omega arith)
role_surplus zero (suc d) e = absurd (omega arith)
role_surplus (suc l) d e = omega arith

pub role_deficit : (l d : ℕ) → role_of l d ≡ 2 → 0 < d
role_deficit zero zero e = absurd (omega arith)
role_deficit zero (suc d) e = omega arith
role_deficit (suc l) d e = absurd (omega arith)

-- The roles of the first v buses are in the row.
pub record Casting (n : ℕ) (rest : Rest) (r : List ℕ) (v : ℕ) : Type 0 where
  pub few : n ≤ 128
  pub within : v ≤ n
  pub long : length r ≡ 128
  pub role : (i : ℕ) → i < v → nth r i ≡ role_of (nth rest.surplus i) (nth rest.deficit i)

-- The sum of the first numbers of a row, by places; what it comes to at most.
pub sum_first : (row : List ℕ) (n : ℕ) → n ≤ length row → sum (take n row) ≡ total n row
unfolding over
sum_first row zero h = refl
sum_first row (suc n) h = rw (← add-one) (fold_more (λ a x. a + x) 0 row n 0 (omega arith) ∙ ap (λ (x : ℕ). x + nth row n) (sum_first row n (omega arith)))

total_low : (row : List ℕ) (n : ℕ) → ((i : ℕ) → i < n → nth row i ≤ 2000000) → total n row ≤ 2000000 * n
unfolding over
total_low row zero h = omega arith
total_low row (suc n) h = omega (arith, total_low row n (λ i l. h i (omega arith)), h n (omega arith))

pub sum_fits : {n : ℕ} {row : List ℕ} → Summable n row → length row ≡ 128 → sum (take n row) < 4294967296
sum_fits {n} {row} S l = omega (arith, sum_first row n (omega (arith, S.few)), total_low row n S.small, S.few)
