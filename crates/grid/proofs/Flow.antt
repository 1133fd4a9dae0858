-- Flows: within the limits, and balanced but for a surplus and a deficit left at each bus.
use mathlib.Core.Path.{◌≡◌}
use mathlib.Core.Bool.{true, false}
use Prim.Native.Nat.{ℕ, ◌+◌, ◌≤◌, ◌<◌}
use lib.Dec.{eqb}
use Rattle.rows.specs.Sum.{Group, over}
use Rattle.grid.proofs.Net.{Net}

-- On branch k, ahead k - back k from its first end to its second.
pub record Flow : Type 0 where
  pub ahead : ℕ → ℕ
  pub back : ℕ → ℕ

pub record Within (N : Net) (f : Flow) : Type 0 where
  pub ahead_fits : (k : ℕ) → k < N.branches → f.ahead k ≤ f.back k + N.limit k
  pub back_fits : (k : ℕ) → k < N.branches → f.back k ≤ f.ahead k + N.limit k

-- The sum of x over the branches with bus i at the end p.
abbrev pub at_end : Net → (ℕ → ℕ) → (ℕ → ℕ) → ℕ → ℕ
at_end N p x i = over N.branches (λ k. eqb (p k) i) x

abbrev pub leaves : Net → Flow → ℕ → ℕ
leaves N f i = at_end N N.first f.ahead i + at_end N N.second f.back i

abbrev pub arrives : Net → Flow → ℕ → ℕ
arrives N f i = at_end N N.second f.ahead i + at_end N N.first f.back i

-- l: surplus not yet placed; d: deficit not yet served.
pub record Balanced (N : Net) (f : Flow) (l d : ℕ → ℕ) : Type 0 where
  pub bus : (i : ℕ) → i < N.buses → N.gain i + arrives N f i + d i ≡ N.load i + leaves N f i + l i

-- Every branch that leaves S is at its limit, outward.
pub record Closed (N : Net) (f : Flow) (S : Group) : Type 0 where
  pub out_ahead : (k : ℕ) → k < N.branches → S (N.first k) ≡ true → S (N.second k) ≡ false → f.ahead k ≡ f.back k + N.limit k
  pub out_back : (k : ℕ) → k < N.branches → S (N.first k) ≡ false → S (N.second k) ≡ true → f.back k ≡ f.ahead k + N.limit k
