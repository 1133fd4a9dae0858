-- The largest excess of a group, and the smallest group that has it.
use mathlib.Core.Path.{◌≡◌}
use mathlib.Core.Bool.{Bool, true}
use Prim.Native.Nat.{ℕ, ◌+◌, ◌≤◌, ◌<◌}
use Rattle.rows.specs.Sum.{Group, any}
use Rattle.grid.proofs.Net.{Net, gains, loads, ratings}

-- P(S) - R(S) is v, and is at most v: signs are avoided by adding loads and ratings to the other side.
abbrev pub Exceeds : Net → Group → ℕ → Type 0
Exceeds N S v = gains N S ≡ loads N S + ratings N S + v

abbrev pub AtMost : Net → Group → ℕ → Type 0
AtMost N S v = gains N S ≤ loads N S + ratings N S + v

-- Of the groups that `among` admits: S has the excess v, none has more, and every one that has it contains S.
pub record SmallestOf (N : Net) (among : Group → Bool) (S : Group) (v : ℕ) : Type 0 where
  pub listed : among S ≡ true
  pub reaches : Exceeds N S v
  pub largest : (R : Group) → among R ≡ true → AtMost N R v
  pub least : (R : Group) → among R ≡ true → Exceeds N R v → (i : ℕ) → i < N.buses → S i ≡ true → R i ≡ true

-- The base excess v and its smallest group.
abbrev pub Smallest : Net → Group → ℕ → Type 0
Smallest N S v = SmallestOf N any S v
