-- A network, and what a group of its buses brings, takes and may send out.
use mathlib.Core.Bool.{cond}
use Prim.Native.Nat.{ℕ, ◌<◌}
use lib.Dec.{eqb}
use Rattle.rows.specs.Sum.{Group, differ, over}

-- Gain and load are the two parts of an injection. A branch out of service has limit 0.
pub record Net : Type 0 where
  pub buses : ℕ
  pub branches : ℕ
  pub first : ℕ → ℕ
  pub second : ℕ → ℕ
  pub limit : ℕ → ℕ
  pub gain : ℕ → ℕ
  pub load : ℕ → ℕ

-- Both ends of every branch are buses.
pub record EndsThere (N : Net) : Type 0 where
  pub first_in : (k : ℕ) → k < N.branches → N.first k < N.buses
  pub second_in : (k : ℕ) → k < N.branches → N.second k < N.buses

-- The branches with exactly one end in S.
abbrev pub crosses : Net → Group → Group
crosses N S k = differ (S (N.first k)) (S (N.second k))

abbrev pub gains : Net → Group → ℕ
gains N S = over N.buses S N.gain

abbrev pub loads : Net → Group → ℕ
loads N S = over N.buses S N.load

-- R(S).
abbrev pub ratings : Net → Group → ℕ
ratings N S = over N.branches (crosses N S) N.limit

-- The network without branch b.
abbrev pub without : Net → ℕ → Net
without N b = record {
  buses = N.buses;
  branches = N.branches;
  first = N.first;
  second = N.second;
  limit = λ k. cond (eqb k b) 0 (N.limit k);
  gain = N.gain;
  load = N.load;
}
