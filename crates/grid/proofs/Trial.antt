-- A small network tried on every group, by computation: the largest excess and its smallest group, of all groups or of some.
use mathlib.Core.Path.{◌≡◌, refl, sym, ap, ap₂, ◌∙◌}
use mathlib.Core.Bool.{Bool, true}
use Prim.Native.Nat.{ℕ, ◌+◌, ◌<◌}
use native.Mathlib.Omega.{arith}
use borrow.Author.Tests.{leb-true, ltb-true, eqb-true, eq-eqb}
use lib.Dec.{leb, ltb, eqb}
use Rattle.rows.specs.Row.{every}
use Rattle.rows.specs.Sum.{Group, any, pick, differ}
use Rattle.rows.proofs.Row.{every_at}
use Rattle.rows.proofs.Sum.{over_same}
use Rattle.grid.proofs.Net.{Net, EndsThere, crosses, gains, loads, ratings}
use Rattle.grid.proofs.Excess.{Exceeds, AtMost, SmallestOf}
use Rattle.grid.proofs.Tests.{◌&◌, ◌⇒◌, and_left, and_right, imply, every_group, cut, cut_same, every_group_sound}

-- The same buses below the count.
abbrev pub Alike : Net → Group → Group → Type 0
Alike N S R = (i : ℕ) → i < N.buses → S i ≡ R i

-- Whether a group is admitted depends on its buses below the count alone.
abbrev pub Decided : Net → (Group → Bool) → Type 0
Decided N among = (S R : Group) → Alike N S R → among S ≡ among R

pub any_decided : (N : Net) → Decided N any
any_decided N S R h = refl

pub crosses_alike : (N : Net) → EndsThere N → (S R : Group) → Alike N S R → (k : ℕ) → k < N.branches → crosses N S k ≡ crosses N R k
crosses_alike N e S R h k u = ap₂ differ (h _ (e.first_in k u)) (h _ (e.second_in k u))

-- The groups with exactly one end of branch b.
pub crosses_decided : (N : Net) → EndsThere N → (b : ℕ) → b < N.branches → Decided N (λ S. crosses N S b)
crosses_decided N e b u S R h = crosses_alike N e S R h b u

unfoldable pub ends_test : Net → Bool
ends_test N = every N.branches (λ k. ltb (N.first k) N.buses & ltb (N.second k) N.buses)

pub ends_sound : (N : Net) → ends_test N ≡ true → EndsThere N
unfolding ends_test
ends_sound N t =
    let q = every_at _ N.branches t in
    record { first_in = λ k u. ltb-true _ _ (and_left _ _ (q k u)); second_in = λ k u. ltb-true _ _ (and_right _ _ (q k u)) }

abbrev inside : ℕ → Group → Group → Bool
inside n S R = every n (λ i. S i ⇒ R i)

abbrev most_at : Net → ℕ → Group → Bool
most_at N v R = leb (gains N R) (loads N R + ratings N R + v)

abbrev exact_at : Net → ℕ → Group → Bool
exact_at N v R = eqb (gains N R) (loads N R + ratings N R + v)

-- No admitted group has an excess above v.
unfoldable pub most_test : Net → (Group → Bool) → ℕ → Bool
most_test N among v = every_group N.buses (λ R. among R ⇒ most_at N v R)

-- v is the largest excess of an admitted group, and S the smallest of those that have it.
unfoldable pub smallest_test : Net → (Group → Bool) → Group → ℕ → Bool
smallest_test N among S v = among S & exact_at N v S & every_group N.buses (λ R. among R ⇒ most_at N v R & (exact_at N v R ⇒ inside N.buses S R))

module _ (N : Net) (e : EndsThere N) (among : Group → Bool) (decided : Decided N among) where
  -- a group, and the same cut off at the count
  module _ (R : Group) where
    alike : Alike N (cut N.buses R) R
    alike = cut_same N.buses R

    same_gains : gains N (cut N.buses R) ≡ gains N R
    same_gains = over_same _ _ _ _ _ (λ i u. ap (λ b. pick b (N.gain i)) (alike i u))

    same_loads : loads N (cut N.buses R) ≡ loads N R
    same_loads = over_same _ _ _ _ _ (λ i u. ap (λ b. pick b (N.load i)) (alike i u))

    same_ratings : ratings N (cut N.buses R) ≡ ratings N R
    same_ratings = over_same _ _ _ _ _ (λ k u. ap (λ b. pick b (N.limit k)) (crosses_alike N e (cut N.buses R) R alike k u))

    at_cut : among R ≡ true → among (cut N.buses R) ≡ true
    at_cut m = decided (cut N.buses R) R alike ∙ m

    most_here : (v : ℕ) → most_at N v (cut N.buses R) ≡ true → AtMost N R v
    most_here v t = let x : AtMost N (cut N.buses R) v = leb-true _ _ t in omega (arith, same_gains, same_loads, same_ratings)

    exact_here : (v : ℕ) → Exceeds N R v → exact_at N v (cut N.buses R) ≡ true
    exact_here v x = let y : Exceeds N (cut N.buses R) v = omega (arith, same_gains, same_loads, same_ratings) in eq-eqb _ _ y

    inside_here : (S : Group) → inside N.buses S (cut N.buses R) ≡ true → (i : ℕ) → i < N.buses → S i ≡ true → R i ≡ true
    inside_here S t i u p = sym (alike i u) ∙ imply (S i) _ (every_at (λ j. S j ⇒ cut N.buses R j) N.buses t i u) p

  pub most_sound : (v : ℕ) → most_test N among v ≡ true → (R : Group) → among R ≡ true → AtMost N R v
  unfolding most_test
  most_sound v t R m = most_here R v (imply _ _ (every_group_sound N.buses (λ R. among R ⇒ most_at N v R) t R) (at_cut R m))

  pub smallest_sound : (S : Group) (v : ℕ) → smallest_test N among S v ≡ true → SmallestOf N among S v
  unfolding smallest_test
  smallest_sound S v t =
      record {
        listed = and_left _ _ t;
        reaches = eqb-true _ _ (and_left _ _ (and_right _ _ t));
        largest = λ R m. most_here R v (and_left _ _ (each R m));
        least = λ R m x. inside_here R S (imply _ _ (and_right _ _ (each R m)) (exact_here R v x));
      }
    where
      each : (R : Group) → among R ≡ true → (most_at N v (cut N.buses R) & (exact_at N v (cut N.buses R) ⇒ inside N.buses S (cut N.buses R))) ≡ true
      each R m = imply (among (cut N.buses R)) _ (every_group_sound N.buses (λ R. among R ⇒ most_at N v R & (exact_at N v R ⇒ inside N.buses S R)) (and_right _ _ (and_right _ _ t)) R) (at_cut R m)
