-- What the functions that test a lent flow ask for and say.
use Rattle.std.specs.Prelude.{◌≡◌, List, ℕ, ◌+◌, ◌<◌, ◌≤◌, eqb, ℤ, Option, None, Some}
use Rattle.rows.specs.Row.{nth}
use Rattle.rows.specs.Sum.{over}
use Rattle.search.specs.InsideLinks.{Linkable}
use Rattle.search.specs.declared.Wires.{Wires}
use Rattle.search.specs.declared.Latent.{Latent}
use Rattle.quantity.specs.Signed.{pos_part, neg_part}
use Rattle.grid.proofs.Flow.{Balanced}
use Rattle.reroute.specs.InsideMoves.{network}
use Rattle.verdict.specs.Case.{on}
use Rattle.verdict.proofs.Plain.{flow_of}

-- ---- `latents`: limits of n branches, and a flow lent for them.
pub record Measurable (n : ℕ) (live : List ℕ) (room : ℕ) : Type 0 where
  pub few : n ≤ 256
  pub fits_in : n ≤ room
  pub limits : (k : ℕ) → k < n → nth live k ≤ 1000000

-- The flow on branch k keeps to the limit, either way.
pub record Keeps (flow : List ℤ) (live : List ℕ) (k : ℕ) : Type 0 where
  pub ahead : pos_part (on flow k) ≤ nth live k
  pub back : neg_part (on flow k) ≤ nth live k

-- The latent capacities of the first n branches.
pub record Left (n : ℕ) (flow : List ℤ) (live : List ℕ) (lat : Latent) : Type 0 where
  pub keeps : (k : ℕ) → k < n → Keeps flow live k
  pub ahead_is : (k : ℕ) → k < n → nth lat.ahead k + pos_part (on flow k) ≡ nth live k + neg_part (on flow k)
  pub back_is : (k : ℕ) → k < n → nth lat.back k + neg_part (on flow k) ≡ nth live k + pos_part (on flow k)

pub record Measured (n : ℕ) (flow : List ℤ) (live : List ℕ) (r : Option Latent) : Type 0 where
  pub within : (lat : Latent) → r ≡ Some lat → Left n flow live lat
  pub not_within : r ≡ None → ((k : ℕ) → k < n → Keeps flow live k) → ⊥

-- ---- `tally`: at each bus the sums over the n branches with it at their one end, and at their other.
pub record Talliable (n : ℕ) (one x other y start : List ℕ) : Type 0 where
  pub few : n ≤ 256
  pub one_in : (k : ℕ) → k < n → nth one k < 128
  pub other_in : (k : ℕ) → k < n → nth other k < 128
  pub small : (k : ℕ) → k < n → (nth x k ≤ 1000000) × (nth y k ≤ 2000000)
  pub small_start : (i : ℕ) → nth start i ≤ 2000000

pub record Tallied (n : ℕ) (one x other y start r : List ℕ) : Type 0 where
  pub sums : (i : ℕ) → i < 128 → nth r i ≡ nth start i + over n (λ k. eqb (nth one k) i) (nth x) + over n (λ k. eqb (nth other k) i) (nth y)

-- ---- `test`: gains and loads of at most 2,000,000, as a load that moves may make them.
pub record Lendable (W : Wires) (live gain load : List ℕ) (room : ℕ) : Type 0 where
  pub wired : Linkable W.buses W.branches W.first W.second
  pub fits_in : W.branches ≤ room
  pub limits : (k : ℕ) → k < W.branches → nth live k ≤ 1000000
  pub small : (i : ℕ) → (nth gain i ≤ 2000000) × (nth load i ≤ 2000000)

-- The latent capacities of a flow that fits; a flow that doesn't passes a limit or leaves a bus unbalanced.
pub record Fitted (W : Wires) (flow : List ℤ) (live gain load : List ℕ) (r : Option Latent) : Type 0 where
  pub left : (lat : Latent) → r ≡ Some lat → Left W.branches flow live lat
  pub balances : (lat : Latent) → r ≡ Some lat → Balanced (network W (nth live) (nth gain) (nth load)) (flow_of (on flow)) (λ i. 0) (λ i. 0)
  pub unfit : r ≡ None → ((k : ℕ) → k < W.branches → Keeps flow live k) → Balanced (network W (nth live) (nth gain) (nth load)) (flow_of (on flow)) (λ i. 0) (λ i. 0) → ⊥
