-- What the base flow, the loss of one branch and x brought from one bus to another say of a network.
use Rattle.std.specs.Prelude.{◌≡◌, false, List, ℕ, ◌+◌, ◌<◌, ◌≤◌, min, length, eqb, Option, None, Some}
use Rattle.rows.specs.Row.{nth}
use Rattle.rows.specs.Sum.{Group, all, pick}
use Rattle.rows.specs.Bit.{has}
use Rattle.grid.proofs.Net.{Net, gains, loads, without}
use Rattle.grid.proofs.Flow.{Flow, Within, Balanced}
use Rattle.grid.proofs.Excess.{AtMost, Smallest}
use Rattle.search.specs.InsideLinks.{Linked}
use Rattle.search.specs.declared.Wires.{Wires}
use Rattle.search.specs.declared.Latent.{Latent}
use Rattle.reroute.specs.InsideMoves.{network, carried, both_ways, NoneAt, TwiceLimit, Sums}
use Rattle.reroute.specs.declared.Shortfall.{Shortfall}
use Rattle.reroute.specs.declared.Judgement.{Judgement}

-- The flow keeps to the limits and balances, and no group has an excess.
pub record Carrying (N : Net) (f : Flow) : Type 0 where
  pub within : Within N f
  pub balanced : gains N all ≡ loads N all → Balanced N f (λ i. 0) (λ i. 0)
  pub groups : (S : Group) → AtMost N S 0

-- R has the excess e, no group has more, and R is the smallest that has it.
pub record Shortage (N : Net) (R : Group) (e : ℕ) : Type 0 where
  pub some : 0 < e
  pub smallest : Smallest N R e

-- What a judgement says by what is short.
abbrev pub Says : Net → Flow → Option Shortfall → Type 0
Says N f None = Carrying N f
Says N f (Some s) = Shortage N (has s.group) s.excess

-- 16 bytes with no bit of a bus that the network doesn't have.
pub record Grouped (n : ℕ) (g : List ℕ) : Type 0 where
  pub long : length g ≡ 16
  pub beyond : (v : ℕ) → n ≤ v → v < 128 → has g v ≡ false
  pub bytes : (j : ℕ) → j < 16 → nth g j < 256

-- The base flow asks for limits of at most 1,000,000, gains of at most 2,000,000, and no bus with both gain and load.
pub record Basic (W : Wires) (limit gain load : List ℕ) : Type 0 where
  pub linked : Linked W
  pub limits : (k : ℕ) → k < W.branches → nth limit k ≤ 1000000
  pub gains_small : (i : ℕ) → i < W.buses → nth gain i ≤ 2000000
  pub apart : (i : ℕ) → i < W.buses → min (nth gain i) (nth load i) ≡ 0

pub record Based (W : Wires) (limit gain load : List ℕ) (r : Judgement) : Type 0 where
  pub kept : (k : ℕ) → both_ways r.latent k ≡ nth limit k + nth limit k
  pub unlisted : (k : ℕ) → W.branches ≤ k → nth r.latent.ahead k ≡ nth limit k
  pub says : Says (network W (nth limit) (nth gain) (nth load)) (carried (nth limit) r.latent.ahead) r.short
  pub grouped : (s : Shortfall) → r.short ≡ Some s → Grouped W.buses s.group

-- The loss of branch k, between two different buses.
pub record Losable (W : Wires) (limit : List ℕ) (latent : Latent) (k : ℕ) : Type 0 where
  pub linked : Linked W
  pub limits : (j : ℕ) → j < W.branches → nth limit j ≤ 1000000
  pub even : TwiceLimit W.branches latent (nth limit)
  pub below : k < W.branches
  pub different : nth W.first k ≡ nth W.second k → ⊥

-- From a flow that balances, over the network without branch k.
pub record Lost (W : Wires) (limit : List ℕ) (latent : Latent) (k : ℕ) (r : Judgement) : Type 0 where
  pub gone : NoneAt r.latent k
  pub kept : (j : ℕ) → (j ≡ k → ⊥) → both_ways r.latent j ≡ both_ways latent j
  pub unlisted : (j : ℕ) → W.branches ≤ j → nth r.latent.ahead j ≡ nth latent.ahead j
  pub says :
      (gain load : ℕ → ℕ) → Balanced (network W (nth limit) gain load) (carried (nth limit) latent.ahead) (λ i. 0) (λ i. 0)
      → Says
      (without (network W (nth limit) gain load) k)
      (carried (without (network W (nth limit) gain load) k).limit r.latent.ahead)
      r.short
  pub grouped : (s : Shortfall) → r.short ≡ Some s → Grouped W.buses s.group

-- x, of at most 2,000,000, brought from bus u to another bus v.
pub record Deliverable (W : Wires) (latent : Latent) (u v x : ℕ) : Type 0 where
  pub linked : Linked W
  pub sums : Sums W.branches latent
  pub from_in : u < W.buses
  pub to_in : v < W.buses
  pub different : u ≡ v → ⊥
  pub small : x ≤ 2000000

-- From a flow that balances, over the network in which u brings x more and v less. No branch changes by more than x.
pub record Delivered (W : Wires) (latent : Latent) (u v x : ℕ) (r : Judgement) : Type 0 where
  pub kept : (k : ℕ) → both_ways r.latent k ≡ both_ways latent k
  pub rises : (k : ℕ) → nth r.latent.ahead k ≤ nth latent.ahead k + x
  pub falls : (k : ℕ) → nth latent.ahead k ≤ nth r.latent.ahead k + x
  pub says :
      (limit gain load gain' load' : ℕ → ℕ) → TwiceLimit W.branches latent limit
      → Balanced (network W limit gain load) (carried limit latent.ahead) (λ i. 0) (λ i. 0)
      → ((i : ℕ) → gain' i + load i + pick (eqb v i) x ≡ gain i + load' i + pick (eqb u i) x)
      → Says (network W limit gain' load') (carried limit r.latent.ahead) r.short
  pub grouped : (s : Shortfall) → r.short ≡ Some s → Grouped W.buses s.group
