-- What rerouting promises, over the theory of cuts and flows.
use Rattle.std.specs.Prelude.{◌≡◌, false, List, ℕ, ◌+◌, ◌^◌, ◌<◌, ◌≤◌, min, replicate}
use Rattle.rows.specs.Row.{nth}
use Rattle.rows.specs.Sum.{all, over}
use Rattle.rows.specs.Bit.{has}
use Rattle.grid.proofs.Net.{Net}
use Rattle.grid.proofs.Flow.{Flow, Within, Balanced}
use Rattle.grid.proofs.Excess.{Smallest}
use Rattle.search.specs.InsideLinks.{Linked}
use Rattle.search.specs.declared.Wires.{Wires}
use Rattle.search.specs.declared.Latent.{Latent}
use Rattle.reroute.specs.declared.Rest.{Rest}
use Rattle.reroute.specs.declared.Moved.{Moved}

-- The network of these wires.
abbrev pub network : Wires → (ℕ → ℕ) → (ℕ → ℕ) → (ℕ → ℕ) → Net
network W limit gain load = record {
  buses = W.buses;
  branches = W.branches;
  first = nth W.first;
  second = nth W.second;
  limit = limit;
  gain = gain;
  load = load;
}

-- The flow that leaves the latent capacity a ahead: the limit less a.
abbrev pub carried : (ℕ → ℕ) → List ℕ → Flow
carried limit a = record { ahead = limit; back = nth a }

-- What branch k has latent both ways together; that it has the same in x as in y; that it has none.
abbrev pub both_ways : Latent → ℕ → ℕ
both_ways latent k = nth latent.ahead k + nth latent.back k

abbrev pub SameAt : Latent → Latent → ℕ → Type 0
SameAt x y k = (nth x.ahead k ≡ nth y.ahead k) × (nth x.back k ≡ nth y.back k)

abbrev pub NoneAt : Latent → ℕ → Type 0
NoneAt latent k = (nth latent.ahead k ≡ 0) × (nth latent.back k ≡ 0)

-- The latent capacities of each of n branches make up twice its limit.
pub record TwiceLimit (n : ℕ) (latent : Latent) (limit : ℕ → ℕ) : Type 0 where
  pub twice : (k : ℕ) → k < n → both_ways latent k ≡ limit k + limit k

pub record Sums (n : ℕ) (latent : Latent) : Type 0 where
  pub fit : (k : ℕ) → k < n → both_ways latent k < 2 ^ 32

-- The sum over the first n buses.
abbrev pub total : ℕ → List ℕ → ℕ
total n l = over n all (nth l)

-- What rerouting asks for: no bus has both a surplus and a deficit, and no surplus is above 2,000,000.
pub record Reroutable (W : Wires) (latent : Latent) (rest : Rest) : Type 0 where
  pub linked : Linked W
  pub sums : Sums W.branches latent
  pub small : (i : ℕ) → i < W.buses → nth rest.surplus i ≤ 2000000
  pub apart : (i : ℕ) → i < W.buses → min (nth rest.surplus i) (nth rest.deficit i) ≡ 0

-- The flow over a network of these wires, with what is left at each bus, balances.
abbrev pub Settles : Wires → (limit gain load : ℕ → ℕ) → Latent → Rest → Type 0
Settles W limit gain load latent rest =
    Balanced (network W limit gain load) (carried limit latent.ahead) (nth rest.surplus) (nth rest.deficit)

pub record Reroutes (W : Wires) (latent : Latent) (rest : Rest) (r : Moved) : Type 0 where
  pub kept : (k : ℕ) → both_ways r.latent k ≡ both_ways latent k
  pub unlisted : (k : ℕ) → W.branches ≤ k → SameAt r.latent latent k
  pub idle : (k : ℕ) → NoneAt latent k → NoneAt r.latent k
  pub less_surplus : (i : ℕ) → nth r.rest.surplus i ≤ nth rest.surplus i
  pub less_deficit : (i : ℕ) → nth r.rest.deficit i ≤ nth rest.deficit i
  pub left_over : r.left ≡ total W.buses r.rest.surplus
  -- no branch changes by more than was moved: the surplus that there was, less what is left
  pub rises : (k : ℕ) → nth r.latent.ahead k + r.left ≤ nth latent.ahead k + total W.buses rest.surplus
  pub falls : (k : ℕ) → nth latent.ahead k + r.left ≤ nth r.latent.ahead k + total W.buses rest.surplus
  -- Whatever limits, gains and loads the rows belong to: the flow keeps to the limits, it balances if it did, and the group is the
  -- smallest with the largest excess, which is the surplus left.
  pub within : (limit gain load : ℕ → ℕ) → TwiceLimit W.branches latent limit → Within (network W limit gain load) (carried limit r.latent.ahead)
  pub balanced : (limit gain load : ℕ → ℕ) → Settles W limit gain load latent rest → Settles W limit gain load r.latent r.rest
  pub smallest :
      (limit gain load : ℕ → ℕ) → TwiceLimit W.branches latent limit → Settles W limit gain load latent rest
      → Smallest (network W limit gain load) (has r.group) r.left
  pub empty : r.left ≡ 0 → r.group ≡ replicate 16 0
  pub beyond : (v : ℕ) → W.buses ≤ v → v < 128 → has r.group v ≡ false
  pub bytes : (j : ℕ) → j < 16 → nth r.group j < 256
