-- What replacing the flow of a lost branch promises.
use Rattle.std.specs.Prelude.{◌≡◌, true, false, List, ℕ, ◌+◌, ◌<◌, ◌≤◌, None}
use Rattle.rows.specs.Row.{nth}
use Rattle.rows.specs.Bit.{has}
use Rattle.grid.proofs.Net.{without}
use Rattle.grid.proofs.Flow.{Flow, Within, Balanced}
use Rattle.search.specs.declared.Wires.{Wires}
use Rattle.reroute.specs.InsideMoves.{network, carried, SameAt}
use Rattle.reroute.specs.InsideVerdicts.{Lost}
use Rattle.reroute.specs.declared.Judgement.{Judgement}
use Rattle.search.specs.declared.Latent.{Latent}

-- x on the named branches below n, and y elsewhere.
pub record Chosen (n : ℕ) (named : List ℕ) (x y r : Latent) : Type 0 where
  pub inside : (j : ℕ) → j < n → has named j ≡ true → SameAt r x j
  pub outside : (j : ℕ) → has named j ≡ false → SameAt r y j
  pub beyond : (j : ℕ) → n ≤ j → SameAt r y j

-- The branch carries, with the latent capacities x.
pub record CarriesWith (x : Latent) (r : Judgement) : Type 0 where
  pub short : r.short ≡ None
  pub latent : r.latent ≡ x

-- A flow h of the network without k that differs from the present one only on named branches.
pub record NamedOnly (W : Wires) (live a named : List ℕ) (k : ℕ) (gain load : ℕ → ℕ) (h : Flow) : Type 0 where
  pub within : Within (without (network W (nth live) gain load) k) h
  pub balanced : Balanced (without (network W (nth live) gain load) k) h (λ i. 0) (λ i. 0)
  pub same : (j : ℕ) → j < W.branches → (j ≡ k → ⊥) → has named j ≡ false → h.ahead j + nth a j ≡ nth live j + h.back j

-- The loss of k, and: nothing changes if k has no flow; a flow that carries is confined to the named branches if some flow is.
pub record Replaced (W : Wires) (live : List ℕ) (latent : Latent) (named : List ℕ) (k : ℕ) (r : Judgement) : Type 0 where
  pub lost : Lost W live latent k r
  pub idle : nth latent.ahead k ≡ nth live k → (j : ℕ) → (j ≡ k → ⊥) → nth r.latent.ahead j ≡ nth latent.ahead j
  pub confined :
      (gain load : ℕ → ℕ) → Balanced (network W (nth live) gain load) (carried (nth live) latent.ahead) (λ i. 0) (λ i. 0)
      → (h : Flow) → NamedOnly W live latent.ahead named k gain load h
      → (j : ℕ) → j < W.branches → (j ≡ k → ⊥) → has named j ≡ false → nth r.latent.ahead j ≡ nth latent.ahead j
