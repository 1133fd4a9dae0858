-- What is put back in the end: the capacities moved on the named branches, and elsewhere what was there, without the lost branch k.
use mathlib.Core.Path.{◌≡◌, refl, ◌∙◌}
use mathlib.Core.Bool.{Bool, true, false}
use mathlib.Core.List.{List}
use Prim.Native.Nat.{ℕ, ◌≤◌}
use native.Mathlib.Omega.{arith}
use lib.ListN.{length, replicate}
use Rattle.rows.specs.Bit.{has}
use Rattle.search.specs.declared.Wires.{Wires}
use Rattle.search.specs.declared.Latent.{Latent}
use Rattle.reroute.specs.InsideMoves.{SameAt, NoneAt}
use Rattle.reroute.specs.Inside.{cut_at}
use Rattle.reroute.specs.InsideVerdicts.{Losable}
use Rattle.reroute.proofs.OnePlace.{cut_same, cut_none}
use Rattle.reroute.proofs.FlowVerdicts.{lost_row}
use Rattle.replace.specs.Inside.{Chosen}

-- No latent capacity on any branch.
abbrev pub nothing : Latent
nothing = record { ahead = replicate 256 0; back = replicate 256 0 }

-- What is put back in the end: x on the named branches, and elsewhere what was there, without k.
module _ (W : Wires) (live : List ℕ) (latent : Latent) (named : List ℕ) (k : ℕ) (P : Losable W live latent k) (la : length latent.ahead ≡ 256)
    (lb : length latent.back ≡ 256)
    {x r : Latent} (G : Chosen W.branches named x (cut_at latent k) r) where
  pub merged_outside : (j : ℕ) → (j ≡ k → ⊥) → has named j ≡ false → SameAt r latent j
  merged_outside j n e = let s = cut_same latent k j n in let o = G.outside j e in (o.0 ∙ s.0, o.1 ∙ s.1)

  pub merged_beyond : (j : ℕ) → W.branches ≤ j → SameAt r latent j
  merged_beyond j u = let s = cut_same latent k j (λ e. omega (arith, P.below)) in let o = G.beyond j u in (o.0 ∙ s.0, o.1 ∙ s.1)

  pub merged_lost : NoneAt x k → NoneAt r k
  merged_lost z = go (has named k) refl
    where
      go : (t : Bool) → has named k ≡ t → NoneAt r k
      go true e = let i = G.inside k P.below e in (i.0 ∙ z.0, i.1 ∙ z.1)
      go false e = let o = G.outside k e in let c = cut_none latent k (lost_row P) la lb in (o.0 ∙ c.0, o.1 ∙ c.1)
