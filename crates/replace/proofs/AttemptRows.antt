-- The rows of the first attempt: the latent capacities of the kept branches, and 0 on every other.
use mathlib.Core.Path.{◌≡◌, refl, ◌∙◌}
use mathlib.Core.Bool.{Bool, true, false}
use mathlib.Core.List.{List}
use Prim.Native.Nat.{ℕ, ◌<◌}
use lib.ListN.{length}
use Rattle.rows.specs.Row.{nth}
use Rattle.rows.specs.Bit.{has}
use Rattle.rows.specs.Sum.{Group}
use Rattle.search.specs.declared.Wires.{Wires}
use Rattle.search.specs.declared.Latent.{Latent}
use Rattle.search.proofs.Marking.{blank}
use Rattle.reroute.specs.InsideMoves.{SameAt, NoneAt}
use Rattle.reroute.specs.Inside.{cut_at}
use Rattle.reroute.specs.InsideVerdicts.{Losable}
use Rattle.reroute.proofs.OnePlace.{cut_same, cut_none}
use Rattle.reroute.proofs.FlowVerdicts.{lost_row}
use Rattle.replace.specs.Inside.{Chosen}
use Rattle.replace.proofs.Split.{only}
use Rattle.replace.proofs.MergedRows.{nothing}
use Rattle.replace.proofs.KeptBranches.{keep_of, keep_k, kept, lost, other, kind}

module _ (W : Wires) (live : List ℕ) (latent : Latent) (named : List ℕ) (k : ℕ) (P : Losable W live latent k) (la : length latent.ahead ≡ 256)
    (lb : length latent.back ≡ 256) (q : Latent) (Q : Chosen W.branches named (cut_at latent k) nothing q) where
  pub kept_same : (j : ℕ) → j < W.branches → (j ≡ k → ⊥) → has named j ≡ true → SameAt q latent j
  kept_same j u n e = let s = cut_same latent k j n in let i = Q.inside j u e in (i.0 ∙ s.0, i.1 ∙ s.1)

  other_none : (j : ℕ) → has named j ≡ false → NoneAt q j
  other_none j e = let o = Q.outside j e in (o.0 ∙ blank 256 j, o.1 ∙ blank 256 j)

  pub lost_none : NoneAt q k
  lost_none = go (has named k) refl
    where
      go : (t : Bool) → has named k ≡ t → NoneAt q k
      go true e = let i = Q.inside k P.below e in let c = cut_none latent k (lost_row P) la lb in (i.0 ∙ c.0, i.1 ∙ c.1)
      go false e = other_none k e

  abbrev keep : Group
  keep = keep_of named k

  pub ahead_is : (j : ℕ) → j < W.branches → nth q.ahead j ≡ only keep (nth latent.ahead) j
  ahead_is j u = elim (kind named k j) [
    | kept n e y z ↦ rw y (kept_same j u n e).0
    | lost e ↦ rw (e, keep_k named k) lost_none.0
    | other n e y z ↦ rw y (other_none j e).0
  ]

  pub back_is : (j : ℕ) → j < W.branches → nth q.back j ≡ only keep (nth latent.back) j
  back_is j u = elim (kind named k j) [
    | kept n e y z ↦ rw y (kept_same j u n e).1
    | lost e ↦ rw (e, keep_k named k) lost_none.1
    | other n e y z ↦ rw y (other_none j e).1
  ]
