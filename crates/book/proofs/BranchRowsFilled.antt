-- The five rows of the branches, filled branch by branch.
use mathlib.Core.Path.{◌≡◌, ap, ◌∙◌}
use mathlib.Core.Bool.{Bool, false}
use mathlib.Core.List.{List}
use Prim.Native.Nat.{ℕ, ◌+◌, ◌<◌, ◌≤◌}
use lib.Dec.{eqb}
use lib.ListN.{set, replicate}
use Rattle.quantity.specs.declared.Kw.{Kw}
use Rattle.quantity.specs.Inside.{in_kw}
use Rattle.quantity.specs.Rating.{limit_of}
use Rattle.bits.proofs.ReadAsPut.{field_lt}
use Rattle.layout.specs.declared.Form.{Form}
use Rattle.layout.specs.declared.Branch.{Branch}
use Rattle.layout.specs.declared.Head.{Head}
use Rattle.layout.specs.Layout.{branch_after}
use Rattle.book.specs.Inside.{BranchesRead}
use Rattle.book.proofs.Filling.{Filling, fill_start, fill_more, fill_end}

-- The ends fit a byte.
pub record EndsFit (x : Branch) : Type 0 where
  pub first_fits : x.first < 128
  pub second_fits : x.second < 128

pub ends_fit : (f : Form) (bs : List ℕ) (n k : ℕ) (x : Branch) → x ≡ branch_after f n bs k → EndsFit x
ends_fit f bs n k x e = rw e (record { first_fits = field_lt bs _ 7; second_fits = field_lt bs _ 7 })

pub record Branching (percent : ℕ) (f : Form) (bs : List ℕ) (n m factor : ℕ) (first₀ second₀ : List ℕ) (served₀ : List Bool) (limit₀ loss₀ : List Kw)
    (first second : List ℕ) (served : List Bool) (limit loss : List Kw) (k : ℕ) : Type 0 where
  pub firsts : Filling (λ i. (branch_after f n bs i).first) m first₀ first k
  pub seconds : Filling (λ i. (branch_after f n bs i).second) m second₀ second k
  pub serveds : Filling (λ i. eqb (branch_after f n bs i).status 1) m served₀ served k
  pub limits : Filling (λ i. in_kw (limit_of (branch_after f n bs i).kva.0 factor percent)) m limit₀ limit k
  pub losses : Filling (λ i. in_kw (limit_of (branch_after f n bs i).kva2.0 factor percent)) m loss₀ loss k

module _ (percent : ℕ) (f : Form) (bs : List ℕ) (n m factor : ℕ) where
  pub branching_start : (first second : List ℕ) (served : List Bool) (limit loss : List Kw)
      → Branching percent f bs n m factor first second served limit loss first second served limit loss 0
  branching_start first second served limit loss = record {
    firsts = fill_start _ _ _;
    seconds = fill_start _ _ _;
    serveds = fill_start _ _ _;
    limits = fill_start _ _ _;
    losses = fill_start _ _ _;
  }

  abbrev zeros : List ℕ
  zeros = replicate 256 0

  abbrev nones : List Bool
  nones = replicate 256 false

  abbrev kws : List Kw
  kws = replicate 256 (in_kw 0)

  pub branching_more : (first second : List ℕ) (served : List Bool) (limit loss : List Kw) (k : ℕ) (x : Branch) (kw kw2 : Kw) → k < m → m ≤ 256
      → Branching percent f bs n m factor zeros zeros nones kws kws first second served limit loss k → x ≡ branch_after f n bs k
      → kw.0 ≡ limit_of x.kva.0 factor percent → kw2.0 ≡ limit_of x.kva2.0 factor percent
      → Branching percent f bs n m factor zeros zeros nones kws kws (set first k x.first) (set second k x.second)
      (set served k (eqb x.status 1))
      (set limit k kw) (set loss k kw2) (k + 1)
  branching_more first second served limit loss k x kw kw2 l room w e q q2 = record {
    firsts = fill_more _ _ _ _ _ _ l room w.firsts (ap (λ (y : Branch). y.first) e);
    seconds = fill_more _ _ _ _ _ _ l room w.seconds (ap (λ (y : Branch). y.second) e);
    serveds = fill_more _ _ _ _ _ _ l room w.serveds (ap (λ (y : Branch). eqb y.status 1) e);
    limits = fill_more _ _ _ _ _ _ l room w.limits ((λ i. in_kw (q i)) ∙ ap (λ (y : Branch). in_kw (limit_of y.kva.0 factor percent)) e);
    losses = fill_more _ _ _ _ _ _ l room w.losses ((λ i. in_kw (q2 i)) ∙ ap (λ (y : Branch). in_kw (limit_of y.kva2.0 factor percent)) e);
  }

pub branching_end : (percent : ℕ) (bs : List ℕ) (h : Head) (first second : List ℕ) (served : List Bool) (limit loss : List Kw) (k : ℕ)
    → h.branches ≤ k
    → Branching percent h.form bs h.buses h.branches h.factor (replicate 256 0) (replicate 256 0) (replicate 256 false)
    (replicate 256 (in_kw 0))
    (replicate 256 (in_kw 0))
    first second served limit loss k
    → BranchesRead percent bs h (record { first = first; second = second; served = served; limit = limit; loss = loss })
branching_end percent bs h first second served limit loss k l w = record {
  first_row = fill_end _ _ _ _ _ l w.firsts;
  second_row = fill_end _ _ _ _ _ l w.seconds;
  served_row = fill_end _ _ _ _ _ l w.serveds;
  limit_row = fill_end _ _ _ _ _ l w.limits;
  loss_row = fill_end _ _ _ _ _ l w.losses;
}
