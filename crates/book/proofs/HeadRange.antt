-- The range of a header that passed its tests.
use mathlib.Core.Path.{◌≡◌}
use mathlib.Core.List.{List}
use Prim.Native.Nat.{ℕ}
use lib.Dec.{ltb}
use lib.ListN.{length}
use Rattle.answer.specs.Answer.{Accepted}
use Rattle.answer.proofs.Refusals.{past}
use Rattle.layout.specs.Layout.{buses_in, branches_in, factor_in}
use Rattle.layout.specs.Check.{outside, head_check}
use Rattle.layout.proofs.AcceptedWhere.{InRange, in_range}
use Rattle.layout.specs.declared.Head.{Head}
use Rattle.layout.specs.Inside.{HeadRead}

pub head_range : (bs : List ℕ) (h : Head) → HeadRead bs h → head_check bs ≡ Accepted → InRange h.buses h.branches h.factor
head_range bs h r e =
    let p = past (ltb (length bs) 4) _ _ e in
    let q = past (outside (buses_in bs) (branches_in bs) (factor_in bs)) _ _ p.1 in
    rw (r.buses_are, r.branches_are, r.factor_is) (in_range (buses_in bs) (branches_in bs) (factor_in bs) q.0)
