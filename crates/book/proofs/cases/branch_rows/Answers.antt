-- `branch_rows` fills the five rows with the book's branches.
use native.Mathlib.Omega.{arith}
use Rattle.book.proofs.BranchRowsFilled.{branching_start, branching_more, branching_end, ends_fit}
use Rattle.book.proofs.cases.branch_rows.Goals as goal

pub loop-k-init : goal.loop-k-init
loop-k-init c = branching_start _ _ _ _ _ _ _ _ _ _ _

pub overflow_cast-first : goal.overflow_cast-first
overflow_cast-first c =
    let w = ends_fit c.args.h.form _ _ c.loop-k.k _ c.branch_at-x.ensures in omega (arith, w.first_fits)

pub overflow_cast-second : goal.overflow_cast-second
overflow_cast-second c =
    let w = ends_fit c.args.h.form _ _ c.loop-k.k _ c.branch_at-x.ensures in omega (arith, w.second_fits)

-- Row by row, so that one that holds another number is named.
pub loop-k-preserved : goal.loop-k-preserved
loop-k-preserved c =
    let w = branching_more _ _ _ _ _ _ _ _ _ _ _ _ _ _ _ c.loop-k-test.true c.requires.0.few_branches c.loop-k.invariant
    c.branch_at-x.ensures c.limit.ensures c.limit-in-loop-k.ensures
    in
    record { firsts = w.firsts; seconds = w.seconds; serveds = w.serveds; limits = w.limits; losses = w.losses }

pub returns : goal.returns
returns c = branching_end _ _ _ _ _ _ _ _ _ c.loop-k-test.false c.loop-k.invariant
