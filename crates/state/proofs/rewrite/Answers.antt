-- The loop over the branches: listed records are written, the rest are passed.
use mathlib.Core.Path.{sym, ◌∙◌}
use Rattle.state.proofs.Rewriting.{going_none, going_kept, going_written}
use Rattle.state.proofs.rewrite.Goals as goal
use Rattle.state.proofs.rewrite.Goals.{then-is_set, else-is_set}

pub loop-k-init : goal.loop-k-init
loop-k-init c = going_none _ _ _ _ _ c.requires.0 c.requires.1

pub loop-k-preserved : goal.loop-k-preserved
loop-k-preserved c =
    let g = c.loop-k.invariant in
    let u = c.loop-k-test.true in
    elim c.if-is_set.branch [
      | then-is_set w ↦
          going_written _ _ _ _ _ g u (sym c.is_set.ensures ∙ w.if-is_set.true) w.put_verdict.ensures w.table-is (w.judged-is ∙ w.counted-judged.ensures)
      | else-is_set w ↦ rw (w.table-is, w.judged-is) (going_kept _ _ _ _ _ g u (sym c.is_set.ensures ∙ w.if-is_set.false))
    ]
