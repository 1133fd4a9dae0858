-- After i turns the first i bits stand in x.
use native.Mathlib.Omega.{arith}
use mathlib.Core.Path.{◌∙◌}
use Rattle.search.proofs.Bytes.{flag_at, first_bits_more}
use Rattle.search.proofs.byte.Goals as goal

pub loop-mark-preserved : goal.loop-mark-preserved
loop-mark-preserved c = first_bits_more c.loop-mark.invariant (omega arith) (c.from.ensures ∙ flag_at c.args.marks c.args.at _ (omega arith))
