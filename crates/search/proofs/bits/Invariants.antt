-- The first j bytes are filled.
use Rattle.search.proofs.Bytes.{FirstBytes}
use Rattle.search.proofs.bits.Given as goal

abbrev pub invariant-loop-j : goal.invariant-loop-j
invariant-loop-j l = FirstBytes l.marks l.group l.j
