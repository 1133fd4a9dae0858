-- The first j bytes are filled.
use Rattle.search.proofs.Bytes.{first_bytes_end}
use Rattle.search.proofs.bits.Goals as goal

pub returns : goal.returns
returns c = first_bytes_end c.loop-j.invariant c.loop-j-test.false
