-- `set_status` sets the status bit where the book's own form has it.
use native.Mathlib.Omega.{arith}
use Rattle.bits.proofs.ReadAsPut.{field_lt}
use Rattle.layout.proofs.set_status.Goals as goal

pub branch_place-at-requires : goal.branch_place-at-requires
branch_place-at-requires c =
    (omega (arith, c.head_of-h.ensures.buses_are, field_lt c.args.book.now 0 8), omega (arith, c.requires.0))
