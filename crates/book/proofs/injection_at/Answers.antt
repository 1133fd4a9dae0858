-- `injection_at` gives the signed number of bus k.
use native.Mathlib.Omega.{arith}
use Prim.Native.Nat.{◌+◌, ◌*◌}
use Rattle.bits.proofs.ReadAsPut.{field_lt}
use Rattle.book.proofs.injection_at.Goals as goal

pub signed-requires : goal.signed-requires
signed-requires c =
    let a = c.args in
    rw c.bus_at-x.ensures (omega (arith, field_lt a.book.now (32 + 21 * a.k + 1) 20))
