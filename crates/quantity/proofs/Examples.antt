-- Document 01's example of an advance, by computation.
use Rattle.std.proofs.Common.{◌≡◌, refl}
use Rattle.quantity.specs.Register.{advance}

rolled_over : advance 4294967290 10 ≡ 16
rolled_over = refl
