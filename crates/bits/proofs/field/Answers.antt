-- `field` gives the number in the bits from its place on, out of a window of four bytes.
use borrow.Author.Rules.{rules}
use native.Mathlib.Omega.{arith}
use mathlib.Core.Path.{◌≡◌, ◌∙◌}
use Prim.Native.Nat.{ℕ, ◌*◌, ◌/◌, ◌%◌, ◌^◌, ◌≤◌}
use lib.Pow.{shl_exact}
use Rattle.bits.proofs.Window.{window, in_window}
use Rattle.bits.proofs.field.Goals as goal

pow_of : (w : ℕ) → w ≤ 25 → 1 * 2 ^ w % 4294967296 ≡ 2 ^ w
pow_of w h = shl_exact {a = 1} 1 w 32 (omega arith) (omega arith) ∙ omega arith

pub returns : goal.returns
returns c =
    let a = c.args in
    rw (pow_of a.width (search rules), c.byte-4.ensures.0, c.byte-3.ensures.0, c.byte-2.ensures.0, c.byte.ensures.0, ← window a.s.now (a.at / 8) (λ i. (c.shared_slice_known-1.given i).fits))
    (in_window a.s.now a.at a.width (omega arith))
