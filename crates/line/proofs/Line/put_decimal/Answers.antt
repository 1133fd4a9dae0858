-- `put_decimal` adds the digits of a number, at most 20.
use native.Mathlib.Omega.{arith}
use mathlib.Core.Path.{◌∙◌}
use Prim.Native.Nat.{◌≤◌}
use Rattle.line.proofs.Adding.{adds_as}
use Rattle.line.proofs.FewestDigits.{fewest_decimal, few_decimal}
use Rattle.line.proofs.Line.put_decimal.Goals as goal

pub put-requires : goal.put-requires
put-requires c =
    let h : c.decimal-k.result ≤ 20 = few_decimal _ _ (omega arith) c.decimal-k.ensures.len in
    omega (arith, h, c.decimal-k.ensures.in_bounds.1, c.requires)

pub returns : goal.returns
returns c =
    let w = c.decimal-k.ensures in
    let h : c.decimal-k.result ≤ 20 = few_decimal _ _ (omega arith) w.len in
    adds_as (w.digits ∙ fewest_decimal 20 _ _ h w.len) (omega (arith, h, w.in_bounds.1)) c.put.ensures
