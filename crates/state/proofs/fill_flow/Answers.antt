-- `fill_flow` writes the limit less what is latent ahead for each branch, and nothing beyond the branches.
use borrow.Author.Rules.{sfits_of}
use mir.Syntax.{w32}
use mir.Val.{SFits}
use mir.Facts.{to_z-of_z}
use native.Mathlib.Omega.{arith}
use mathlib.Core.Path.{refl, sym}
use Prim.Native.Nat.{◌<◌}
use lib.ListN.{length, length-set}
use lib.IntN.{pos, ◌-ℤ◌}
use Rattle.rows.specs.Row.{nth}
use Rattle.rows.proofs.Row.{headed_none, headed_more}
use Rattle.state.proofs.fill_flow.Goals as goal

pub loop-k-init : goal.loop-k-init
loop-k-init c = (c.requires, omega arith, refl, sym (headed_none _ _))

pub loop-k-preserved : goal.loop-k-preserved
loop-k-preserved c =
    let v = c.loop-k.invariant in
    let k = c.loop-k.k in
    let a = c.args in
    let fit : SFits w32 c.difference.result = sfits_of c.difference.type_inv in
    let l : k < length a.flow.now = omega (arith, v.0.fits_in) in
    (v.0, omega arith, simp length-set v.2, rw (to_z-of_z fit, c.difference.ensures, v.3) (headed_more k (λ j. pos (nth a.live j) -ℤ pos (nth a.ahead j)) a.flow.now l))
