-- The first numbers of the row are summed.
use borrow.Author.Rules.{rules}
use native.Mathlib.Omega.{arith}
use mathlib.Core.Path.{◌≡◌, ◌∙◌}
use Prim.Native.Nat.{◌<◌}
use lib.ListN.{length, take}
use Rattle.std.specs.List.{sum}
use Rattle.reroute.proofs.Casting.{sum_first, sum_fits}
use Rattle.reroute.proofs.sum.Goals as goal

pub sum-requires-clause-fits : goal.sum-requires-clause-fits
sum-requires-clause-fits c =
    let long : length c.args.row ≡ 128 = search rules in
    let fits : sum (take c.args.buses c.args.row) < 4294967296 = sum_fits c.requires long in
    search rules

pub returns : goal.returns
returns c =
    let long : length c.args.row ≡ 128 = search rules in
    let all : c.sum.result ≡ sum (take c.args.buses c.args.row) = search rules in
    all ∙ sum_first c.args.row c.args.buses (omega (arith, c.requires.few))
