-- Whether any branch leaves the group.
use borrow.Author.Rules.{rules}
use borrow.Author.Tests.{tests}
use mathlib.Core.Path.{refl}
use native.Mathlib.Omega.{arith}
use Rattle.std.proofs.lemmas.Iterator.{cases_from_any, YieldsList-from_range}
use Rattle.island.specs.Inside.{leaves_at}
use Rattle.island.proofs.Ways.{Yes, No, by_any}
use Rattle.island.proofs.leaves.Goals as goal

pub returns : goal.returns
returns c =
    let a = c.args in
    let n = a.wires.branches in
    let p = leaves_at a.wires a.served a.k a.group in
    by_any p n _
    (cases_from_any c.any.new.self _ _ (Yes p) (No p) c.any.ensures.ran (YieldsList-from_range 0 n n refl (omega arith))
    (λ x q k. search (rules, tests)) (λ x q k. search (rules, tests)))
