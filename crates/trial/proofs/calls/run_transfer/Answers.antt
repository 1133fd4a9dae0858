-- `run_transfer` moves load between the two buses that it names, on the parts that its first two numbers name; a bad command changes nothing.
use mathlib.Core.Path.{refl}
use borrow.Author.Tests.{le-leb}
use Rattle.transfer.specs.Promise.{TransferEnds}
use Rattle.tables.specs.Inside.{ran}
use Rattle.trial.proofs.CalledOnParts.{called, part_lent}
use Rattle.trial.proofs.calls.run_transfer.Goals as goal

pub returns : goal.returns
returns c =
    let a = c.in_ok-flows.ensures.some in
    let b = c.in_ok-records.ensures.some in
    let call = c.move_load in
    let book = part_lent c.requires.1 call.auto.book in
    let flow = part_lent a.few call.auto.flow in
    let table = part_lent b.few call.auto.table in
    let asked = rw (c.two.ensures.0, c.two-2.ensures.0, c.four.ensures) at call.ensures in
    ran (rw (a.fine, b.fine, le-leb 13 _ c.if-rest-lt13.false) refl) refl (called (TransferEnds _ _ _ _) call.result book flow table a.is b.is asked)
