-- `run_out` takes the branch of its third number out, on the parts that its first two name; a bad command changes nothing.
use mathlib.Core.Path.{refl}
use Rattle.outage.specs.Promise.{TakeEnds}
use Rattle.tables.specs.Inside.{ran}
use Rattle.trial.proofs.CalledOnParts.{called, part_lent}
use Rattle.trial.proofs.calls.run_out.Goals as goal

pub returns : goal.returns
returns c =
    let a = c.in_ok-flows.ensures.some in
    let b = c.in_ok-records.ensures.some in
    let k = c.in_ok-k.ensures.some in
    let call = c.take_out in
    let book = part_lent c.requires.1 call.auto.book in
    let flow = part_lent a.few call.auto.flow in
    let table = part_lent b.few call.auto.table in
    ran (rw (a.fine, b.fine, k.fine) refl) refl (called (TakeEnds _ _) call.result book flow table a.is b.is (rw k.is at call.ensures))
