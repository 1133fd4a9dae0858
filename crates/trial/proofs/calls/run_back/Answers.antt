-- `run_back` brings the branch of its third number back, on the parts that its first two name; a bad command changes nothing.
use mathlib.Core.Path.{refl}
use Rattle.restore.specs.Promise.{BackEnds}
use Rattle.tables.specs.Inside.{ran}
use Rattle.trial.proofs.CalledOnParts.{called, part_lent, part_read}
use Rattle.trial.proofs.calls.run_back.Goals as goal

pub returns : goal.returns
returns c =
    let a = c.in_ok-flows.ensures.some in
    let b = c.in_ok-records.ensures.some in
    let k = c.in_ok-k.ensures.some in
    let call = c.bring_back in
    let book = part_lent c.requires.1 call.auto.book in
    let table = part_lent b.few call.auto.table in
    ran (rw (a.fine, b.fine, k.fine) refl) refl (called (BackEnds _ _) call.result book part_read table a.is b.is (rw k.is at call.ensures))
