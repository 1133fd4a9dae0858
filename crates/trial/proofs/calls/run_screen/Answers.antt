-- `run_screen` screens the first bytes of the book on the parts that its two numbers name; a bad command changes nothing.
use mathlib.Core.Path.{refl}
use Rattle.screen.specs.Promise.{ScreenEnds}
use Rattle.tables.specs.Inside.{ran}
use Rattle.trial.proofs.CalledOnParts.{called, part_lent, part_read}
use Rattle.trial.proofs.calls.run_screen.Goals as goal

pub returns : goal.returns
returns c =
    let a = c.in_ok-flows.ensures.some in
    let b = c.in_ok-records.ensures.some in
    let call = c.screen in
    ran (rw (a.fine, b.fine) refl) refl
    (called (ScreenEnds _) call.result part_read (part_lent a.few call.auto.flow) (part_lent b.few call.auto.table) a.is b.is call.ensures)
