-- `refill` leaves the rest of the input at its front and what is read after it.
use Rattle.trial.proofs.Failed.{on_err}
use Rattle.trial.proofs.MovedToFront.{refilled, left_in_front}
use Rattle.trial.proofs.refill.Goals as goal

pub returns-in_err-more-clause-err : goal.returns-in_err-more-clause-err
returns-in_err-more-clause-err g c =
    let moved = c.copy_within.ensures in
    on_err _ (left_in_front c.read_full.new.buf c.requires.0 c.requires.1 moved.after moved.len c.read_full.auto.buf)

pub returns-clause-refilled : goal.returns-clause-refilled
returns-clause-refilled g c =
    let moved = c.copy_within.ensures in
    refilled c.read_full.new.buf c.requires.0 c.requires.1 moved.after moved.len c.read_full.auto.buf c.in_ok-more.ensures.in_bounds.0
