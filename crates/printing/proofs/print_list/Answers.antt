-- `print_list` screens the book and prints the list of what the screen left, or the line of the refusal.
use Rattle.answer.proofs.Refusals.{went_on}
use Rattle.printing.proofs.Counted.{listable, printed_accepted}
use Rattle.printing.proofs.print_list.Goals as goal

pub list-requires : goal.list-requires
list-requires g c = listable c.screen-answer.ensures (went_on c.in-Ok.is)

pub returns-in_ok-length-in-Ok : goal.returns-in_ok-length-in-Ok
returns-in_ok-length-in-Ok g c = printed_accepted c.screen-answer.ensures (went_on c.in-Ok.is) c.in_ok-length-in-Ok.ensures
