-- What is left grows shorter with each book.
use lib.ListN.{length}
use Rattle.outages_try.proofs.main.Given as goal

abbrev pub decreases-loop-size : goal.decreases-loop-size
decreases-loop-size l = length l.rest
