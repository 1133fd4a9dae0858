-- `list` prints the head line and then the line of each branch of the book.
use Rattle.printing.proofs.Counted.{Printing}
use Rattle.printing.proofs.list.Given as goal

abbrev pub invariant-loop-k : goal.invariant-loop-k
invariant-loop-k g l = Printing l.book l.table l.length l.k
