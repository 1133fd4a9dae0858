-- `set_book` puts the bytes of the command at the start of the space; a bad command changes nothing.
use native.Mathlib.Omega.{arith}
use Rattle.spaces.proofs.BookCopied.{book_copied}
use Rattle.spaces.proofs.set_book.Goals as goal

pub returns : goal.returns
returns c =
    book_copied _ _ _ c.if-rest-lt3.false c.two-count.ensures.0 c.if-book-count.false c.if-rest-count.false (omega arith) c.copy_from_slice.ensures.after
