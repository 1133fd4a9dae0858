-- The case that a book makes at a percentage of nameplate, and that packed bytes make. The percentage is given with each call and isn't in the book.
use Rattle.std.specs.Prelude.{List, ℕ, eqb}
use Rattle.quantity.specs.Rating.{limit_of}
use Rattle.layout.specs.Book.{Book, buses, count, injection, branch}
use Rattle.layout.specs.Layout.{book_of}
use Rattle.verdict.specs.Case.{Case}

-- Each limit is kVA times power factor times percentage divided by 100,000, rounded down once: the normal one of the first figure, the second of the
-- second. A book of the old form has one figure, which serves as both.
unfoldable pub case_of : ℕ → Book → Case
case_of percent b = record {
  buses = buses b;
  branches = count b;
  first = λ k. (branch b k).first;
  second = λ k. (branch b k).second;
  served = λ k. eqb (branch b k).status 1;
  injection = injection b;
  limit = λ k. limit_of (branch b k).kva.0 b.factor percent;
  loss_limit = λ k. limit_of (branch b k).kva2.0 b.factor percent;
}

abbrev pub case_in : ℕ → List ℕ → Case
case_in percent bs = case_of percent (book_of bs)
