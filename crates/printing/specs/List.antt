-- The whole list of a book, and what printing it promises.
use Rattle.std.specs.Prelude.{◌≡◌, cond, List, [], ◌∷◌, ◌++◌, ℕ, zero, suc, eqb, pos, length, replicate}
use Rattle.answer.specs.Answer.{Answer, settled}
use Rattle.layout.specs.Layout.{branches_in}
use Rattle.verdict.specs.Update.{Lent}
use Rattle.state.specs.Call.{lent}
use Rattle.screen.specs.Promise.{ScreenEnds}
use Rattle.line.specs.Text.{joined}
use Rattle.printing.specs.Lines.{head_text, branch_text, refused_text}
use Rattle.printing.specs.declared.Printout.{Printout}

-- A text and its newline, 10.
abbrev pub line_of : List ℕ → List ℕ
line_of text = text ++ (10 ∷ [])

-- First line: bus count, branch count. Then a line a branch.
abbrev pub accepted_text : List ℕ → List ℕ → List ℕ
accepted_text bs table = line_of (head_text bs) ++ joined (branches_in bs) (λ k. line_of (branch_text table k))

-- A refused book gives one line: `settled` takes the second text where the answer is accepted, and else the first.
abbrev pub list_text : List ℕ → Answer → List ℕ → List ℕ
list_text bs r table = settled r (line_of (refused_text r)) (accepted_text bs table)

-- Line n of a text, counted from 0: the bytes past n newlines and before the next.
unfoldable pub line_at : ℕ → List ℕ → List ℕ
line_at n [] = []
line_at zero (x ∷ xs) = cond (eqb x 10) [] (x ∷ line_at zero xs)
line_at (suc n) (x ∷ xs) = cond (eqb x 10) (line_at n xs) (line_at (suc n) xs)

-- The answer of a screen of the book at 100 of nameplate, lent room for 256 branches: no book is refused for want of it. As many bytes were handed to
-- `write`, line by line, as the list of that answer and of the table left has.
pub record Printed (bs : List ℕ) (r : Printout) : Type 0 where
  pub after : Lent
  pub ends : ScreenEnds 100 (lent bs (replicate 256 (pos 0)) (replicate 13312 0)) after r.answer
  pub long : r.length ≡ length (list_text bs r.answer after.table)
