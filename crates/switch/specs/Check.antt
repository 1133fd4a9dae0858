-- The check of a call that switches one branch.
use Rattle.std.specs.Prelude.{Bool, List, [], ◌∷◌, ℕ, eqb, leb, Result, Ok}
use Rattle.answer.specs.declared.Refusal.{Refusal}
use Rattle.answer.specs.declared.Refusal.TheVariants.{NoSuchBranch}
use Rattle.answer.specs.Answer.{Answer, Accepted, and_then, refuse_if}
use Rattle.layout.specs.Book.{branch}
use Rattle.layout.specs.Layout.{branches_in, book_of}
use Rattle.state.specs.Call.{lent_check}

-- Refusals 21 and 1 to 8 as of every call, then 9: no such branch; else whether its status is v already.
unfoldable pub branch_status : ℕ → List ℕ → ℕ → ℕ → ℕ → ℕ → Result Bool Refusal
branch_status percent bs flows bytes b v =
    and_then (lent_check percent bs flows bytes)
    (refuse_if (leb (branches_in bs) b) NoSuchBranch
    (Ok (eqb (branch (book_of bs) b).status v)))

-- The same, but refused for the reason given where it has that status.
unfoldable pub branch_check : ℕ → List ℕ → ℕ → ℕ → ℕ → ℕ → Refusal → Answer
branch_check percent bs flows bytes b v why =
    and_then (lent_check percent bs flows bytes)
    (refuse_if (leb (branches_in bs) b) NoSuchBranch
    (refuse_if (eqb (branch (book_of bs) b).status v) why
    Accepted))

abbrev pub branch_numbers : List ℕ
branch_numbers = 21 ∷ 1 ∷ 2 ∷ 3 ∷ 4 ∷ 5 ∷ 6 ∷ 7 ∷ 8 ∷ 9 ∷ []
