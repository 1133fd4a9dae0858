-- What the commands that only set a space leave of all spaces: all spoilt, the book set, nothing beside one place set.
use Rattle.std.specs.Prelude.{◌≡◌, cond, List, ℕ, ◌+◌, length, Option, Some, None}
use Rattle.rows.specs.Row.{nth, headed, two_at}
use Rattle.spaces.specs.declared.Spaces.{Spaces}
use Rattle.spaces.specs.InsideStream.{book_reach, Spoilt}

-- And all that these letters never set.
pub record Beside (s s' : Spaces) : Type 0 where
  pub percent_is : s'.percent ≡ s.percent
  pub book_is : s'.book ≡ s.book
  pub bytes_is : s'.bytes ≡ s.bytes
  pub shelf_is : s'.shelf ≡ s.shelf

-- `P`: every space is spoilt, and the book has no bytes.
pub record AllSpoilt (s s' : Spaces) : Type 0 where
  pub spoilt : Spoilt s'.book s'.flow s'.table s'.injections s'.branches s'.shelf
  pub bytes_is : s'.bytes ≡ 0
  pub percent_is : s'.percent ≡ s.percent

-- `B`: the first bytes of the book space are those of the command, and the book has so many; a bad command takes no byte and changes nothing.
pub record BookSet (rest : List ℕ) (s s' : Spaces) (r : Option ℕ) : Type 0 where
  pub took : r ≡ cond (book_reach rest (length s.book)) (Some (3 + two_at rest 1)) None
  pub has_bytes : s'.bytes ≡ cond (book_reach rest (length s.book)) (two_at rest 1) s.bytes
  pub left : s'.book ≡ cond (book_reach rest (length s.book)) (headed (two_at rest 1) (λ i. nth rest (3 + i)) s.book) s.book
  pub flow_is : s'.flow ≡ s.flow
  pub table_is : s'.table ≡ s.table
  pub injections_is : s'.injections ≡ s.injections
  pub branches_is : s'.branches ≡ s.branches
  pub shelf_is : s'.shelf ≡ s.shelf
  pub percent_is : s'.percent ≡ s.percent
