-- What printing a line, and the lines of an accepted book, asks and leaves.
use Rattle.std.specs.Prelude.{◌≡◌, List, ℕ, ◌≤◌, length}
use Rattle.layout.specs.Layout.{branches_in}
use Rattle.printing.specs.List.{line_of}

-- A text of at most so many bytes was handed to `write` with its newline.
pub record Handed (text : List ℕ) (most r : ℕ) : Type 0 where
  pub whole : r ≡ length (line_of text)
  pub few : r ≤ most

-- A book that has at most 256 branches, and a table with room for as many records.
pub record Listable (bs table : List ℕ) : Type 0 where
  pub branches_few : branches_in bs ≤ 256
  pub table_long : length table ≡ 13312
