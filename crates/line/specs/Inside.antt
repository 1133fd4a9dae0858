-- What adding a text to a line asks and leaves.
use Rattle.std.specs.Prelude.{◌≡◌, List, ◌++◌, ℕ, ◌+◌, ◌≤◌, length, take, drop}
use Rattle.line.specs.declared.Line.{Line}

-- Lent bytes that held a line of so many now hold it with the text after it, and past the text what they held.
pub record Added (text before : List ℕ) (at : ℕ) (after : List ℕ) (r : ℕ) : Type 0 where
  pub ends : r ≡ at + length text
  pub holds : take r after ≡ take at before ++ text
  pub rest : drop r after ≡ drop r before

-- There is room for so many bytes more.
abbrev pub Room : ℕ → Line → Type 0
Room n l = l.len + n ≤ length l.bytes.now

-- So a line with a text of at most so many bytes after it, in the same lent bytes.
pub record Adds (text : List ℕ) (most : ℕ) (l l' : Line) : Type 0 where
  pub added : Added text l.bytes.now l.len l'.bytes.now l'.len
  pub short : l'.len ≤ l.len + most
  pub long : length l'.bytes.now ≡ length l.bytes.now
  pub same : l'.bytes.ghost_name ≡ l.bytes.ghost_name
