-- A row of 256 places with one of them written.
use Rattle.std.specs.Prelude.{◌≡◌, List, ℕ, length, set}

pub record With {A : Type 0} (row : List A) (k : ℕ) (x : A) (r : List A) : Type 0 where
  pub row_is : r ≡ set row k x
  pub long : length row ≡ 256
