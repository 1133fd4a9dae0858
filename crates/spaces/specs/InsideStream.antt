-- Numbers of the stream, the high byte first, signed ones in two's complement; the bytes of a book in it, a percentage, and the place that a command sets.
use Rattle.std.specs.Prelude.{◌≡◌, Bool, List, ℕ, ◌+◌, ◌-◌, ◌*◌, cond, ◌&&◌, leb, ltb, ℤ, pos, negsuc, length, set, replicate, Option, Some, None}
use Rattle.rows.specs.Row.{nth, headed, two_at}

abbrev pub four_at : List ℕ → ℕ → ℕ
four_at rest at = two_at rest at * 65536 + two_at rest (at + 2)

-- A number from 2,147,483,648 on stands for itself less 4,294,967,296; negsuc n is -1 - n.
abbrev pub signed_from : ℕ → ℤ
signed_from x = cond (ltb x 2147483648) (pos x) (negsuc (4294967295 - x))

-- `B`: the stream has the count and so many bytes after it, and the book space holds them.
abbrev pub book_reach : List ℕ → ℕ → Bool
book_reach rest room = leb 3 (length rest) && (leb (two_at rest 1) room && leb (3 + two_at rest 1) (length rest))

-- The first bytes of the book space are these, and there are so many; a bad command changes nothing.
pub record BookCopied (rest book book' : List ℕ) (r : Option ℕ) : Type 0 where
  pub count_is : r ≡ cond (book_reach rest (length book)) (Some (two_at rest 1)) None
  pub left : book' ≡ cond (book_reach rest (length book)) (headed (two_at rest 1) (λ i. nth rest (3 + i)) book) book

-- `Y`: the percentage is the byte after the letter; where the stream ends before it, the command takes no byte and changes nothing.
pub record PercentSet (rest : List ℕ) (percent percent' : ℕ) (r : Option ℕ) : Type 0 where
  pub took : r ≡ cond (leb 2 (length rest)) (Some 2) None
  pub left : percent' ≡ cond (leb 2 (length rest)) (nth rest 1) percent

-- The stream has the bytes of the command, and the space the place that it names.
abbrev pub in_reach : ℕ → List ℕ → ℕ → Bool
in_reach size rest room = leb size (length rest) && ltb (two_at rest 1) room

-- A command of so many bytes sets the place that it names; a bad one takes no byte and changes nothing.
pub record PlaceSet {A : Type 0} (size : ℕ) (v : A) (rest : List ℕ) (space space' : List A) (r : Option ℕ) : Type 0 where
  pub took : r ≡ cond (in_reach size rest (length space)) (Some size) None
  pub left : space' ≡ cond (in_reach size rest (length space)) (set space (two_at rest 1) v) space

-- `F`, `T`, `I` and `N` each set one place of their own space; another letter takes no byte. The other three are as they were.
pub data PlacesSet (letter : ℕ) (rest : List ℕ) (flow : List ℤ) (table : List ℕ) (injections : List ℤ) (branches : List ℕ)
    (flow' : List ℤ) (table' : List ℕ) (injections' : List ℤ) (branches' : List ℕ) (r : Option ℕ) : Type 0 where
  in_flow : letter ≡ 70 → PlaceSet 7 (signed_from (four_at rest 3)) rest flow flow' r → table' ≡ table → injections' ≡ injections → branches' ≡ branches
      → PlacesSet letter rest flow table injections branches flow' table' injections' branches' r
  in_table : letter ≡ 84 → PlaceSet 4 (nth rest 3) rest table table' r → flow' ≡ flow → injections' ≡ injections → branches' ≡ branches
      → PlacesSet letter rest flow table injections branches flow' table' injections' branches' r
  in_injections : letter ≡ 73 → PlaceSet 7 (signed_from (four_at rest 3)) rest injections injections' r → flow' ≡ flow → table' ≡ table → branches' ≡ branches
      → PlacesSet letter rest flow table injections branches flow' table' injections' branches' r
  in_branches : letter ≡ 78 → PlaceSet 7 (four_at rest 3) rest branches branches' r → flow' ≡ flow → table' ≡ table → injections' ≡ injections
      → PlacesSet letter rest flow table injections branches flow' table' injections' branches' r
  in_none : (letter ≡ 70 → ⊥) → (letter ≡ 84 → ⊥) → (letter ≡ 73 → ⊥) → (letter ≡ 78 → ⊥) → r ≡ None
      → flow' ≡ flow → table' ≡ table → injections' ≡ injections → branches' ≡ branches
      → PlacesSet letter rest flow table injections branches flow' table' injections' branches' r

-- `P`: every flow, injection and branch number is 7777777, every table, book and shelf byte 170.
pub record Spoilt (book : List ℕ) (flow : List ℤ) (table : List ℕ) (injections : List ℤ) (branches shelf : List ℕ) : Type 0 where
  pub book_is : book ≡ replicate 2100 170
  pub flow_is : flow ≡ replicate 256 (pos 7777777)
  pub table_is : table ≡ replicate 13312 170
  pub injections_is : injections ≡ replicate 128 (pos 7777777)
  pub branches_is : branches ≡ replicate 1280 7777777
  pub shelf_is : shelf ≡ replicate 2100 170
