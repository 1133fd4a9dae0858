-- What the commands on tables and books do: their numbers are good, and the call is made on parts of the spaces, all else being as it was; or
-- nothing is changed.
use Rattle.std.specs.Prelude.{◌≡◌, Bool, true, false, ◌&&◌, List, ℕ, ◌+◌, ◌*◌, ◌≤◌, leb, ℤ, length, take, drop, Option, Some, None}
use Rattle.rows.specs.Row.{nth, two_at, up_to}
use Rattle.answer.specs.Answer.{Answer, Accepted}
use Rattle.layout.specs.declared.Form.{Form}
use Rattle.layout.specs.Form.{form_of}
use Rattle.layout.specs.Layout.{bytes_for}
use Rattle.pack.specs.Write.{BookWritten}
use Rattle.book.specs.Read.{BookRead}
use Rattle.forms.specs.Move.{BookMoved}
use Rattle.meters.specs.Registers.{Registers, registers}
use Rattle.meters.specs.Promise.{Metered}
use Rattle.spaces.specs.InsideNumbers.{good}
use Rattle.spaces.specs.InsideStream.{four_at}
use Rattle.tables.specs.declared.Writing.{Writing}
use Rattle.tables.specs.declared.Lists.{Lists}

-- Where its numbers are fine a command takes all its bytes and does what it says; a bad one takes none and changes nothing.
pub data Runs (fine : Bool) (size : ℕ) (done unchanged : Type 0) (r : Option ℕ) : Type 0 where
  ran : fine ≡ true → r ≡ Some size → done → Runs fine size done unchanged r
  bad : fine ≡ false → r ≡ None → unchanged → Runs fine size done unchanged r

-- How many bytes a command of so many takes, by the answer of its call: a bad one makes none.
abbrev pub taken : {A : Type 0} → ℕ → Option A → Option ℕ
taken size None = None
taken size (Some answer) = Some size

-- ---- `R`: the book is read into the first a injections and the first b branch numbers.
pub record ReadInto (bs : List ℕ) (a b : ℕ) (injections injections' : List ℤ) (branches branches' : List ℕ) : Type 0 where
  pub answer : Answer
  pub read : BookRead bs (take a injections) (take a injections') (take b branches) (take b branches') answer
  pub injections_kept : drop a injections' ≡ drop a injections
  pub branches_kept : drop b branches' ≡ drop b branches

abbrev pub ReadRun : List ℕ → List ℕ → List ℤ → List ℤ → List ℕ → List ℕ → Option ℕ → Type 0
ReadRun rest bs injections injections' branches branches' r =
    Runs (good rest 1 (length injections) && good rest 3 (length branches)) 5
    (ReadInto bs (two_at rest 1) (two_at rest 3) injections injections' branches branches') ((injections' ≡ injections) × (branches' ≡ branches)) r

-- ---- `W` and `X`: a book in form f is written into the first bytes of the space; accepted, it has the written length, else the one that it had.
pub record WrittenInto (f : Form) (n m factor : ℕ) (injections : List ℤ) (branches : List ℕ)
    (room : ℕ) (book : List ℕ) (bytes : ℕ) (book' : List ℕ) (bytes' : ℕ) : Type 0 where
  pub answer : Answer
  pub written : BookWritten f n m factor injections branches (take room book) (take room book') answer
  pub kept : drop room book' ≡ drop room book
  pub if_accepted : answer ≡ Accepted → bytes' ≡ bytes_for f n m
  pub if_refused : (answer ≡ Accepted → ⊥) → bytes' ≡ bytes
  pub within : bytes' ≤ length book

-- Any counts and factor may be named.
abbrev pub head_good : List ℕ → Bool
head_good rest = (good rest 1 65535 && good rest 3 65535) && good rest 5 65535

abbrev pub write_good : List ℕ → ℕ → ℕ → ℕ → Bool
write_good rest injections branches book = ((head_good rest && good rest 7 injections) && good rest 9 branches) && good rest 11 book

-- All six numbers, each within what it may be.
pub record WriteAsked (rest : List ℕ) (injections branches book : ℕ) (w : Writing) : Type 0 where
  pub fine : write_good rest injections branches book ≡ true
  pub buses_is : w.buses ≡ two_at rest 1
  pub count_is : w.count ≡ two_at rest 3
  pub factor_is : w.factor ≡ two_at rest 5
  pub injections_is : w.injections ≡ two_at rest 7
  pub branches_is : w.branches ≡ two_at rest 9
  pub room_is : w.room ≡ two_at rest 11
  pub few_injections : w.injections ≤ injections
  pub few_branches : w.branches ≤ branches
  pub few_bytes : w.room ≤ book
  pub within : 13 ≤ length rest

abbrev pub WriteRun : Form → List ℕ → List ℤ → List ℕ → List ℕ → ℕ → List ℕ → ℕ → Option ℕ → Type 0
WriteRun f rest injections branches book bytes book' bytes' r =
    Runs (write_good rest (length injections) (length branches) (length book)) 13
    (WrittenInto f (two_at rest 1) (two_at rest 3) (two_at rest 5) (take (two_at rest 7) injections) (take (two_at rest 9) branches) (two_at rest 11)
    book bytes book' bytes')
    ((book' ≡ book) × (bytes' ≡ bytes)) r

-- ---- `L`: the book is moved to the form of a byte, 1 being new, into the first c bytes of the shelf.
pub record MovedInto (bs : List ℕ) (f : Form) (c : ℕ) (shelf shelf' : List ℕ) : Type 0 where
  pub answer : Answer
  pub moved : BookMoved bs f (take c shelf) (take c shelf') answer
  pub kept : drop c shelf' ≡ drop c shelf

-- The stream has all four bytes, the form's is no more than 1, and the number after it is not above the shelf.
abbrev pub move_good : List ℕ → ℕ → Bool
move_good rest shelf = leb 4 (length rest) && (leb (nth rest 1) 1 && leb (two_at rest 2) shelf)

abbrev pub MoveRun : List ℕ → List ℕ → List ℕ → List ℕ → Option ℕ → Type 0
MoveRun rest bs shelf shelf' r =
    Runs (move_good rest (length shelf)) 4 (MovedInto bs (form_of (nth rest 1)) (two_at rest 2) shelf shelf') (shelf' ≡ shelf) r

-- ---- `M`: four lengths, the lent count and the supply, a byte each, and then the readings, four bytes each.
pub record ListsAsked (rest : List ℕ) (l : Lists) : Type 0 where
  pub first_is : l.first ≡ nth rest 1
  pub second_is : l.second ≡ l.first + nth rest 2
  pub third_is : l.third ≡ l.second + nth rest 3
  pub fourth_is : l.fourth ≡ l.third + nth rest 4
  pub few : l.fourth ≤ 1020

-- So many readings, from the one of number i on.
abbrev pub readings_at : List ℕ → ℕ → ℕ → List ℕ
readings_at rest i n = up_to n (λ j. four_at rest (7 + 4 * (i + j)))

-- The four lists stand one after another.
abbrev pub registers_in : List ℕ → ℕ → Registers
registers_in rest supply =
    registers (readings_at rest 0 (nth rest 1)) (readings_at rest (nth rest 1) (nth rest 2)) (readings_at rest (nth rest 1 + nth rest 2) (nth rest 3))
    (readings_at rest (nth rest 1 + nth rest 2 + nth rest 3) (nth rest 4)) supply

pub record MeteredInto (R : Registers) (n : ℕ) (injections injections' : List ℤ) : Type 0 where
  pub answer : Answer
  pub metered : Metered R (take n injections) (take n injections') answer
  pub kept : drop n injections' ≡ drop n injections

abbrev pub meters_size : List ℕ → ℕ
meters_size rest = 7 + 4 * (nth rest 1 + nth rest 2 + nth rest 3 + nth rest 4)

abbrev pub meters_good : List ℕ → ℕ → Bool
meters_good rest room = leb 7 (length rest) && (leb (nth rest 5) room && leb (meters_size rest) (length rest))

abbrev pub MetersRun : List ℕ → List ℤ → List ℤ → Option ℕ → Type 0
MetersRun rest injections injections' r =
    Runs (meters_good rest (length injections)) (meters_size rest)
    (MeteredInto (registers_in rest (nth rest 6)) (nth rest 5) injections injections') (injections' ≡ injections) r
