-- What the commands on a book with its flow and table do, and which command a letter makes.
use Rattle.std.specs.Prelude.{◌≡◌, Bool, ◌&&◌, List, ℕ, leb, length, take, drop, Option, Some, None}
use Rattle.rows.specs.Row.{two_at}
use Rattle.answer.specs.Answer.{Answer}
use Rattle.verdict.specs.Update.{Lent}
use Rattle.state.specs.Call.{lent}
use Rattle.screen.specs.Promise.{ScreenEnds}
use Rattle.outage.specs.Promise.{TakeEnds}
use Rattle.restore.specs.Promise.{BackEnds}
use Rattle.transfer.specs.Promise.{TransferEnds}
use Rattle.spaces.specs.declared.Spaces.{Spaces}
use Rattle.spaces.specs.InsideNumbers.{good}
use Rattle.spaces.specs.InsideStream.{four_at}
use Rattle.tables.specs.Inside.{Runs, ReadRun, MetersRun}

-- What a call on a book is lent.
abbrev pub lent_of : Spaces → Lent
lent_of s = lent s.book s.flow s.table

-- ---- `S`, `O`, `K` and `V`, at the percentage that stands.
-- The first n bytes of the book space, a numbers of the flow space and b bytes of the table space, and what stands beyond them.
abbrev pub first : ℕ → ℕ → ℕ → Lent → Lent
first n a b l = lent (take n l.book) (take a l.flow) (take b l.table)

abbrev pub beyond : ℕ → ℕ → ℕ → Lent → Lent
beyond n a b l = lent (drop n l.book) (drop a l.flow) (drop b l.table)

-- A call is lent those parts: its promise holds of them, and all beyond them is as it was.
pub record Called (promise : Lent → Lent → Answer → Type 0) (n a b : ℕ) (before after : Lent) : Type 0 where
  pub answer : Answer
  pub ends : promise (first n a b before) (first n a b after) answer
  pub kept : beyond n a b after ≡ beyond n a b before

-- The numbers that are lent, each at most its space.
abbrev pub parts_good : List ℕ → Lent → Bool
parts_good rest l = good rest 1 (length l.flow) && good rest 3 (length l.table)

-- A command that makes its call on the parts that its first two numbers name.
abbrev pub PartsRun : Bool → ℕ → (Lent → Lent → Answer → Type 0) → List ℕ → ℕ → Lent → Lent → Option ℕ → Type 0
PartsRun fine size promise rest bytes before after r =
    Runs fine size (Called promise bytes (two_at rest 1) (two_at rest 3) before after) (after ≡ before) r

abbrev pub ScreenRun : ℕ → List ℕ → ℕ → Lent → Lent → Option ℕ → Type 0
ScreenRun percent rest bytes before = PartsRun (parts_good rest before) 5 (ScreenEnds percent) rest bytes before

-- A call on one branch. Any branch may be named.
abbrev pub BranchRun : (ℕ → Lent → Lent → Answer → Type 0) → List ℕ → ℕ → Lent → Lent → Option ℕ → Type 0
BranchRun ends rest bytes before = PartsRun (parts_good rest before && good rest 5 65535) 7 (ends (two_at rest 5)) rest bytes before

abbrev pub OutRun : ℕ → List ℕ → ℕ → Lent → Lent → Option ℕ → Type 0
OutRun percent = BranchRun (TakeEnds percent)

abbrev pub BackRun : ℕ → List ℕ → ℕ → Lent → Lent → Option ℕ → Type 0
BackRun percent = BranchRun (BackEnds percent)

-- A call on two buses, with kW of four bytes. Any may be named: the stream has to hold all 13 bytes, and no more is asked.
abbrev pub TransferRun : ℕ → List ℕ → ℕ → Lent → Lent → Option ℕ → Type 0
TransferRun percent rest bytes before =
    PartsRun (parts_good rest before && leb 13 (length rest)) 13
    (TransferEnds percent (two_at rest 5) (two_at rest 7) (four_at rest 9)) rest bytes before

-- ---- Each letter makes its own call, `D` changes nothing, and another letter takes no byte. The spaces that a call isn't lent are as they were.
pub record Stand (s s' : Spaces) : Type 0 where
  pub percent_is : s'.percent ≡ s.percent
  pub bytes_is : s'.bytes ≡ s.bytes
  pub shelf_is : s'.shelf ≡ s.shelf

pub record Kept (s s' : Spaces) : Type 0 where
  pub stand : Stand s s'
  pub injections_is : s'.injections ≡ s.injections
  pub branches_is : s'.branches ≡ s.branches

pub data CallRun (letter : ℕ) (rest : List ℕ) (s s' : Spaces) (r : Option ℕ) : Type 0 where
  screens : letter ≡ 83 → ScreenRun s.percent rest s.bytes (lent_of s) (lent_of s') r → Kept s s' → CallRun letter rest s s' r
  takes_out : letter ≡ 79 → OutRun s.percent rest s.bytes (lent_of s) (lent_of s') r → Kept s s' → CallRun letter rest s s' r
  brings_back : letter ≡ 75 → BackRun s.percent rest s.bytes (lent_of s) (lent_of s') r → Kept s s' → CallRun letter rest s s' r
  moves_load : letter ≡ 86 → TransferRun s.percent rest s.bytes (lent_of s) (lent_of s') r → Kept s s' → CallRun letter rest s s' r
  reads : letter ≡ 82 → ReadRun rest (take s.bytes s.book) s.injections s'.injections s.branches s'.branches r → lent_of s' ≡ lent_of s → Stand s s'
      → CallRun letter rest s s' r
  meters : letter ≡ 77 → MetersRun rest s.injections s'.injections r → lent_of s' ≡ lent_of s → s'.branches ≡ s.branches → Stand s s'
      → CallRun letter rest s s' r
  dumps : letter ≡ 68 → r ≡ Some 1 → lent_of s' ≡ lent_of s → Kept s s' → CallRun letter rest s s' r
  none : (letter ≡ 83 → ⊥) → (letter ≡ 79 → ⊥) → (letter ≡ 75 → ⊥) → (letter ≡ 86 → ⊥) → (letter ≡ 82 → ⊥) → (letter ≡ 77 → ⊥) → (letter ≡ 68 → ⊥)
      → r ≡ None → lent_of s' ≡ lent_of s → Kept s s' → CallRun letter rest s s' r
