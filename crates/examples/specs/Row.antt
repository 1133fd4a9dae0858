-- A row of the table of marked examples: a book or registers, and what must then be shown.
use Rattle.std.specs.Prelude.{◌≡◌, List, [], ◌∷◌, ℕ, ◌*◌, ◌≤◌, ◌<◌, ℤ, length, get_or, take}
use Rattle.answer.specs.Answer.{Answer, Accepted, Nowhere, Said, SaidBy, no_group}
use Rattle.bits.specs.Field.{set_bit}
use Rattle.layout.specs.Book.{Book, count, in_form}
use Rattle.layout.specs.Layout.{encode}
use Rattle.verdict.specs.Record.{record_at}
use Rattle.verdict.specs.Update.{Lent, Beyond}
use Rattle.record.specs.Inside.{record_bytes}
use Rattle.state.specs.Case.{case_of}
use Rattle.state.specs.Call.{lent}
use Rattle.screen.specs.Promise.{ScreenEnds}
use Rattle.outage.specs.Promise.{TakeEnds}
use Rattle.demands.specs.Run.{Run}
use Rattle.meters.specs.Registers.{Registers}
use Rattle.meters.specs.Promise.{Metered}

-- What is shown of one branch: a short one, joined or islanding, with its shortage and the buses of its group.
pub data Sight : Type 0 where
  out : Sight
  carries : Sight
  short : ℕ → List ℕ → Sight
  islands : ℕ → List ℕ → Sight

-- The 16 bytes of a group of buses.
unfoldable pub group_bytes : List ℕ → List ℕ
group_bytes [] = no_group
group_bytes (i ∷ rest) = set_bit (group_bytes rest) i 1

-- Bytes 0 to 19 of its record.
unfoldable pub sight_bytes : Sight → List ℕ
sight_bytes out = record_bytes 0 0 no_group []
sight_bytes carries = record_bytes 1 0 no_group []
sight_bytes (short v group) = record_bytes 2 v (group_bytes group) []
sight_bytes (islands v group) = record_bytes 3 v (group_bytes group) []

-- A book and what is shown of its branches in their order; a book that is refused with 12, its shortage and group;
-- a book, a branch that is taken out, the book that is left and what is then shown, or the shortage and group with which that is refused;
-- registers with the lent output, the number of the answer and the output left.
pub data Row : Type 0 where
  shows : Book → List Sight → Row
  refuses : Book → ℕ → List ℕ → Row
  takes : Book → ℕ → Book → List Sight → Row
  keeps : Book → ℕ → ℕ → List ℕ → Row
  meters : Registers → List ℤ → ℕ → List ℤ → Row

-- What a screen of the book b then leaves, at the percentage of the table.
pub record Shows (percent : ℕ) (b : Book) (sights : List Sight) (before after : Lent) (r : Answer) : Type 0 where
  pub answer : SaidBy Accepted r
  pub one_each : length sights ≡ count b
  pub records : (k : ℕ) → k < count b → take 20 (record_at after.table k) ≡ sight_bytes (get_or sights k out)
  pub beyond : Beyond (case_of percent b) before after

pub record Refuses (v : ℕ) (group : List ℕ) (before after : Lent) (r : Answer) : Type 0 where
  pub answer : Said r 12 v (group_bytes group) Nowhere
  pub kept : after ≡ before

-- What a call that makes the book B the book D, in the form of B, then leaves.
pub record Takes (B D : Book) (sights : List Sight) (before after : Lent) (r : Answer) : Type 0 where
  pub answer : SaidBy Accepted r
  pub book_is : after.book ≡ encode (in_form B.form D)
  pub one_each : length sights ≡ count B
  pub records : (k : ℕ) → k < count B → take 20 (record_at after.table k) ≡ sight_bytes (get_or sights k out)

pub record Leaves (number : ℕ) (output left : List ℤ) (r : Answer) : Type 0 where
  pub answer : Said r number 0 no_group Nowhere
  pub output_is : left ≡ output

-- Any result that the promise allows on the encoded book, lent enough space, is as the row says.
abbrev pub Screens : ℕ → Book → (Lent → Lent → Answer → Type 0) → Type 0
Screens percent b says =
    (flow : List ℤ) (table : List ℕ) (after : Lent) (r : Answer) → count b ≤ length flow → 52 * count b ≤ length table
    → ScreenEnds percent (lent (encode b) flow table) after r → says (lent (encode b) flow table) after r

-- The same of a call on what a run left of that book.
abbrev pub Calls : ℕ → Book → ℕ → (Lent → Lent → Answer → Type 0) → Type 0
Calls percent B b says =
    (flow : List ℤ) (table : List ℕ) (after : Lent) (r : Answer) → Run percent (lent (encode B) flow table)
    → TakeEnds percent b (lent (encode B) flow table) after r → says (lent (encode B) flow table) after r

abbrev pub Holds : ℕ → Row → Type 0
Holds percent (shows b sights) = Screens percent b (Shows percent b sights)
Holds percent (refuses b v group) = Screens percent b (Refuses v group)
Holds percent (takes b k d sights) = Calls percent b k (Takes b d sights)
Holds percent (keeps b k v group) = Calls percent b k (Refuses v group)
Holds percent (meters R space number output) = (left : List ℤ) (r : Answer) → Metered R space left r → Leaves number output left r
