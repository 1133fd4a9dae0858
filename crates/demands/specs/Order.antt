-- Switchings asked one after another, and the same in another order: document 02, W13, 'Two crews switch in either order'.
use Rattle.std.specs.Prelude.{◌≡◌, Bool, true, false, not, ◌&&◌, ◌||◌, List, [], ◌∷◌, ◌↔◌, ℕ, ◌<◌, eqb}
use Rattle.rows.specs.Row.{nth}
use Rattle.rows.specs.Sum.{Group, differ}
use Rattle.answer.specs.Answer.{Answer, Accepted}
use Rattle.layout.specs.Layout.{branches_in}
use Rattle.verdict.specs.Record.{record_at}
use Rattle.verdict.specs.Update.{Lent}
use Rattle.state.specs.Case.{case_in}
use Rattle.outage.specs.Promise.{TakeEnds}
use Rattle.restore.specs.Promise.{BackEnds}

-- A branch is to be out of service, or in it; and what the call for it then answers and leaves.
pub record Switching : Type 0 where
  pub branch : ℕ
  pub served : Bool

pub record Step : Type 0 where
  pub answer : Answer
  pub left : Lent

-- The call: an outage, or a return.
abbrev pub SwitchEnds : ℕ → ℕ → Bool → Lent → Lent → Answer → Type 0
SwitchEnds percent b false before after r = TakeEnds percent b before after r
SwitchEnds percent b true before after r = BackEnds percent b before after r

-- The calls for a list of switchings in their order, each lent what the one before left; what stands after the last.
abbrev pub InTurn : ℕ → Lent → List Switching → List Step → Type 0
InTurn percent before [] [] = Unit
InTurn percent before [] (t ∷ ts) = ⊥
InTurn percent before (s ∷ ss) [] = ⊥
InTurn percent before (s ∷ ss) (t ∷ ts) = SwitchEnds percent s.branch s.served before t.left t.answer × InTurn percent t.left ss ts

abbrev pub last : Lent → List Step → Lent
last before [] = before
last before (t ∷ ts) = last t.left ts

-- 'Accepted in full': every call is.
abbrev pub InFull : List Step → Type 0
InFull [] = Unit
InFull (t ∷ ts) = (t.answer ≡ Accepted) × InFull ts

-- Branch k is asked to be v.
abbrev pub asks : List Switching → Bool → Group
asks [] v k = false
asks (s ∷ ss) v k = (not (differ s.served v) && eqb k s.branch) || asks ss v k

-- 'Different branches': none is asked for twice.
abbrev pub Different : List Switching → Type 0
Different [] = Unit
Different (s ∷ ss) = ((v : Bool) → asks ss v s.branch ≡ false) × Different ss

-- 'Either order', of any number: the same switchings of different branches.
pub record AnotherOrder (ss zs : List Switching) : Type 0 where
  pub once : Different ss
  pub again : Different zs
  pub same : (v : Bool) (k : ℕ) → asks ss v k ≡ asks zs v k

-- Outages alone (v is false), or returns alone; and each branch asked for is there and not so yet: 'in-service branches' for outages.
abbrev pub AllAre : Bool → List Switching → Type 0
AllAre v ss = (k : ℕ) → asks ss (not v) k ≡ false

abbrev pub Await : ℕ → Bool → Lent → List Switching → Type 0
Await percent v before ss = (k : ℕ) → asks ss v k ≡ true → (k < branches_in before.book) × ((case_in percent before.book).served k ≡ not v)

-- 'Books, verdicts, shortages and groups are equal': the book in every byte, and bytes 0 to 19 of each record.
pub record ShowSame (percent : ℕ) (one two : Lent) : Type 0 where
  pub same_book : one.book ≡ two.book
  pub same_shown : (k : ℕ) → k < (case_in percent two.book).branches → (j : ℕ) → j < 20
      → nth (record_at one.table k) j ≡ nth (record_at two.table k) j

-- 'Either both orders are accepted in full or neither is; where they are' they show the same: the answers r and s of the two calls in one order, r' and
-- s' in the other, and what each order leaves.
pub record EitherOrder (percent : ℕ) (r s r' s' : Answer) (one two : Lent) : Type 0 where
  pub both_or_neither : ((r ≡ Accepted) × (s ≡ Accepted)) ↔ ((r' ≡ Accepted) × (s' ≡ Accepted))
  pub same : (r ≡ Accepted) × (s ≡ Accepted) → ShowSame percent one two
