-- What the promise of reading fixes: one result, and a refusal that says its number and place alone and leaves all as it was.
use mathlib.Core.Path.{◌≡◌, refl, sym, ◌∙◌}
use mathlib.Core.Bool.{◌||◌}
use mathlib.Core.List.{List, ◌++◌}
use Prim.Native.Nat.{ℕ, ◌*◌, ◌≤◌}
use borrow.Author.Tests.{le-ltb}
use Rattle.rows.specs.Row.{member}
use lib.Dec.{ltb}
use lib.IntN.{ℤ}
use lib.ListN.{length, drop}
use Rattle.answer.specs.declared.Refusal.TheVariants.{TooShort}
use Rattle.answer.specs.Answer.{Answer, Accepted, SaidBy}
use Rattle.answer.proofs.Refusals.{past_both, leaves}
use Rattle.layout.specs.Form.{fields}
use Rattle.layout.specs.Layout.{buses_in, branches_in, form_in, book_of, table_of}
use Rattle.layout.specs.Check.{check_of, check_numbers}
use Rattle.answer.proofs.Said.{said_same}
use Rattle.answer.proofs.Giving.{Gives}
use Rattle.answer.proofs.Numbers.{gives_if, gives_then, gives_said, said_is, inside, gives_more}
use Rattle.layout.proofs.Given.{check_gives}
use Rattle.book.specs.Read.{read_check, read_numbers, BookRead}

-- The answer by the numbers that it may give.
pub read_gives : (bs : List ℕ) (i j : ℕ) → Gives read_numbers (read_check bs i j)
unfolding read_check member inside
read_gives bs i j =
    gives_then read_numbers (check_of bs) _ (gives_more check_numbers read_numbers (check_of bs) refl (check_gives bs))
    (gives_if read_numbers (ltb i (buses_in bs) || ltb j (fields (form_in bs) * branches_in bs)) TooShort Accepted refl tt)

pub read_said : (bs : List ℕ) (i j : ℕ) {r : Answer} → r ≡ (read_check bs i j) → SaidBy (read_check bs i j) r
unfolding member
read_said bs i j = gives_said read_numbers (read_check bs i j) refl (read_gives bs i j)

pub read_answer : {bs : List ℕ} {inj i : List ℤ} {bra b : List ℕ} {r : Answer} → BookRead bs inj i bra b r → r ≡ (read_check bs (length inj) (length bra))
unfolding member
read_answer {bs} {inj} {i} {bra} {b} {r} d = said_is read_numbers _ refl (read_gives bs (length inj) (length bra)) d.answer

pub record SameRead (r r' : Answer) (i i' : List ℤ) (b b' : List ℕ) : Type 0 where
  pub answers : r ≡ r'
  pub injections : i ≡ i'
  pub branches : b ≡ b'

pub read_once : (bs : List ℕ) (inj i i' : List ℤ) (bra b b' : List ℕ) (r r' : Answer) → BookRead bs inj i bra b r → BookRead bs inj i' bra b' r' → SameRead r r' i i' b b'
read_once bs inj i i' bra b b' r r' p q = record {
  answers = said_same p.answer q.answer;
  injections = p.injections_left ∙ sym q.injections_left;
  branches = p.branches_left ∙ sym q.branches_left;
}

pub read_kept : (bs : List ℕ) (inj i : List ℤ) (bra b : List ℕ) (r : Answer) → BookRead bs inj i bra b r → (r ≡ Accepted → ⊥) → (i ≡ inj) × (b ≡ bra)
read_kept bs inj i bra b r d a =
    let o = read_check bs (length inj) (length bra) in
    let e : o ≡ Accepted → ⊥ = rw (read_answer d) at a in
    (d.injections_left ∙ leaves o inj ((book_of bs).injections ++ drop (buses_in bs) inj) e, d.branches_left ∙ leaves o bra (table_of (form_in bs) (book_of bs).branches ++ drop (fields (form_in bs) * branches_in bs) bra) e)

-- A book is read exactly where it is accepted and the tables are long enough.
pub read_checked : (bs : List ℕ) (i j : ℕ) → read_check bs i j ≡ Accepted → check_of bs ≡ Accepted
unfolding read_check
read_checked bs i j e = (past_both (check_of bs) _ e).0

pub readable : (bs : List ℕ) (i j : ℕ) → check_of bs ≡ Accepted → buses_in bs ≤ i → fields (form_in bs) * branches_in bs ≤ j → read_check bs i j ≡ Accepted
unfolding read_check
readable bs i j e p q = rw (e, le-ltb i (buses_in bs) p, le-ltb j (fields (form_in bs) * branches_in bs) q) refl
