-- The book in another form: when it is well formed, and what its bytes then say.
use mathlib.Core.Path.{◌≡◌, refl, sym, ap, ◌∙◌}
use mathlib.Core.Bool.{false, not}
use mathlib.Core.List.{List}
use Prim.Native.Nat.{ℕ, ◌<◌}
use native.Mathlib.Omega.{arith}
use borrow.Author.Tests.{eqb-true, eq-eqb, not-false}
use Rattle.rows.proofs.Row.{some_same, some_never, no_some}
use Rattle.answer.specs.Answer.{Answer, Accepted}
use Rattle.answer.proofs.Said.{said_same}
use Rattle.quantity.specs.declared.Kva.{Kva}
use Rattle.quantity.specs.Rating.{in_kva}
use Rattle.layout.specs.declared.Form.{Form}
use Rattle.layout.specs.declared.Form.TheVariants.{Old, New}
use Rattle.layout.specs.Book.{Book, count, branch, in_form, WellFormed}
use Rattle.layout.specs.Layout.{form_in, book_of, encode}
use Rattle.layout.specs.Check.{check_of}
use Rattle.layout.proofs.AcceptedWhere.{valid_accepted}
use Rattle.layout.proofs.WellFormed.{accepted_well, form_of_lem}
use Rattle.layout.proofs.DecodeEncode.{valid_encode, book_encode}
use Rattle.pack.proofs.WrittenOnce.{SameWritten}
use Rattle.forms.specs.Move.{differs, ratings_differ, would_lose, BookMoved}

-- ---- ratings that are equal on every branch

abbrev pub Equal : Book → Type 0
Equal b = (k : ℕ) → k < count b → (branch b k).kva2 ≡ (branch b k).kva

pub equal_ratings : (b : Book) → ratings_differ b ≡ false → Equal b
equal_ratings b e k h =
    let z = sym (eqb-true (branch b k).kva.0 (branch b k).kva2.0 (not-false _ (no_some (λ i. differs (branch b i)) (count b) e k h))) in
    λ i. in_kva (z i)

pub ratings_equal : (b : Book) → Equal b → ratings_differ b ≡ false
ratings_equal b e =
    some_same (count b) (λ k. differs (branch b k)) (λ k. false) (λ k h. ap not (eq-eqb _ _ (sym (ap (λ (x : Kva). x.0) (e k h)))))
    ∙ some_never (λ k. false) (count b) (λ k. refl)

-- The form asked for holds the ratings exactly where it is the new one or they are equal.
pub holds_equal : (f : Form) (b : Book) → would_lose f (ratings_differ b) ≡ false → f ≡ Old → Equal b
holds_equal Old b h e = equal_ratings b h
holds_equal New b h e = let z : ◌≡◌ {A = ℕ} 0 1 = cc in absurd (omega arith)

pub equal_holds : (f : Form) (b : Book) → (f ≡ Old → Equal b) → would_lose f (ratings_differ b) ≡ false
equal_holds Old b h = ratings_equal b (h refl)
equal_holds New b h = refl

-- A book's own form holds its ratings.
pub own_holds : (bs : List ℕ) → check_of bs ≡ Accepted → would_lose (form_in bs) (ratings_differ (book_of bs)) ≡ false
own_holds bs e = equal_holds (form_in bs) (book_of bs) (λ o. (accepted_well bs e).one_figure (form_of_lem bs ∙ o))

-- ---- the book in form f

module _ (bs : List ℕ) (f : Form) (ok : check_of bs ≡ Accepted) (holds : would_lose f (ratings_differ (book_of bs)) ≡ false) where
  pub moved_well : WellFormed (in_form f (book_of bs))
  moved_well =
      let w = accepted_well bs ok in
      record {
        some_bus = w.some_bus;
        few_buses = w.few_buses;
        few_branches = w.few_branches;
        some_factor = w.some_factor;
        small_factor = w.small_factor;
        sizes = w.sizes;
        good = w.good;
        one_figure = holds_equal f (book_of bs) holds;
        balanced = w.balanced;
      }

  pub moved_accepted : check_of (encode (in_form f (book_of bs))) ≡ Accepted
  moved_accepted = valid_accepted _ (valid_encode (in_form f (book_of bs)) moved_well)

  pub moved_book : book_of (encode (in_form f (book_of bs))) ≡ in_form f (book_of bs)
  moved_book = book_encode (in_form f (book_of bs)) moved_well

-- ---- one result

pub moved_once : {bs : List ℕ} {f : Form} {out o o' : List ℕ} {r r' : Answer} → BookMoved bs f out o r → BookMoved bs f out o' r'
    → SameWritten r r' o o'
moved_once p q = record { answers = said_same p.answer q.answer; bytes = p.left ∙ sym q.left }
