-- What the promise of writing fixes: one result, a refusal that says its number and place alone and leaves all as it was, and a well-formed book.
use mathlib.Core.Path.{◌≡◌, refl, sym, ap, ◌∙◌}
use mathlib.Core.List.{List, ◌++◌}
use Prim.Native.Nat.{ℕ, ◌+◌, ◌*◌, ◌<◌}
use native.Mathlib.Omega.{arith}
use borrow.Author.Tests.{eqb-true}
use lib.IntN.{ℤ}
use lib.ListN.{length, drop}
use Rattle.answer.specs.Answer.{Answer, Accepted}
use Rattle.answer.proofs.Refusals.{leaves}
use Rattle.answer.proofs.Said.{said_same}
use Rattle.rows.specs.Row.{nth}
use Rattle.rows.specs.Sum.{all}
use Rattle.rows.proofs.Sum.{over_same}
use Rattle.quantity.specs.Signed.{pos_part, neg_part}
use Rattle.layout.specs.declared.Form.{Form}
use Rattle.layout.specs.Book.{Book, buses, injection, WellFormed}
use Rattle.layout.specs.Form.{fields}
use Rattle.layout.specs.Layout.{bytes_for, encode}
use Rattle.layout.proofs.Forms.{one_figure}
use Rattle.layout.proofs.Faults.{sound_bus, sound_branch, first_sound}
use Rattle.layout.proofs.WellFormed.{balance_sum}
use Rattle.layout.proofs.DecodeEncode.{length_encode}
use Rattle.pack.specs.Write.{row_at, book_from, entry_fault, row_fault, write_check, BookWritten}
use Rattle.pack.proofs.Given.{write_answer}
use Rattle.pack.proofs.Writable.{Writable, form_from, buses_from, count_from, factor_from, injection_from, branch_from}

pub record SameWritten (r r' : Answer) (o o' : List ℕ) : Type 0 where
  pub answers : r ≡ r'
  pub bytes : o ≡ o'

pub written_once : (form : Form) (n m factor : ℕ) (inj : List ℤ) (bra out o o' : List ℕ) (r r' : Answer) → BookWritten form n m factor inj bra out o r → BookWritten form n m factor inj bra out o' r' → SameWritten r r' o o'
written_once form n m factor inj bra out o o' r r' p q = record { answers = said_same p.answer q.answer; bytes = p.left ∙ sym q.left }

pub written_kept : (form : Form) (n m factor : ℕ) (inj : List ℤ) (bra out o : List ℕ) (r : Answer) → BookWritten form n m factor inj bra out o r → (r ≡ Accepted → ⊥) → o ≡ out
written_kept form n m factor inj bra out o r d a =
    let c = write_check form n m factor inj bra (length out) in
    d.left ∙ leaves c out (encode (book_from form n m factor inj bra) ++ drop (bytes_for form n m) out) (rw (write_answer form n m factor inj bra d) at a)

-- ---- tables that can be written hold a well-formed book

module _ (form : Form) (n m factor : ℕ) (inj : List ℤ) (bra : List ℕ) (room : ℕ) (w : Writable form n m factor inj bra room) where
  abbrev b : Book
  b = book_from form n m factor inj bra

  pub writable_well : WellFormed b
  writable_well =
      let p = buses_from form n m factor inj bra in
      let q = count_from form n m factor inj bra in
      let f = factor_from form n m factor inj bra in
      record {
        some_bus = omega (arith, w.range.some_bus);
        few_buses = omega (arith, w.range.few_buses);
        few_branches = omega (arith, w.range.few_branches);
        some_factor = omega (arith, w.range.some_factor);
        small_factor = omega (arith, w.range.small_factor);
        sizes = λ k h.
            let l : k < n = omega arith in
            rw (injection_from form n m factor inj bra k l) (sound_bus _ _ (first_sound (entry_fault inj) n w.entries k l)).small;
        good = λ k h.
            let l : k < m = omega arith in
            rw (p, branch_from form n m factor inj bra k l) (sound_branch form n (row_at form bra k) (first_sound (row_fault form n bra) m w.rows k l));
        one_figure = λ e k h.
            let l : k < m = omega arith in
            rw (branch_from form n m factor inj bra k l) (one_figure form (λ i. nth bra (fields form * k + i)) (sym (form_from form n m factor inj bra) ∙ e));
        balanced = balance_sum (buses b) (injection b) (rw p
            (over_same n all all _ _ (λ k h. ap pos_part (injection_from form n m factor inj bra k h))
            ∙ eqb-true _ _ w.level
            ∙ sym (over_same n all all _ _ (λ k h. ap neg_part (injection_from form n m factor inj bra k h)))));
      }

  pub long_encode : length (encode b) ≡ bytes_for form n m
  long_encode = length_encode b ∙ rw (form_from form n m factor inj bra, buses_from form n m factor inj bra, count_from form n m factor inj bra) refl
