-- The rows of a case hold the book's numbers.
use mathlib.Core.Path.{◌≡◌, refl, sym, ap, ◌∙◌}
use mathlib.Core.Bool.{false}
use mathlib.Core.List.{List}
use Prim.Native.Nat.{ℕ, zero, suc, ◌<◌, ◌≤◌}
use native.Mathlib.Decide.{dec_lt}
use native.Mathlib.Omega.{arith}
use lib.Dec.{eqb}
use lib.IntN.{ℤ, pos}
use lib.ListN.{length, get_or, replicate, get_or-eq_default}
use Rattle.answer.specs.Answer.{Accepted}
use Rattle.rows.specs.Row.{up_to, headed}
use Rattle.rows.proofs.Row.{length_up_to, get_d_up_to, headed_at, headed_rest}
use Rattle.quantity.specs.Signed.{pos_part, neg_part}
use Rattle.quantity.specs.declared.Kw.{Kw}
use Rattle.quantity.specs.Inside.{in_kw, kw_at}
use Rattle.quantity.specs.Rating.{limit_of}
use Rattle.layout.specs.declared.Branch.{Branch}
use Rattle.layout.specs.Book.{no_branch, branch, injection}
use Rattle.layout.specs.Layout.{buses_in, branches_in, branch_at, injection_at, book_of, branch_after}
use Rattle.layout.specs.Check.{check_of}
use Rattle.layout.proofs.WellFormed.{buses_of, count_of}
use Rattle.layout.proofs.AcceptedWhere.{InRange, accepted_valid}
use Rattle.layout.specs.declared.Head.{Head}
use Rattle.book.specs.declared.cases.BusRows.{BusRows}
use Rattle.book.specs.declared.cases.BranchRows.{BranchRows}
use Rattle.layout.specs.Inside.{HeadRead}
use Rattle.book.specs.Inside.{GainsRead, BranchesRead, RowsRead}

pub head_in_range : (bs : List ℕ) (h : Head) → HeadRead bs h → check_of bs ≡ Accepted → InRange h.buses h.branches h.factor
head_in_range bs h w e = rw (w.buses_are, w.branches_are, w.factor_is) (accepted_valid bs e).range

get_d_copies : {A : Type 0} (n k : ℕ) (x : A) → get_or (replicate n x) k x ≡ x
get_d_copies zero k x = refl
get_d_copies (suc n) zero x = refl
get_d_copies (suc n) (suc k) x = get_d_copies n k x

module _ {A B : Type 0} where
  -- A row of g of each item, and g of nothing beyond, is g of the list at every place.
  row_of : (f : ℕ → B) (g : B → A) (d : B) (x : A) (m size k : ℕ) → x ≡ g d → get_or (headed m (λ i. g (f i)) (replicate size x)) k x ≡ g (get_or (up_to m f) k d)
  row_of f g d x m size k e = go (dec_lt k m)
    where
      go : Dec (k < m) → get_or (headed m (λ i. g (f i)) (replicate size x)) k x ≡ g (get_or (up_to m f) k d)
      go (yes l) = headed_at m (λ i. g (f i)) (replicate size x) k x l ∙ ap g (sym (get_d_up_to m f k d l))
      go (no l) =
          let past : length (up_to m f) ≤ k = omega (arith, length_up_to m f) in
          headed_rest m (λ i. g (f i)) (replicate size x) k x (omega arith) ∙ get_d_copies size k x ∙ e ∙ ap g (sym (get_or-eq_default (up_to m f) d past))

module _ (bs : List ℕ) (h : Head) (w : HeadRead bs h) where
  branch_row : {A : Type 0} (g : Branch → A) (x : A) (k : ℕ) → x ≡ g no_branch
      → get_or (headed h.branches (λ i. g (branch_after h.form h.buses bs i)) (replicate 256 x)) k x ≡ g (branch (book_of bs) k)
  unfolding book_of
  branch_row g x k e = rw (w.form_is, w.buses_are, w.branches_are) (row_of (branch_at bs) g no_branch x (branches_in bs) 256 k e)

  bus_row : (g : ℤ → ℕ) (k : ℕ) → 0 ≡ g (pos 0) → get_or (headed h.buses (λ i. g (injection_at bs i)) (replicate 128 0)) k 0 ≡ g (injection (book_of bs) k)
  unfolding book_of
  bus_row g k e = rw w.buses_are (row_of (injection_at bs) g (pos 0) 0 (buses_in bs) 128 k e)

  factor_read : h.factor ≡ (book_of bs).factor
  unfolding book_of
  factor_read = w.factor_is

  kw_row : (percent : ℕ) (g : Branch → ℕ) (k : ℕ) → 0 ≡ g no_branch
      → kw_at (headed h.branches (λ i. in_kw (limit_of (g (branch_after h.form h.buses bs i)) h.factor percent)) (replicate 256 (in_kw 0))) k
      ≡ limit_of (g (branch (book_of bs) k)) (book_of bs).factor percent
  kw_row percent g k e =
      rw (← factor_read)
      (ap (λ (x : Kw). x.0) (branch_row (λ x. in_kw (limit_of (g x) h.factor percent)) (in_kw 0) k (ap in_kw (rw (← e) (omega arith)))))

  pub rows_read : (percent : ℕ) (u : BusRows) (v : BranchRows) → GainsRead bs h.buses u → BranchesRead percent bs h v
      → RowsRead percent (book_of bs) (record {
        buses = h.buses;
        branches = h.branches;
        first = v.first;
        second = v.second;
        served = v.served;
        limit = v.limit;
        loss = v.loss;
        gain = u.gain;
        load = u.load;
      })
  rows_read percent u v p q = record {
    buses_are = w.buses_are ∙ sym (buses_of bs);
    branches_are = w.branches_are ∙ sym (count_of bs);
    first_is = λ k. rw q.first_row (branch_row (λ x. x.first) 0 k refl);
    second_is = λ k. rw q.second_row (branch_row (λ x. x.second) 0 k refl);
    served_is = λ k. rw q.served_row (branch_row (λ x. eqb x.status 1) false k refl);
    limit_is = λ k. rw q.limit_row (kw_row percent (λ x. x.kva.0) k refl);
    loss_is = λ k. rw q.loss_row (kw_row percent (λ x. x.kva2.0) k refl);
    gain_is = λ k. rw p.gain_row (bus_row pos_part k refl);
    load_is = λ k. rw p.load_row (bus_row neg_part k refl);
  }
