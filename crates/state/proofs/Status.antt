-- The book with one status bit set or cleared makes the case with that branch in or out of service, at every percentage.
use mathlib.Core.Path.{◌≡◌, refl, sym, ap, ◌∙◌, fun_ext}
use mathlib.Core.Bool.{true, cond}
use mathlib.Core.List.{List}
use Prim.Native.Nat.{ℕ, ◌+◌, ◌-◌, ◌<◌}
use native.Mathlib.Omega.{arith}
use native.Mathlib.Decide.{ℕ_discrete, dec_lt}
use borrow.Author.Tests.{eq-eqb, ne_eqb, eqb-true}
use lib.Dec.{eqb}
use lib.ListN.{length-set, get_or-eq_default}
use lib.Seq.{get_or-set_same, get_or-set_other}
use Rattle.rows.specs.Bit.{bit_at, has}
use Rattle.answer.specs.Answer.{Accepted}
use Rattle.quantity.specs.declared.Kva.{Kva}
use Rattle.quantity.specs.Rating.{limit_of}
use Rattle.bits.specs.Field.{set_bit}
use Rattle.bits.proofs.ReadAsPut.{field_one}
use Rattle.layout.specs.declared.Branch.{Branch}
use Rattle.layout.specs.Book.{Book, count, branch, no_branch, restated}
use Rattle.layout.specs.Book as book
use Rattle.bits.specs.Fields.{total}
use Rattle.layout.specs.Form.{branch_widths}
use Rattle.layout.specs.Layout.{bits_for, buses_in, branches_in, form_in, status_bit, branch_at, book_of}
use Rattle.layout.specs.Check.{check_of}
use Rattle.layout.proofs.Forms.{status_read}
use Rattle.layout.proofs.WellFormed.{buses_of, count_of, branch_of_lem}
use Rattle.layout.proofs.StatusChanged.{status_accepted, status_book}
use Rattle.verdict.specs.Case.{Case, with_status}
use Rattle.state.specs.Case.{case_of, case_in}
use Rattle.verdict.proofs.Loss.{Level}

-- ---- The book with branch k's status made v.
module _ (B : Book) (k v : ℕ) (there : k < count B) where
  abbrev restatus : Book
  restatus = book.with_status B k v

  same_of : {A : Type 0} (f : Branch → A) → ((x : Branch) → f (restated x v) ≡ f x) → (j : ℕ) → f (branch restatus j) ≡ f (branch B j)
  same_of f h j = go (ℕ_discrete j k)
    where
      go : Dec (j ≡ k) → f (branch restatus j) ≡ f (branch B j)
      go (yes e) = rw e (ap f (get_or-set_same B.branches k (restated (branch B k) v) no_branch there) ∙ h (branch B k))
      go (no n) = ap f (get_or-set_other B.branches k j (restated (branch B k) v) no_branch n)

  served_of : (j : ℕ) → eqb (branch restatus j).status 1 ≡ cond (eqb j k) (eqb v 1) (eqb (branch B j).status 1)
  served_of j = go (ℕ_discrete j k)
    where
      go : Dec (j ≡ k) → eqb (branch restatus j).status 1 ≡ cond (eqb j k) (eqb v 1) (eqb (branch B j).status 1)
      go (yes e) = rw (e, eq-eqb k k refl) (ap (λ (x : Branch). eqb x.status 1) (get_or-set_same B.branches k (restated (branch B k) v) no_branch there))
      go (no n) = rw (ne_eqb j k n) (ap (λ (x : Branch). eqb x.status 1) (get_or-set_other B.branches k j (restated (branch B k) v) no_branch n))

  case_restatus : (percent : ℕ) → case_of percent restatus ≡ with_status (case_of percent B) k (eqb v 1)
  unfolding case_of
  case_restatus percent =
      let b = length-set B.branches k (restated (branch B k) v) in
      let f = fun_ext (same_of (λ x. x.first) (λ x. refl)) in
      let g = fun_ext (same_of (λ x. x.second) (λ x. refl)) in
      let s = fun_ext served_of in
      let l = fun_ext (same_of (λ x. limit_of x.kva.0 B.factor percent) (λ x. refl)) in
      let m = fun_ext (same_of (λ x. limit_of x.kva2.0 B.factor percent) (λ x. refl)) in
      λ i. record {
        buses = book.buses B;
        branches = b i;
        first = f i;
        second = g i;
        served = s i;
        injection = book.injection B;
        limit = l i;
        loss_limit = m i;
      }

pub branches_of : (percent : ℕ) (bs : List ℕ) → (case_in percent bs).branches ≡ branches_in bs
unfolding case_of
branches_of percent bs = count_of bs

pub case_buses : (percent : ℕ) (bs : List ℕ) → (case_in percent bs).buses ≡ buses_in bs
unfolding case_of
case_buses percent bs = buses_of bs

-- Where both figures are equal on every branch, a loss is judged by the normal limits: past the last branch both are 0.
pub level_of : (percent : ℕ) (b : Book) → ((k : ℕ) → k < count b → (branch b k).kva2 ≡ (branch b k).kva) → Level (case_of percent b)
unfolding case_of
level_of percent b e = fun_ext (λ k. ap (λ (x : Kva). limit_of x.0 b.factor percent) (equal k (dec_lt k (count b))))
  where
    equal : (k : ℕ) → Dec (k < count b) → (branch b k).kva2 ≡ (branch b k).kva
    equal k (yes l) = e k l
    equal k (no n) = rw (get_or-eq_default b.branches no_branch {n = k} (omega arith)) refl

-- The bytes with the one status bit made v: an accepted book, and the case with the branch in or out of service.
pub record Restated (percent : ℕ) (bs : List ℕ) (b v : ℕ) (bs' : List ℕ) : Type 0 where
  pub book : check_of bs' ≡ Accepted
  pub case_is : case_in percent bs' ≡ with_status (case_in percent bs) b (eqb v 1)
  pub count_is : branches_in bs' ≡ branches_in bs

pub restates : (percent : ℕ) (bs : List ℕ) (b v : ℕ) → check_of bs ≡ Accepted → b < branches_in bs → v < 2
    → Restated percent bs b v (set_bit bs (status_bit bs b) v)
restates percent bs b v e l u =
    let bs' = set_bit bs (status_bit bs b) v in
    let c : case_in percent bs' ≡ with_status (case_in percent bs) b (eqb v 1) =
    ap (case_of percent) (status_book bs e b v l u) ∙ case_restatus (book_of bs) b v (omega (arith, count_of bs)) percent in
    record {
      book = status_accepted bs e b v l u;
      case_is = c;
      count_is = sym (branches_of percent bs') ∙ ap (λ (C : Case). C.branches) c ∙ branches_of percent bs;
    }

-- ---- The status of a branch is its status bit.
module _ (percent : ℕ) (bs : List ℕ) (b : ℕ) (there : b < branches_in bs) where
  status_is : (branch_at bs b).status ≡ bit_at bs (status_bit bs b)
  status_is =
      let p = bits_for (form_in bs) (buses_in bs) b in
      status_read (form_in bs) bs p ∙ field_one bs (p + (total (branch_widths (form_in bs)) - 1))

  pub served_is : (case_in percent bs).served b ≡ has bs (status_bit bs b)
  unfolding case_of
  served_is = ap (λ (x : Branch). eqb x.status 1) (branch_of_lem bs b there) ∙ ap (λ (v : ℕ). eqb v 1) status_is

  module _ (in_service : (case_in percent bs).served b ≡ true) where
    pub served_bit : bit_at bs (status_bit bs b) ≡ 1
    served_bit = eqb-true _ 1 (sym served_is ∙ in_service)

    pub served_status : (branch_at bs b).status ≡ 1
    served_status = status_is ∙ served_bit
