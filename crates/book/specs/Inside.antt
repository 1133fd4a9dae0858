-- What inner functions of the reader promise: a table filled branch by branch, the rows of a case.
use Rattle.std.specs.Prelude.{◌≡◌, false, List, ◌++◌, ℕ, ◌*◌, eqb, get_or, drop, replicate}
use Rattle.rows.specs.Row.{nth, up_to, headed}
use Rattle.quantity.specs.Signed.{pos_part, neg_part}
use Rattle.quantity.specs.Rating.{limit_of}
use Rattle.quantity.specs.Inside.{in_kw, kw_at}
use Rattle.layout.specs.declared.Form.{Form}
use Rattle.layout.specs.declared.Branch.{Branch}
use Rattle.layout.specs.Form.{fields}
use Rattle.layout.specs.Book.{Book, buses, count, injection, branch}
use Rattle.layout.specs.Layout.{branch_after, injection_at, table_of}
use Rattle.layout.specs.declared.Head.{Head}
use Rattle.book.specs.declared.cases.BusRows.{BusRows}
use Rattle.book.specs.declared.cases.BranchRows.{BranchRows}
use Rattle.book.specs.declared.cases.CaseRows.{CaseRows}

-- l with the numbers of the branches f 0, f 1, .., f (n - 1) in its first places, and as it was beyond.
abbrev pub tabled : Form → ℕ → (ℕ → Branch) → List ℕ → List ℕ
tabled form n f l = table_of form (up_to n f) ++ drop (fields form * n) l

-- Rows filled from the book's fields, and 0 beyond its counts.
pub record GainsRead (bs : List ℕ) (n : ℕ) (r : BusRows) : Type 0 where
  pub gain_row : r.gain ≡ headed n (λ k. pos_part (injection_at bs k)) (replicate 128 0)
  pub load_row : r.load ≡ headed n (λ k. neg_part (injection_at bs k)) (replicate 128 0)

pub record BranchesRead (percent : ℕ) (bs : List ℕ) (h : Head) (r : BranchRows) : Type 0 where
  pub first_row : r.first ≡ headed h.branches (λ k. (branch_after h.form h.buses bs k).first) (replicate 256 0)
  pub second_row : r.second ≡ headed h.branches (λ k. (branch_after h.form h.buses bs k).second) (replicate 256 0)
  pub served_row : r.served ≡ headed h.branches (λ k. eqb (branch_after h.form h.buses bs k).status 1) (replicate 256 false)
  pub limit_row : r.limit ≡ headed h.branches (λ k. in_kw (limit_of (branch_after h.form h.buses bs k).kva.0 h.factor percent))
      (replicate 256 (in_kw 0))
  pub loss_row : r.loss ≡ headed h.branches (λ k. in_kw (limit_of (branch_after h.form h.buses bs k).kva2.0 h.factor percent))
      (replicate 256 (in_kw 0))

-- The rows of a case hold a book's numbers at every place, its limits at the percentage, and nothing past its counts.
pub record RowsRead (percent : ℕ) (b : Book) (r : CaseRows) : Type 0 where
  pub buses_are : r.buses ≡ buses b
  pub branches_are : r.branches ≡ count b
  pub first_is : (k : ℕ) → nth r.first k ≡ (branch b k).first
  pub second_is : (k : ℕ) → nth r.second k ≡ (branch b k).second
  pub served_is : (k : ℕ) → get_or r.served k false ≡ eqb (branch b k).status 1
  pub limit_is : (k : ℕ) → kw_at r.limit k ≡ limit_of (branch b k).kva.0 b.factor percent
  pub loss_is : (k : ℕ) → kw_at r.loss k ≡ limit_of (branch b k).kva2.0 b.factor percent
  pub gain_is : (k : ℕ) → nth r.gain k ≡ pos_part (injection b k)
  pub load_is : (k : ℕ) → nth r.load k ≡ neg_part (injection b k)
