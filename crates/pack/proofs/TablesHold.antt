-- The tables beside a book: what is read back from them is what they were made of.
use mathlib.Core.Path.{◌≡◌, refl, sym, ap, ◌∙◌}
use mathlib.Core.List.{List, [], ◌∷◌, ◌++◌, append_assoc}
use Prim.Native.Nat.{ℕ, zero, suc, ◌+◌, ◌-◌, ◌*◌, ◌<◌, ◌≤◌}
use native.Mathlib.Omega.{arith}
use lib.IntN.{ℤ, pos}
use lib.ListN.{length, get_or, take, drop, length-append, length-drop, get_or-append}
use lib.Seq.{length-take-le, take-add, get_or-take, get_or-drop, get_or-append-add}
use Rattle.rows.specs.Row.{nth, up_to}
use Rattle.quantity.specs.Rating.{in_kva}
use Rattle.layout.specs.declared.Form.{Form}
use Rattle.layout.specs.declared.Form.TheVariants.{Old}
use Rattle.layout.specs.declared.Branch.{Branch}
use Rattle.layout.specs.Book.{no_branch}
use Rattle.layout.specs.Form.{fields, branch_values}
use Rattle.layout.specs.Layout.{table_of}
use Rattle.layout.specs.Inside.{Numbered, Numbers}
use Rattle.layout.proofs.FirstPlaces.{up_to_list}
use Rattle.layout.proofs.Forms.{branch_values_lem, values_branch, long_values, same_numbers}
use Rattle.pack.specs.Write.{entry, row_at}
use Rattle.layout.proofs.NumbersABranch.{table_more}

-- The numbers of branch k of a table are those of branch k of the list that it was made of.
place_in_table : (f : Form) (xs : List Branch) (rest : List ℕ) (k i : ℕ) → k < length xs → i < fields f
    → nth (table_of f xs ++ rest) (fields f * k + i) ≡ nth (branch_values f (get_or xs k no_branch)) i
place_in_table f [] rest k i h l = absurd (omega arith)
place_in_table f (x ∷ xs) rest zero i h l =
    let e : fields f * 0 + i ≡ i = omega arith in
    let v = branch_values f x in
    let long : i < length v = omega (arith, long_values f x) in
    rw e (get_or-append (v ++ table_of f xs) rest 0 i (rw (length-append) (omega arith)) ∙ get_or-append v (table_of f xs) 0 i long)
place_in_table f (x ∷ xs) rest (suc k) i h l =
    let v = branch_values f x in
    let e : fields f * suc k + i ≡ length v + (fields f * k + i) = omega (arith, long_values f x) in
    ap (λ (l : List ℕ). nth l (fields f * suc k + i)) (append_assoc v (table_of f xs) rest)
    ∙ rw e (get_or-append-add v (table_of f xs ++ rest) (fields f * k + i) 0)
    ∙ place_in_table f xs rest k i (omega arith) l

-- Branch k of a table is branch k of that list.
pub row_of_table : (f : Form) (xs : List Branch) (rest : List ℕ) (k : ℕ) → k < length xs
    → (f ≡ Old → (get_or xs k no_branch).kva2 ≡ (get_or xs k no_branch).kva)
    → row_at f (table_of f xs ++ rest) k ≡ get_or xs k no_branch
row_of_table f xs rest k h one =
    same_numbers f _ (nth (branch_values f (get_or xs k no_branch))) (λ i l. place_in_table f xs rest k i h l) ∙ branch_values_lem f (get_or xs k no_branch) one

-- The numbers of branch k, one by one, are the branch.
pub row_read : (f : Form) (l : List ℕ) (k at z : ℕ) → Numbers f k at → Numbered f z
    → ◌≡◌ {A = Branch} (record { first = nth l at; second = nth l (at + 1); kva = in_kva (nth l (at + 2)); kva2 = in_kva (nth l (at + (z - 1) - 1)); status = nth l (at + (z - 1)) }) (row_at f l k)
row_read f l k at z p q =
    let s = p.count_is in
    let t = q.count_is in
    let e₀ : at ≡ fields f * k + 0 = omega arith in
    let e₁ : at + 1 ≡ fields f * k + 1 = omega arith in
    let e₂ : at + 2 ≡ fields f * k + 2 = omega arith in
    let e₃ : at + (z - 1) - 1 ≡ fields f * k + (fields f - 2) = omega (arith, q.some) in
    let e₄ : at + (z - 1) ≡ fields f * k + (fields f - 1) = omega (arith, q.some) in
    λ i. record { first = nth l (e₀ i); second = nth l (e₁ i); kva = in_kva (nth l (e₂ i)); kva2 = in_kva (nth l (e₃ i)); status = nth l (e₄ i) }

-- So many numbers from one on, one by one.
numbers_of_lem : (l : List ℕ) (j n : ℕ) → j + n ≤ length l → up_to n (λ i. nth l (j + i)) ≡ take n (drop j l)
numbers_of_lem l j n h =
    up_to_list (take n (drop j l)) 0 n (λ i. nth l (j + i)) (length-take-le n (drop j l) (rw (length-drop) (omega arith)))
    (λ i u. sym (get_or-take n (drop j l) i 0 u ∙ get_or-drop j l i 0))

-- A table is what its branches are.
pub table_of_rows : (f : Form) (bra : List ℕ) (m : ℕ) → fields f * m ≤ length bra → table_of f (up_to m (row_at f bra)) ≡ take (fields f * m) bra
unfolding up_to
table_of_rows f bra zero h = let e : fields f * 0 ≡ 0 = omega arith in rw e refl
table_of_rows f bra (suc m) h =
    let e : fields f * suc m ≡ fields f * m + fields f = omega arith in
    let these = values_branch f (λ i. nth bra (fields f * m + i)) ∙ numbers_of_lem bra (fields f * m) (fields f) (omega arith) in
    table_more f (up_to m (row_at f bra)) (row_at f bra m)
    ∙ ap (λ (l : List ℕ). l ++ branch_values f (row_at f bra m)) (table_of_rows f bra m (omega arith))
    ∙ ap (λ (l : List ℕ). take (fields f * m) bra ++ l) these
    ∙ sym (rw e (take-add (fields f * m) (fields f) bra))

pub entries_taken : (inj : List ℤ) (n : ℕ) → n ≤ length inj → up_to n (entry inj) ≡ take n inj
entries_taken inj n h = up_to_list (take n inj) (pos 0) n (entry inj) (length-take-le n inj h) (λ k l. sym (get_or-take n inj k (pos 0) l))
