-- A table has so many numbers a branch as its form says, and a branch more adds its own.
use mathlib.Core.Path.{◌≡◌, sym, ap, ◌∙◌}
use mathlib.Core.List.{List, [], ◌∷◌, ◌++◌, append-nil, append_assoc}
use Prim.Native.Nat.{ℕ, ◌*◌}
use native.Mathlib.Omega.{arith}
use lib.ListN.{length, length-append}
use Rattle.layout.specs.declared.Form.{Form}
use Rattle.layout.specs.declared.Branch.{Branch}
use Rattle.layout.specs.Form.{fields, branch_values}
use Rattle.layout.specs.Layout.{table_of}
use Rattle.layout.proofs.Forms.{long_values}

pub length_table : (f : Form) (xs : List Branch) → length (table_of f xs) ≡ fields f * length xs
length_table f [] = omega arith
length_table f (x ∷ xs) = length-append (branch_values f x) (table_of f xs) ∙ omega (arith, length_table f xs, long_values f x)

pub table_more : (f : Form) (xs : List Branch) (x : Branch) → table_of f (xs ++ (x ∷ [])) ≡ table_of f xs ++ branch_values f x
table_more f [] x = append-nil (branch_values f x)
table_more f (y ∷ ys) x = ap (λ (l : List ℕ). branch_values f y ++ l) (table_more f ys x) ∙ sym (append_assoc (branch_values f y) (table_of f ys) (branch_values f x))
