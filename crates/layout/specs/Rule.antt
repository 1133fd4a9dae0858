-- The rules of a book's fields, in layout order, and when a place is that of the first broken one.
use Rattle.std.specs.Prelude.{◌≡◌, Bool, true, false, not, ◌&&◌, List, [], ◌∷◌, ℕ, zero, suc, ◌<◌, ltb, leb, eqb, get_or}
use Rattle.rows.specs.Row.{nth}
use Rattle.layout.specs.declared.Form.{Form}
use Rattle.layout.specs.declared.Branch.{Branch}
use Rattle.layout.specs.Form.{in_new}
use Rattle.layout.specs.Layout.{buses_in, branches_in, form_in, bus_at, branch_at}

-- Sign, size. The sign has no rule of its own: a minus zero breaks that of the size.
abbrev pub bus_rules : List ℕ → List Bool
bus_rules vs = true ∷ (leb (nth vs 1) 1000000 && not (eqb (nth vs 0) 1 && eqb (nth vs 1) 0)) ∷ []

-- First bus, second bus, kVA, in the new form a second kVA, status. Equal ends break the rule of the second bus, and a second figure below the first
-- that of the second figure.
abbrev pub branch_rules : Form → ℕ → Branch → List Bool
branch_rules f n x =
    ltb x.first n
    ∷ (ltb x.second n && not (eqb x.first x.second))
    ∷ leb x.kva.0 1000000
    ∷ in_new f (leb x.kva.0 x.kva2.0 && leb x.kva2.0 1000000) (leb x.status 1 ∷ [])

-- Field j keeps its rule: fields are numbered from 1, and another number has none.
abbrev pub keeps : List Bool → ℕ → Bool
keeps rules zero = true
keeps rules (suc j) = get_or rules j true

-- Every field of the first n items keeps its rule.
abbrev pub Sound : (ℕ → List Bool) → ℕ → Type 0
Sound rules n = (k : ℕ) → k < n → (j : ℕ) → keeps (rules k) j ≡ true

-- Field j of item i breaks its rule; every item before it is sound, and so is every field before it.
pub record FirstBroken (rules : ℕ → List Bool) (n i j : ℕ) : Type 0 where
  pub there : i < n
  pub broken : keeps (rules i) j ≡ false
  pub items_before : Sound rules i
  pub fields_before : (g : ℕ) → g < j → keeps (rules i) g ≡ true

-- Of n buses and m branches in form f: the place of a refusal by 4 is that of a bus, and by 5, where every bus is sound, that of a branch.
pub data Wrong (f : Form) (n m : ℕ) (bus : ℕ → List ℕ) (branch : ℕ → Branch) (number i j : ℕ) : Type 0 where
  at_bus : number ≡ 4 → FirstBroken (λ k. bus_rules (bus k)) n i j → Wrong f n m bus branch number i j
  at_branch : number ≡ 5 → Sound (λ k. bus_rules (bus k)) n → FirstBroken (λ k. branch_rules f n (branch k)) m i j → Wrong f n m bus branch number i j

-- The same of the buses and branches that a book's bytes say, in its own form.
abbrev pub WrongIn : List ℕ → ℕ → ℕ → ℕ → Type 0
WrongIn bs number i j = Wrong (form_in bs) (buses_in bs) (branches_in bs) (bus_at bs) (branch_at bs) number i j
