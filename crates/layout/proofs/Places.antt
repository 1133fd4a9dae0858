-- The place of a refused book is that of the first broken rule; the sign never breaks one, and a status that was read never does.
use mathlib.Core.Path.{◌≡◌, refl, sym, ap, subst, ◌∙◌}
use mathlib.Core.Bool.{Bool, true, false, not, ◌&&◌, true≢false}
use mathlib.Core.List.{List, [], ◌∷◌}
use Prim.Native.Nat.{ℕ, zero, suc, ◌+◌, ◌-◌, ◌<◌, ◌≤◌}
use native.Mathlib.Omega.{arith}
use borrow.Author.Tests.{lt-ltb, le-ltb, lt-leb, le-leb}
use lib.Dec.{ltb, leb, eqb}
use lib.ListN.{length, get_or}
use Rattle.rows.proofs.Sum.{side, below, equal, above}
use Rattle.std.specs.Prelude.{Option, Some, None}
use Rattle.answer.specs.declared.Place.{Place}
use Rattle.answer.specs.declared.Refusal.TheVariants.{BusWrong, BranchWrong, TailFill, NotBalanced}
use Rattle.answer.specs.Answer.{Answer, Accepted, At, Nowhere, number_of, place_of, refuse_at, refuse_if}
use Rattle.answer.proofs.Refusals.{if_nowhere, at_not_nowhere, placed_after}
use Rattle.quantity.specs.declared.Kva.{Kva}
use Rattle.rows.specs.Row.{nth}
use Rattle.bits.specs.Fields.{total, item}
use Rattle.bits.proofs.ReadAsPut.{field_lt}
use Rattle.layout.specs.declared.Form.{Form}
use Rattle.layout.specs.declared.Form.TheVariants.{Old, New}
use Rattle.layout.specs.declared.Branch.{Branch}
use Rattle.layout.specs.Form.{branch_widths, fields, branch_of}
use Rattle.layout.specs.Fault.{fault_if, bus_fault, branch_fault, first_fault}
use Rattle.layout.specs.Layout.{branch_start, bits_for, bytes_for, buses_in, branches_in, factor_in, form_in, spare_in}
use Rattle.layout.specs.Layout.{bus_at, injection_at, tail_in, branch_at}
use Rattle.layout.specs.Rule.{bus_rules, branch_rules, keeps, Sound, FirstBroken, Wrong, at_bus, at_branch, WrongIn}
use Rattle.layout.specs.Check.{outside, balances, head_check, body_check, check_of}
use Rattle.layout.proofs.Faults.{first_is, first_sound}
use Rattle.layout.proofs.Forms.{one_figure, status_read}

-- ---- the rules of one item

abbrev next : ℕ → ℕ
next zero = zero
next (suc j) = suc (suc j)

-- The first that is broken, numbered from 1, and 0 where none is.
unfoldable first_broken : List Bool → ℕ
first_broken [] = 0
first_broken (true ∷ rs) = next (first_broken rs)
first_broken (false ∷ rs) = 1

all_kept : (rs : List Bool) → first_broken rs ≡ 0 → (g : ℕ) → get_or rs g true ≡ true
unfolding first_broken
all_kept [] e g = refl
all_kept (true ∷ rs) e zero = refl
all_kept (true ∷ rs) e (suc g) = all_kept rs (none (first_broken rs) e) g
  where
    none : (m : ℕ) → next m ≡ 0 → m ≡ 0
    none zero q = refl
    none (suc m) q = absurd (omega arith)
all_kept (false ∷ rs) e g = absurd (omega arith)

record Found (rs : List Bool) (g : ℕ) : Type 0 where
  broken : get_or rs g true ≡ false
  before : (h : ℕ) → h < g → get_or rs h true ≡ true

found : (rs : List Bool) (g : ℕ) → first_broken rs ≡ suc g → Found rs g
unfolding first_broken
found [] g e = absurd (omega arith)
found (false ∷ rs) zero e = record { broken = refl; before = λ h l. absurd (omega arith) }
found (false ∷ rs) (suc g) e = absurd (omega arith)
found (true ∷ rs) g e = go (first_broken rs) refl g e (found rs)
  where
    go : (m : ℕ) → first_broken rs ≡ m → (g : ℕ) → next m ≡ suc g → ((g : ℕ) → first_broken rs ≡ suc g → Found rs g) → Found (true ∷ rs) g
    go zero p g q rec = absurd (omega arith)
    go (suc m) p zero q rec = absurd (omega arith)
    go (suc m) p (suc g) q rec =
        let d : m ≡ g = omega arith in
        let w = rec g (p ∙ ap suc d) in
        record { broken = w.broken; before = sooner w.before }
      where
        sooner : ((h : ℕ) → h < g → get_or rs h true ≡ true) → (h : ℕ) → h < suc g → get_or (true ∷ rs) h true ≡ true
        sooner b zero l = refl
        sooner b (suc h) l = b h (omega arith)

-- ---- a field at fault breaks its rule, and is the first that does

leb_not : (x y : ℕ) → leb x y ≡ not (ltb y x)
leb_not x y = elim (side x y) [
  | below u ↦ rw (le-leb x y (omega arith), le-ltb y x (omega arith)) refl
  | equal u ↦ rw (le-leb x y (omega arith), le-ltb y x (omega arith)) refl
  | above u ↦ rw (lt-leb x y u, lt-ltb y x u) refl
]

ltb_not : (x y : ℕ) → ltb x y ≡ not (leb y x)
ltb_not x y = elim (side x y) [
  | below u ↦ rw (lt-ltb x y u, lt-leb y x u) refl
  | equal u ↦ rw (le-ltb x y (omega arith), le-leb y x (omega arith)) refl
  | above u ↦ rw (le-ltb x y (omega arith), le-leb y x (omega arith)) refl
]

bus_chain : (a p : Bool) → fault_if a 2 (fault_if p 2 0) ≡ first_broken (true ∷ (not a && not p) ∷ [])
unfolding first_broken
bus_chain true p = refl
bus_chain false true = refl
bus_chain false false = refl

bus_broken : (vs : List ℕ) → bus_fault (nth vs 0) (nth vs 1) ≡ first_broken (bus_rules vs)
unfolding bus_fault
bus_broken vs = rw (leb_not (nth vs 1) 1000000) (bus_chain (ltb 1000000 (nth vs 1)) (eqb (nth vs 0) 1 && eqb (nth vs 1) 0))

new_chain : (a b c d e f g : Bool) → fault_if a 1 (fault_if b 2 (fault_if c 2 (fault_if d 3 (fault_if e 4 (fault_if f 4 (fault_if g 5 0))))))
    ≡ first_broken (not a ∷ (not b && not c) ∷ not d ∷ (not e && not f) ∷ not g ∷ [])
unfolding first_broken
new_chain true b c d e f g = refl
new_chain false true c d e f g = refl
new_chain false false true d e f g = refl
new_chain false false false true e f g = refl
new_chain false false false false true f g = refl
new_chain false false false false false true g = refl
new_chain false false false false false false true = refl
new_chain false false false false false false false = refl

-- An old branch has one figure, so that neither test of the second finds what that of the first didn't.
old_chain : (a b c d g : Bool) → fault_if a 1 (fault_if b 2 (fault_if c 2 (fault_if d 3 (fault_if false 4 (fault_if d 4 (fault_if g 4 0))))))
    ≡ first_broken (not a ∷ (not b && not c) ∷ not d ∷ not g ∷ [])
unfolding first_broken
old_chain true b c d g = refl
old_chain false true c d g = refl
old_chain false false true d g = refl
old_chain false false false true g = refl
old_chain false false false false true = refl
old_chain false false false false false = refl

branch_broken : (f : Form) (n : ℕ) (x : Branch) → (f ≡ Old → x.kva2 ≡ x.kva) → branch_fault f n x ≡ first_broken (branch_rules f n x)
unfolding branch_fault
branch_broken Old n x h =
    let e : x.kva2.0 ≡ x.kva.0 = ap (λ (k : Kva). k.0) (h refl) in
    rw (
      e,
      le-ltb x.kva.0 x.kva.0 (omega arith),
      ltb_not x.first n,
      ltb_not x.second n,
      leb_not x.kva.0 1000000,
      leb_not x.status 1,
    )
    (old_chain (leb n x.first) (leb n x.second) (eqb x.first x.second) (ltb 1000000 x.kva.0) (ltb 1 x.status))
branch_broken New n x h =
    rw (
      ltb_not x.first n,
      ltb_not x.second n,
      leb_not x.kva.0 1000000,
      leb_not x.kva.0 x.kva2.0,
      leb_not x.kva2.0 1000000,
      leb_not x.status 1,
    )
    (new_chain
    (leb n x.first)
    (leb n x.second)
    (eqb x.first x.second)
    (ltb 1000000 x.kva.0)
    (ltb x.kva2.0 x.kva.0)
    (ltb 1000000 x.kva2.0)
    (ltb 1 x.status))

-- ---- the first of many

module _ (f : ℕ → ℕ) (rules : ℕ → List Bool) (is : (k : ℕ) → f k ≡ first_broken (rules k)) where
  sound_item : (k : ℕ) → f k ≡ 0 → (j : ℕ) → keeps (rules k) j ≡ true
  sound_item k e zero = refl
  sound_item k e (suc j) = all_kept (rules k) (sym (is k) ∙ e) j

  sound_all : (n : ℕ) → first_fault f n ≡ Nowhere → Sound rules n
  sound_all n e k l = sound_item k (first_sound f n e k l)

  broken_first : (n i j : ℕ) → first_fault f n ≡ At i j → FirstBroken rules n i j
  broken_first n i zero e = absurd (omega (arith, (first_is f n i 0 e).a_field))
  broken_first n i (suc j) e =
      let w = first_is f n i (suc j) e in
      let b = found (rules i) j (sym (is i) ∙ w.its_field) in
      record { there = w.there; broken = b.broken; items_before = λ k l. sound_item k (w.before k l); fields_before = sooner b.before }
    where
      sooner : ((h : ℕ) → h < j → get_or (rules i) h true ≡ true) → (g : ℕ) → g < suc j → keeps (rules i) g ≡ true
      sooner h zero l = refl
      sooner h (suc g) l = h g (omega arith)

-- ---- the place of a refusal

-- Of buses and of branches made of their numbers, in either form, whatever comes after them without a place.
module _ (f : Form) (n m : ℕ) (bus : ℕ → List ℕ) (numbers : ℕ → ℕ → ℕ) (rest : Answer) where
  abbrev branch : ℕ → Branch
  branch k = branch_of f (numbers k)

  abbrev of_bus : ℕ → ℕ
  of_bus k = bus_fault (nth (bus k) 0) (nth (bus k) 1)

  abbrev of_branch : ℕ → ℕ
  of_branch k = branch_fault f n (branch k)

  pub wrong_of : {i j : ℕ} → place_of rest ≡ Nowhere → place_of (refuse_at (first_fault of_bus n) BusWrong (refuse_at (first_fault of_branch m) BranchWrong rest)) ≡ At i j
      → Wrong f n m bus branch (number_of (refuse_at (first_fault of_bus n) BusWrong (refuse_at (first_fault of_branch m) BranchWrong rest))) i j
  wrong_of {i} {j} r e = go (first_fault of_bus n) refl (first_fault of_branch m) refl e
    where
      in_bus : (k : ℕ) → of_bus k ≡ first_broken (bus_rules (bus k))
      in_bus k = bus_broken (bus k)

      in_branch : (k : ℕ) → of_branch k ≡ first_broken (branch_rules f n (branch k))
      in_branch k = branch_broken f n (branch k) (one_figure f (numbers k))

      go : (w : Option Place) → first_fault of_bus n ≡ w → (v : Option Place) → first_fault of_branch m ≡ v → place_of (refuse_at w BusWrong (refuse_at v BranchWrong rest)) ≡ At i j
          → Wrong f n m bus branch (number_of (refuse_at w BusWrong (refuse_at v BranchWrong rest))) i j
      go (Some at) w v x s = at_bus refl (broken_first of_bus _ in_bus n i j (w ∙ s))
      go None w (Some at) x s = at_branch refl (sound_all of_bus _ in_bus n w) (broken_first of_branch _ in_branch m i j (x ∙ s))
      go None w None x s = absurd (at_not_nowhere r s)

module _ (bs : List ℕ) where
  head_nowhere : place_of (head_check bs) ≡ Nowhere
  head_nowhere =
      if_nowhere (ltb (length bs) 4) _ _ refl
      (if_nowhere (outside (buses_in bs) (branches_in bs) (factor_in bs)) _ _ refl
      (if_nowhere (not (eqb (spare_in bs) 0)) _ _ refl
      (if_nowhere (not (eqb (length bs) (bytes_for (form_in bs) (buses_in bs) (branches_in bs)))) _ Accepted refl refl)))

  rest_nowhere : place_of (refuse_if (not (eqb (tail_in bs) 0)) TailFill (refuse_if (not (balances (buses_in bs) (injection_at bs))) NotBalanced Accepted)) ≡ Nowhere
  rest_nowhere = if_nowhere (not (eqb (tail_in bs) 0)) _ _ refl (if_nowhere (not (balances (buses_in bs) (injection_at bs))) _ Accepted refl refl)

  -- A book that is refused with a place is wrong there.
  pub check_wrong : {i j : ℕ} → place_of (check_of bs) ≡ At i j → WrongIn bs (number_of (check_of bs)) i j
  unfolding check_of
  check_wrong {i} {j} e =
      let o = placed_after (head_check bs) (body_check bs) head_nowhere e in
      subst (λ (x : Answer). WrongIn bs (number_of x) i j) (sym o)
      (wrong_of (form_in bs) (buses_in bs) (branches_in bs) (bus_at bs) (λ k. nth (item (branch_widths (form_in bs)) bs (branch_start (buses_in bs)) k)) _
      rest_nowhere (ap place_of (sym o) ∙ e))

-- ---- which fields can be at fault

-- The sign never is.
pub never_sign : (vs : List ℕ) (j : ℕ) → keeps (bus_rules vs) j ≡ false → j ≡ 2
never_sign vs zero e = absurd (true≢false e)
never_sign vs (suc zero) e = absurd (true≢false e)
never_sign vs (suc (suc zero)) e = refl
never_sign vs (suc (suc (suc j))) e = absurd (true≢false e)

-- A status of 0 or 1 never is: a field at fault stands before it.
before_status : (f : Form) (n : ℕ) (x : Branch) (j : ℕ) → x.status ≤ 1 → keeps (branch_rules f n x) j ≡ false → j < fields f
before_status f n x zero s e = absurd (true≢false e)
before_status Old n x (suc zero) s e = omega arith
before_status Old n x (suc (suc zero)) s e = omega arith
before_status Old n x (suc (suc (suc zero))) s e = omega arith
before_status Old n x (suc (suc (suc (suc zero)))) s e = absurd (true≢false (sym (le-leb x.status 1 s) ∙ e))
before_status Old n x (suc (suc (suc (suc (suc j))))) s e = absurd (true≢false e)
before_status New n x (suc zero) s e = omega arith
before_status New n x (suc (suc zero)) s e = omega arith
before_status New n x (suc (suc (suc zero))) s e = omega arith
before_status New n x (suc (suc (suc (suc zero)))) s e = omega arith
before_status New n x (suc (suc (suc (suc (suc zero))))) s e = absurd (true≢false (sym (le-leb x.status 1 s) ∙ e))
before_status New n x (suc (suc (suc (suc (suc (suc j)))))) s e = absurd (true≢false e)

-- So a status that was read never is: it is one bit.
pub never_status : (bs : List ℕ) (k j : ℕ) → keeps (branch_rules (form_in bs) (buses_in bs) (branch_at bs k)) j ≡ false → j < fields (form_in bs)
never_status bs k j e = before_status (form_in bs) (buses_in bs) (branch_at bs k) j one_bit e
  where
    one_bit : (branch_at bs k).status ≤ 1
    one_bit = let l = field_lt bs (bits_for (form_in bs) (buses_in bs) k + (total (branch_widths (form_in bs)) - 1)) 1 in
        omega (arith, status_read (form_in bs) bs (bits_for (form_in bs) (buses_in bs) k), l)
