-- The laws that look at the two forms one by one. All others take the form as it comes.
use mathlib.Core.Path.{◌≡◌, refl, sym, ap}
use mathlib.Core.List.{List, [], ◌∷◌}
use Prim.Native.Nat.{ℕ, zero, suc, ◌+◌, ◌-◌, ◌*◌, ◌<◌, ◌≤◌}
use native.Mathlib.Nat.{mul-le-mul, mul-le-mul_left}
use native.Mathlib.Omega.{arith}
use lib.ListN.{length}
use Rattle.std.specs.Prelude.{Some}
use Rattle.rows.specs.Row.{nth, up_to}
use Rattle.quantity.specs.Rating.{in_kva}
use Rattle.bits.specs.Field.{field}
use Rattle.bits.specs.Fields.{total, reads, Fit}
use Rattle.layout.specs.declared.Form.{Form}
use Rattle.layout.specs.declared.Form.TheVariants.{Old, New}
use Rattle.layout.specs.declared.Branch.{Branch}
use Rattle.layout.specs.Form.{form_of, form_bit, in_new, branch_widths, fields, branch_values, branch_of}
use Rattle.layout.specs.Book.{GoodBranch}
use Rattle.layout.specs.Layout.{bits_for}
use Rattle.layout.specs.Fault.{field_at}
use Rattle.layout.specs.Inside.{Numbered, Numbers, Wide, Placed}

pub form_bit_lem : (f : Form) → form_of (form_bit f) ≡ f
form_bit_lem Old = refl
form_bit_lem New = refl

pub bit_form : (v : ℕ) → v < 2 → form_bit (form_of v) ≡ v
bit_form zero h = refl
bit_form (suc zero) h = refl
bit_form (suc (suc v)) h = absurd (omega arith)

pub bit_fits : (f : Form) → form_bit f < 2
bit_fits Old = omega arith
bit_fits New = omega arith

-- Four or five numbers, of 35 or 55 bits.
pub numbered : (f : Form) → Numbered f (fields f)
numbered Old = record { count_is = refl; some = omega arith; few = omega arith }
numbered New = record { count_is = refl; some = omega arith; few = omega arith }

-- The last field is one that can be at fault: its number isn't 0.
pub last_field : (f : Form) → Some (fields f) ≡ field_at (fields f)
last_field Old = refl
last_field New = refl

pub wide : (f : Form) → Wide f (total (branch_widths f))
wide Old = record { width_is = refl; some = omega arith; few = omega arith }
wide New = record { width_is = refl; some = omega arith; few = omega arith }

pub numbers : (f : Form) (m : ℕ) → m ≤ 256 → Numbers f m (fields f * m)
numbers f m h = record { count_is = refl; few = mul-le-mul (numbered f).few h }

-- Those of branch k lie within those of m branches.
pub row_room : (f : Form) (k m : ℕ) → k < m → fields f * k + fields f ≤ fields f * m
row_room f k m h = omega (arith, mul-le-mul_left (fields f) h)

pub few_bits : (f : Form) (m : ℕ) → m ≤ 256 → total (branch_widths f) * m ≤ 14080
few_bits f m h = mul-le-mul (wide f).few h

pub placed : (f : Form) (n k : ℕ) → n ≤ 255 → k ≤ 256 → Placed f n k (bits_for f n k)
placed f n k h l = record { place_is = refl; small = omega (arith, few_bits f k l) }

-- ---- a branch and its numbers

-- A branch whose figures are equal in the old form is the branch of its numbers.
pub branch_values_lem : (f : Form) (x : Branch) → (f ≡ Old → x.kva2 ≡ x.kva) → branch_of f (nth (branch_values f x)) ≡ x
branch_values_lem Old x h = λ i. record { first = x.first; second = x.second; kva = x.kva; kva2 = sym (h refl) i; status = x.status }
branch_values_lem New x h = refl

pub values_branch : (f : Form) (v : ℕ → ℕ) → branch_values f (branch_of f v) ≡ up_to (fields f) v
unfolding up_to
values_branch Old v = refl
values_branch New v = refl

pub values_read : (f : Form) (bs : List ℕ) (at : ℕ) → branch_values f (branch_of f (nth (reads bs at (branch_widths f)))) ≡ reads bs at (branch_widths f)
values_read Old bs at = refl
values_read New bs at = refl

pub long_values : (f : Form) (x : Branch) → length (branch_values f x) ≡ fields f
long_values Old x = refl
long_values New x = refl

-- Only the numbers of a form matter.
pub same_numbers : (f : Form) (v w : ℕ → ℕ) → ((i : ℕ) → i < fields f → v i ≡ w i) → branch_of f v ≡ branch_of f w
same_numbers f v w e =
    let h = (numbered f).some in
    let e₀ = e 0 (omega arith) in
    let e₁ = e 1 (omega arith) in
    let e₂ = e 2 (omega arith) in
    let e₃ = e (fields f - 2) (omega arith) in
    let e₄ = e (fields f - 1) (omega arith) in
    λ i. record { first = e₀ i; second = e₁ i; kva = in_kva (e₂ i); kva2 = in_kva (e₃ i); status = e₄ i }

-- An old book has one figure, which serves as both.
pub one_figure : (f : Form) (v : ℕ → ℕ) → f ≡ Old → (branch_of f v).kva2 ≡ (branch_of f v).kva
one_figure Old v e = refl
one_figure New v e = let z : ◌≡◌ {A = ℕ} 0 1 = cc in absurd (omega arith)

pub fit_values : (f : Form) (n : ℕ) (x : Branch) → n ≤ 128 → GoodBranch n x → Fit (branch_widths f) (branch_values f x)
fit_values f n x h g = (omega (arith, g.first_there), (omega (arith, g.second_there), (omega (arith, g.rating), last f)))
  where
    last : (f : Form) → Fit (in_new f 20 (1 ∷ [])) (in_new f x.kva2.0 (x.status ∷ []))
    last Old = (omega (arith, g.flag), tt)
    last New = (omega (arith, g.second_rating), (omega (arith, g.flag), tt))

-- ---- where the last two of them stand

pub status_read : (f : Form) (bs : List ℕ) (at : ℕ)
    → nth (reads bs at (branch_widths f)) (fields f - 1) ≡ field bs (at + (total (branch_widths f) - 1)) 1
status_read Old bs at = ap (λ (i : ℕ). field bs i 1) (omega arith)
status_read New bs at = ap (λ (i : ℕ). field bs i 1) (omega arith)

pub kva2_read : (f : Form) (bs : List ℕ) (at : ℕ)
    → nth (reads bs at (branch_widths f)) (fields f - 2) ≡ field bs (at + (total (branch_widths f) - 1) - 20) 20
kva2_read Old bs at = ap (λ (i : ℕ). field bs i 20) (omega arith)
kva2_read New bs at = ap (λ (i : ℕ). field bs i 20) (omega arith)
