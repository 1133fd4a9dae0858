-- The fields of a header, a bus or a branch, put one by one, are all of them put in a row.
use mathlib.Core.Path.{◌≡◌, refl, sym, ap, ◌∙◌}
use mathlib.Core.List.{List, [], ◌∷◌}
use Prim.Native.Nat.{ℕ, ◌+◌}
use native.Mathlib.Omega.{arith}
use Rattle.bits.specs.Field.{put}
use Rattle.bits.specs.Fields.{puts, place}
use Rattle.layout.specs.declared.Head.{Head}
use Rattle.layout.specs.declared.Bus.{Bus}
use Rattle.layout.specs.declared.Form.{Form}
use Rattle.layout.specs.declared.Branch.{Branch}
use Rattle.layout.specs.Form.{form_bit, in_new, branch_widths, branch_values}
use Rattle.layout.specs.Layout.{head_widths, bus_widths, bus_start, bits_for}
use Rattle.layout.specs.Inside.{head_fields, bus_fields}

pub head_put : (l l₁ l₂ l₃ l₄ l₅ : List ℕ) (h : Head) (bit : ℕ) → bit ≡ form_bit h.form
    → l₁ ≡ put l 0 8 h.buses → l₂ ≡ put l₁ 8 9 h.branches → l₃ ≡ put l₂ 17 10 h.factor → l₄ ≡ put l₃ 27 1 bit → l₅ ≡ put l₄ 28 4 h.spare
    → l₅ ≡ puts l 0 head_widths (head_fields h)
head_put l l₁ l₂ l₃ l₄ l₅ h bit b e₁ e₂ e₃ e₄ e₅ = e₅ ∙ rw (e₄, e₃, e₂, e₁, b) refl

pub bus_put : (l l₁ l₂ : List ℕ) (k at : ℕ) (x : Bus) → at ≡ place bus_widths bus_start k → l₁ ≡ put l at 1 x.sign
    → l₂ ≡ put l₁ (at + 1) 20 x.size
    → l₂ ≡ puts l (place bus_widths bus_start k) bus_widths (bus_fields x)
bus_put l l₁ l₂ k at x a e₁ e₂ = e₂ ∙ rw (e₁, a) refl

-- The first three fields of a branch, whatever follows them.
front_put : (l ws vs : List ℕ) (at a b c : ℕ)
    → puts l at (7 ∷ 7 ∷ 20 ∷ ws) (a ∷ b ∷ c ∷ vs) ≡ puts (put (put (put l at 7 a) (at + 7) 7 b) (at + 14) 20 c) (at + 34) ws vs
front_put l ws vs at a b c =
    let z : List ℕ = put (put l at 7 a) (at + 7) 7 b in
    ap (λ (i : ℕ). puts (put z i 20 c) (i + 20) ws vs) (let e : at + 7 + 7 ≡ at + 14 = omega arith in e)
    ∙ ap (λ (i : ℕ). puts (put z (at + 14) 20 c) i ws vs) (let e : at + 14 + 20 ≡ at + 34 = omega arith in e)

pub branch_put : (l l₁ l₂ l₃ l₄ : List ℕ) (f : Form) (n k at : ℕ) (x : Branch) → at ≡ bits_for f n k
    → l₁ ≡ put l at 7 x.first → l₂ ≡ put l₁ (at + 7) 7 x.second → l₃ ≡ put l₂ (at + 14) 20 x.kva.0
    → l₄ ≡ puts l₃ (at + 34) (in_new f 20 (1 ∷ [])) (in_new f x.kva2.0 (x.status ∷ []))
    → l₄ ≡ puts l (bits_for f n k) (branch_widths f) (branch_values f x)
branch_put l l₁ l₂ l₃ l₄ f n k at x a e₁ e₂ e₃ e₄ =
    e₄ ∙ rw (e₃, e₂, e₁) (sym (front_put l (in_new f 20 (1 ∷ [])) (in_new f x.kva2.0 (x.status ∷ [])) at x.first x.second x.kva.0))
    ∙ ap (λ (i : ℕ). puts l i (branch_widths f) (branch_values f x)) a
