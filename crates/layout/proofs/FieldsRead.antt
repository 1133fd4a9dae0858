-- The fields of a branch, read one by one, are the branch.
use mathlib.Core.Path.{◌≡◌, sym, ◌∙◌}
use mathlib.Core.List.{List}
use Prim.Native.Nat.{ℕ, ◌+◌, ◌-◌}
use native.Mathlib.Omega.{arith}
use Rattle.quantity.specs.Rating.{in_kva}
use Rattle.bits.specs.Field.{field}
use Rattle.layout.specs.declared.Form.{Form}
use Rattle.layout.specs.declared.Branch.{Branch}
use Rattle.layout.specs.Layout.{bits_for, branch_after}
use Rattle.layout.specs.Inside.{Wide, Placed}
use Rattle.layout.proofs.Forms.{kva2_read, status_read}

pub branch_read : (f : Form) (bs : List ℕ) (n k at w a b c d e : ℕ) → Placed f n k at → Wide f w
    → a ≡ field bs at 7 → b ≡ field bs (at + 7) 7 → c ≡ field bs (at + 14) 20 → d ≡ field bs (at + (w - 1) - 20) 20 → e ≡ field bs (at + (w - 1)) 1
    → ◌≡◌ {A = Branch} (record { first = a; second = b; kva = in_kva c; kva2 = in_kva d; status = e }) (branch_after f n bs k)
branch_read f bs n k at w a b c d e p q e₁ e₂ e₃ e₄ e₅ =
    let z = bits_for f n k in
    let r : at + 14 ≡ z + 7 + 7 = omega (arith, p.place_is) in
    let c₁ : a ≡ field bs z 7 = rw (← p.place_is) e₁ in
    let c₂ : b ≡ field bs (z + 7) 7 = rw (← p.place_is) e₂ in
    let c₃ : c ≡ field bs (z + 7 + 7) 20 = rw (← r) e₃ in
    let c₄ = (rw (q.width_is, p.place_is) at e₄) ∙ sym (kva2_read f bs z) in
    let c₅ = (rw (q.width_is, p.place_is) at e₅) ∙ sym (status_read f bs z) in
    λ i. record { first = c₁ i; second = c₂ i; kva = in_kva (c₃ i); kva2 = in_kva (c₄ i); status = c₅ i }
