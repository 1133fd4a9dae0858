-- The text of a group's members is that of the group: how it is stored, and which numbers past its last bus are looked at, are all the same.
use mathlib.Core.Path.{◌≡◌, refl, sym, ap, ◌∙◌}
use mathlib.Core.Bool.{Bool, false, cond}
use mathlib.Core.List.{[]}
use Prim.Native.Nat.{ℕ, zero, suc, ◌+◌, ◌-◌, ◌≤◌}
use native.Mathlib.Omega.{arith}
use native.Mathlib.Nat.{add-zero, add-suc}
use Rattle.rows.specs.Sum.{Group, pick, over, size}
use Rattle.rows.proofs.Sum.{over_same}
use Rattle.line.specs.Text.{next_of, joined}
use Rattle.line.specs.AnswerText.{members_text}
use Rattle.line.proofs.Joined.{joined_same, joined_past}

size_same : (n : ℕ) (S R : Group) → ((i : ℕ) → S i ≡ R i) → size n S ≡ size n R
size_same n S R h = over_same n S R (λ i. 1) (λ i. 1) (λ i u. ap (λ (b : Bool). pick b 1) (h i))

size_past : (n d : ℕ) (S : Group) → ((i : ℕ) → n ≤ i → S i ≡ false) → size (n + d) S ≡ size n S
unfolding over
size_past n zero S h = rw (add-zero n) refl
size_past n (suc d) S h = rw (add-suc n d, h (n + d) (omega arith)) (omega (arith, size_past n d S h))

-- Members S of the first n buses, and a group R that is the same, looked for among m.
pub members_same : (n m : ℕ) (S R : Group) → n ≤ m → ((i : ℕ) → n ≤ i → S i ≡ false) → ((i : ℕ) → S i ≡ R i) → members_text m R ≡ members_text n S
members_same n m S R l z h =
    let e : m ≡ n + (m - n) = omega arith in
    let c : size m R ≡ size n S = sym (size_same m S R h) ∙ ap (λ (x : ℕ). size x S) e ∙ size_past n (m - n) S z in
    let t : joined m (λ i. cond (R i) (next_of i) []) ≡ joined n (λ i. cond (S i) (next_of i) []) =
    joined_same m _ _ (λ i u. ap (λ (b : Bool). cond b (next_of i) []) (sym (h i)))
    ∙ ap (λ (x : ℕ). joined x (λ i. cond (S i) (next_of i) [])) e
    ∙ joined_past n (m - n) _ (λ i u. ap (λ (b : Bool). cond b (next_of i) []) (z i u)) in
    rw (c, t) refl
