-- A scan for a branch whose ratings differ: how far it has come, and how it ends.
use mathlib.Core.Path.{◌≡◌, sym, ap, ◌∙◌}
use mathlib.Core.Bool.{true, false, not}
use Prim.Native.Nat.{ℕ, ◌+◌, ◌<◌, ◌≤◌}
use native.Mathlib.Omega.{arith}
use borrow.Author.Tests.{eq-eqb, ne_eqb}
use Rattle.rows.specs.Row.{some}
use Rattle.rows.proofs.Row.{some_none, some_more, some_at}
use Rattle.layout.specs.declared.Branch.{Branch}
use Rattle.forms.specs.Move.{differs}

pub record Alike (f : ℕ → Branch) (n k : ℕ) : Type 0 where
  pub here : k ≤ n
  pub none : some k (λ i. differs (f i)) ≡ false

module _ (f : ℕ → Branch) (n : ℕ) where
  pub alike_start : Alike f n 0
  alike_start = record { here = omega arith; none = some_none (λ i. differs (f i)) }

  module _ (k : ℕ) (x : Branch) (l : k < n) (w : Alike f n k) (e : x ≡ f k) where
    pub alike_more : x.kva.0 ≡ x.kva2.0 → Alike f n (k + 1)
    alike_more q = record {
      here = omega arith;
      none = some_more (λ i. differs (f i)) k w.none (ap differs (sym e) ∙ ap not (eq-eqb x.kva.0 x.kva2.0 q));
    }

    pub alike_not : (x.kva.0 ≡ x.kva2.0 → ⊥) → true ≡ some n (λ i. differs (f i))
    alike_not q = sym (some_at (λ i. differs (f i)) n k l (ap differs (sym e) ∙ ap not (ne_eqb x.kva.0 x.kva2.0 q)))

  pub alike_end : (k : ℕ) → n ≤ k → Alike f n k → false ≡ some n (λ i. differs (f i))
  alike_end k h w = let e : k ≡ n = omega arith in sym (rw e at w.none)
