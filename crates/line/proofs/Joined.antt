-- Texts one after another: none, one more, the same ones, and none but empty ones past the first.
use mathlib.Core.Path.{◌≡◌, refl, ◌∙◌}
use mathlib.Core.List.{List, [], ◌++◌, append-nil}
use Prim.Native.Nat.{ℕ, zero, suc, ◌+◌, ◌<◌, ◌≤◌}
use native.Mathlib.Omega.{arith}
use native.Mathlib.Nat.{add-zero, add-suc}
use native.Mathlib.Numerals.{add-one}
use Rattle.line.specs.Text.{joined}

pub joined_none : (f : ℕ → List ℕ) → joined 0 f ≡ []
unfolding joined
joined_none f = refl

pub joined_more : (n : ℕ) (f : ℕ → List ℕ) → joined (n + 1) f ≡ joined n f ++ f n
unfolding joined
joined_more n f = rw add-one refl

pub joined_same : (n : ℕ) (f g : ℕ → List ℕ) → ((i : ℕ) → i < n → f i ≡ g i) → joined n f ≡ joined n g
unfolding joined
joined_same zero f g h = refl
joined_same (suc n) f g h = rw (joined_same n f g (λ i u. h i (omega arith)), h n (omega arith)) refl

pub joined_past : (n d : ℕ) (f : ℕ → List ℕ) → ((i : ℕ) → n ≤ i → f i ≡ []) → joined (n + d) f ≡ joined n f
unfolding joined
joined_past n zero f h = rw (add-zero n) refl
joined_past n (suc d) f h = rw (add-suc n d, h (n + d) (omega arith)) (append-nil (joined (n + d) f) ∙ joined_past n d f h)
