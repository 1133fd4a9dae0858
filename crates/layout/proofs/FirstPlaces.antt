-- A list is what its places hold, and lists made of the same first places are the same.
use mathlib.Core.Path.{◌≡◌, refl, sym, ◌∙◌}
use mathlib.Core.List.{List}
use Prim.Native.Nat.{ℕ, zero, suc, ◌<◌}
use native.Mathlib.Omega.{arith}
use lib.ListN.{length, get_or}
use lib.Seq.{ext_get_or}
use Rattle.rows.specs.Row.{up_to}
use Rattle.rows.proofs.Row.{length_up_to, get_d_up_to}

module _ {A : Type 0} where
  -- A list is what its places hold.
  pub up_to_list : (l : List A) (d : A) (n : ℕ) (f : ℕ → A) → length l ≡ n → ((k : ℕ) → k < n → f k ≡ get_or l k d) → up_to n f ≡ l
  up_to_list l d n f h e =
      ext_get_or d (up_to n f) l (length_up_to n f ∙ sym h)
      (λ k u. let v : k < n = omega (arith, length_up_to n f) in get_d_up_to n f k d v ∙ e k v)

  pub up_to_same : (n : ℕ) (f g : ℕ → A) → ((k : ℕ) → k < n → f k ≡ g k) → up_to n f ≡ up_to n g
  unfolding up_to
  up_to_same zero f g e = refl
  up_to_same (suc n) f g e = rw (up_to_same n f g (λ k l. e k (omega arith)), e n (omega arith)) refl
