-- Computed tests of every group of n buses, and the fact that each gives.
use mathlib.Core.Path.{◌≡◌, refl}
use mathlib.Core.Bool.{Bool, true, false, false≢true}
use Prim.Native.Nat.{ℕ, zero, suc, ◌<◌}
use native.Mathlib.Omega.{arith}
use Rattle.rows.specs.Sum.{Group}

-- Shut, so that a law about them finds its arguments.
infixr 30 ◌&◌
unfoldable pub ◌&◌ : Bool → Bool → Bool
true & b = b
false & b = false

infixr 20 ◌⇒◌
unfoldable pub ◌⇒◌ : Bool → Bool → Bool
true ⇒ b = b
false ⇒ b = true

pub and_left : (a b : Bool) → (a & b) ≡ true → a ≡ true
unfolding ◌&◌
and_left true b t = refl
and_left false b t = t

pub and_right : (a b : Bool) → (a & b) ≡ true → b ≡ true
unfolding ◌&◌
and_right true b t = t
and_right false b t = absurd (false≢true t)

pub imply : (a b : Bool) → (a ⇒ b) ≡ true → a ≡ true → b ≡ true
unfolding ◌⇒◌
imply true b h p = h
imply false b h p = absurd (false≢true p)

abbrev onto : Bool → Group → Group
onto b S zero = b
onto b S (suc i) = S i

abbrev nobody : Group
nobody i = false

unfoldable pub every_group : ℕ → (Group → Bool) → Bool
every_group zero p = p nobody
every_group (suc n) p = every_group n (λ S. p (onto true S)) & every_group n (λ S. p (onto false S))

-- S below n, and nothing beyond.
abbrev pub cut : ℕ → Group → Group
cut zero S = nobody
cut (suc n) S = onto (S zero) (cut n (λ i. S (suc i)))

pub cut_same : (n : ℕ) (S : Group) (i : ℕ) → i < n → cut n S i ≡ S i
cut_same zero S i h = absurd (omega arith)
cut_same (suc n) S zero h = refl
cut_same (suc n) S (suc i) h = cut_same n (λ j. S (suc j)) i (omega arith)

pub every_group_sound : (n : ℕ) (p : Group → Bool) → every_group n p ≡ true → (S : Group) → p (cut n S) ≡ true
unfolding every_group
every_group_sound zero p t S = t
every_group_sound (suc n) p t S =
    go
    (S zero)
    (every_group_sound n (λ R. p (onto true R)) (and_left _ _ t) (λ i. S (suc i)))
    (every_group_sound n (λ R. p (onto false R)) (and_right _ _ t) (λ i. S (suc i)))
  where
    go : (b : Bool) → p (onto true (cut n (λ i. S (suc i)))) ≡ true → p (onto false (cut n (λ i. S (suc i)))) ≡ true → p (onto b (cut n (λ i. S (suc i)))) ≡ true
    go true x y = x
    go false x y = y
