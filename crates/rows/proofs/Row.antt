-- Laws of rows: first places filled one by one, a part in the middle, tests over the first places.
use mathlib.Core.Path.{◌≡◌, refl, sym, ap, ◌∙◌}
use mathlib.Core.Bool.{Bool, true, false, ◌&&◌, ◌||◌, true≢false, false≢true}
use mathlib.Core.Logic.{◌⊎◌, ⊎_elim}
use mathlib.Core.List.{List, [], ◌∷◌, ◌++◌, append_assoc, append-nil}
use Prim.Native.Nat.{ℕ, zero, suc, ◌+◌, ◌-◌, ◌<◌, ◌≤◌}
use native.Mathlib.Omega.{arith}
use native.Mathlib.Numerals.{add-one}
use lib.ListN.{length, get_or, take, drop, set, drop_of_length-le, length-append, length-take, length-drop, get_or-append}
use lib.Seq.{take_at, drop_at, drop-cons, set_at, length-take-le, get_or-take, get_or-drop, get_or-append-add, get_or_at, ext_get_or}
use Rattle.rows.specs.Row.{up_to, headed, placed, some, every}
use Rattle.rows.proofs.Sum.{side, below, equal, above}

module _ {A : Type 0} where
  pub length_up_to : (n : ℕ) (f : ℕ → A) → length (up_to n f) ≡ n
  unfolding up_to
  length_up_to zero f = refl
  length_up_to (suc n) f = length-append (up_to n f) (f n ∷ []) ∙ omega (arith, length_up_to n f)

  pub get_d_up_to : (n : ℕ) (f : ℕ → A) (k : ℕ) (d : A) → k < n → get_or (up_to n f) k d ≡ f k
  unfolding up_to
  get_d_up_to zero f k d h = absurd (omega arith)
  get_d_up_to (suc n) f k d h = elim (side k n) [
    | below l ↦ get_or-append (up_to n f) (f n ∷ []) d k (omega (arith, length_up_to n f)) ∙ get_d_up_to n f k d l
    | equal l ↦ rw l (get_or_at (up_to n f) (f n) [] d n (length_up_to n f))
    | above l ↦ absurd (omega arith)
  ]

  -- A row filled at one place more.
  pub headed_more : (n : ℕ) (f : ℕ → A) (l : List A) → n < length l → set (headed n f l) n (f n) ≡ headed (n + 1) f l
  unfolding up_to
  headed_more n f [] h = absurd (omega arith)
  headed_more n f (x ∷ xs) h =
      rw (add-one, drop-cons (x ∷ xs) n x h, append_assoc)
      (set_at (up_to n f) (get_or (x ∷ xs) n x) (drop (suc n) (x ∷ xs)) (f n) n (length_up_to n f))

  pub headed_none : (f : ℕ → A) (l : List A) → headed 0 f l ≡ l
  unfolding up_to
  headed_none f l = refl

  pub length_headed : (n : ℕ) (f : ℕ → A) (l : List A) → n ≤ length l → length (headed n f l) ≡ length l
  length_headed n f l h = simp (length-append, length-drop) (omega (arith, length_up_to n f))

  pub headed_at : (n : ℕ) (f : ℕ → A) (l : List A) (k : ℕ) (d : A) → k < n → get_or (headed n f l) k d ≡ f k
  headed_at n f l k d h = get_or-append (up_to n f) (drop n l) d k (omega (arith, length_up_to n f)) ∙ get_d_up_to n f k d h

  pub headed_rest : (n : ℕ) (f : ℕ → A) (l : List A) (k : ℕ) (d : A) → n ≤ k → get_or (headed n f l) k d ≡ get_or l k d
  headed_rest n f l k d h =
      let p : k ≡ length (up_to n f) + (k - n) = omega (arith, length_up_to n f) in
      let q : n + (k - n) ≡ k = omega arith in
      ap (λ (m : ℕ). get_or (headed n f l) m d) p
      ∙ get_or-append-add (up_to n f) (drop n l) (k - n) d
      ∙ get_or-drop n l (k - n) d
      ∙ ap (λ (m : ℕ). get_or l m d) q

  -- A row filled with another that is as long.
  pub headed_all : (s l : List A) (d : A) → length s ≡ length l → headed (length l) (λ k. get_or s k d) l ≡ s
  headed_all s l d e =
      rw (drop_of_length-le l {i = length l} (omega arith), append-nil)
      (ext_get_or d (up_to (length l) (λ k. get_or s k d)) s (length_up_to (length l) (λ k. get_or s k d) ∙ sym e)
      (λ i h. get_d_up_to (length l) (λ k. get_or s k d) i d (omega (arith, length_up_to (length l) (λ k. get_or s k d)))))

  module _ (a n : ℕ) (t s : List A) (in-t : a + n ≤ length t) (long : length s ≡ n) where
    front : length (take a t) ≡ a
    front = length-take-le a t (omega arith)

    pub length_placed : length (placed a n t s) ≡ length t
    length_placed = simp (length-append, length-take, length-drop) (omega arith)

    pub placed_mid : take n (drop a (placed a n t s)) ≡ s
    placed_mid = rw (drop_at (take a t) (s ++ drop n (drop a t)) a front) (take_at s (drop n (drop a t)) n long)

    pub placed_low : (i : ℕ) (d : A) → i < a → get_or (placed a n t s) i d ≡ get_or t i d
    placed_low i d l = get_or-append (take a t) (s ++ drop n (drop a t)) d i (omega (arith, front)) ∙ get_or-take a t i d l

    pub placed_high : (i : ℕ) (d : A) → a + n ≤ i → get_or (placed a n t s) i d ≡ get_or t i d
    placed_high i d l =
        let j : ℕ = i - (a + n) in
        let p : i ≡ length (take a t) + (length s + j) = omega (arith, front) in
        let q : a + (n + j) ≡ i = omega arith in
        ap (λ (m : ℕ). get_or (placed a n t s) m d) p
        ∙ get_or-append-add (take a t) (s ++ drop n (drop a t)) (length s + j) d
        ∙ get_or-append-add s (drop n (drop a t)) j d
        ∙ get_or-drop n (drop a t) j d
        ∙ get_or-drop a t (n + j) d
        ∙ ap (λ (m : ℕ). get_or t m d) q

    -- Any other stretch is as it was.
    pub placed_other : A → (b m : ℕ) → b + m ≤ length t → (b + m ≤ a) ⊎ (a + n ≤ b) → take m (drop b (placed a n t s)) ≡ take m (drop b t)
    placed_other d b m h w =
        ext_get_or d (take m (drop b (placed a n t s))) (take m (drop b t))
        (simp (length-take, length-drop) (omega (arith, length_placed)))
        (λ i l.
        let l' : i < m = omega (arith, simp length-take at l) in
        rw (get_or-take m (drop b (placed a n t s)) i d l', get_or-take m (drop b t) i d l', get_or-drop b (placed a n t s) i d, get_or-drop b t i d)
        (⊎_elim (λ z. placed_low (b + i) d (omega arith)) (λ z. placed_high (b + i) d (omega arith)) w))

-- What `or` and `and` say.
pub either_false : (a b : Bool) → a || b ≡ false → (a ≡ false) × (b ≡ false)
either_false true b e = absurd (true≢false e)
either_false false b e = (refl, e)

pub both_true : (a b : Bool) → a && b ≡ true → (a ≡ true) × (b ≡ true)
both_true true b e = (refl, e)
both_true false b e = absurd (false≢true e)

pub or_true : (a : Bool) → a || true ≡ true
or_true true = refl
or_true false = refl

pub and_false : (a : Bool) → a && false ≡ false
and_false true = refl
and_false false = refl

-- Only the first n places matter.
pub some_same : (n : ℕ) (p q : ℕ → Bool) → ((k : ℕ) → k < n → p k ≡ q k) → some n p ≡ some n q
unfolding some
some_same zero p q e = refl
some_same (suc n) p q e = rw (some_same n p q (λ k l. e k (omega arith)), e n (omega arith)) refl

module _ (p : ℕ → Bool) where
  pub some_none : some 0 p ≡ false
  unfolding some
  some_none = refl

  pub some_more : (n : ℕ) → some n p ≡ false → p n ≡ false → some (n + 1) p ≡ false
  unfolding some
  some_more n e h = rw (add-one, e, h) refl

  pub some_at : (n k : ℕ) → k < n → p k ≡ true → some n p ≡ true
  unfolding some
  some_at zero k h e = absurd (omega arith)
  some_at (suc n) k h e = elim (side k n) [
    | below l ↦ rw (some_at n k l e) refl
    | equal l ↦ rw (← l, e) (or_true (some k p))
    | above l ↦ absurd (omega arith)
  ]

  pub some_never : (n : ℕ) → ((k : ℕ) → p k ≡ false) → some n p ≡ false
  unfolding some
  some_never zero h = refl
  some_never (suc n) h = rw (some_never n h, h n) refl

  pub no_some : (n : ℕ) → some n p ≡ false → (k : ℕ) → k < n → p k ≡ false
  unfolding some
  no_some zero e k h = absurd (omega arith)
  no_some (suc n) e k h =
      let w = either_false (some n p) (p n) e in
      elim (side k n) [ below l ↦ no_some n w.0 k l | equal l ↦ rw l w.1 | above l ↦ absurd (omega arith) ]

  pub every_at : (n : ℕ) → every n p ≡ true → (k : ℕ) → k < n → p k ≡ true
  unfolding every
  every_at zero e k h = absurd (omega arith)
  every_at (suc n) e k h =
      let w = both_true (every n p) (p n) e in
      elim (side k n) [ below l ↦ every_at n w.0 k l | equal l ↦ rw l w.1 | above l ↦ absurd (omega arith) ]

  pub every_none : every 0 p ≡ true
  unfolding every
  every_none = refl

  pub every_more : (n : ℕ) → every n p ≡ true → p n ≡ true → every (n + 1) p ≡ true
  unfolding every
  every_more n e h = rw (add-one, e, h) refl

  -- One that fails is enough.
  pub every_not : (n k : ℕ) → k < n → p k ≡ false → every n p ≡ false
  every_not n k l e = go (every n p) refl
    where
      go : (t : Bool) → every n p ≡ t → every n p ≡ false
      go true q = absurd (true≢false (sym (every_at n q k l) ∙ e))
      go false q = q

  pub every_from : (n : ℕ) → ((k : ℕ) → k < n → p k ≡ true) → every n p ≡ true
  unfolding every
  every_from zero h = refl
  every_from (suc n) h = rw (every_from n (λ k l. h k (omega arith)), h n (omega arith)) refl
