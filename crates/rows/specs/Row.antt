-- Rows: a list read by place, its first places filled, a part in its middle replaced; tests over the first places.
use Rattle.std.specs.Prelude.{Bool, true, false, ◌&&◌, ◌||◌, List, [], ◌∷◌, ◌++◌, ℕ, zero, suc, ◌+◌, ◌*◌, eqb, get_or, take, drop}

-- The number at place k, and 0 past the end.
abbrev pub nth : List ℕ → ℕ → ℕ
nth l k = get_or l k 0

-- The number of the two bytes from `at` on, the high byte first.
abbrev pub two_at : List ℕ → ℕ → ℕ
two_at row at = nth row at * 256 + nth row (at + 1)

-- f 0, f 1, .., f (n - 1).
unfoldable pub up_to : {A : Type 0} → ℕ → (ℕ → A) → List A
up_to zero f = []
up_to (suc n) f = up_to n f ++ (f n ∷ [])

-- l with f in its first n places, and as it was beyond.
abbrev pub headed : {A : Type 0} → ℕ → (ℕ → A) → List A → List A
headed n f l = up_to n f ++ drop n l

-- t with s in the place of the n elements from a on: what a part lent out of the middle leaves.
abbrev pub placed : {A : Type 0} → ℕ → ℕ → List A → List A → List A
placed a n t s = take a t ++ (s ++ drop n (drop a t))

-- n stands in the list.
unfoldable pub member : ℕ → List ℕ → Bool
member n [] = false
member n (x ∷ xs) = eqb n x || member n xs

-- p holds at some k below n; at every k below n.
unfoldable pub some : ℕ → (ℕ → Bool) → Bool
some zero p = false
some (suc n) p = some n p || p n

unfoldable pub every : ℕ → (ℕ → Bool) → Bool
every zero p = true
every (suc n) p = every n p && p n
