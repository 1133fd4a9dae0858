-- Fields one after another, by the list of their widths; and items of one layout one after another.
use Rattle.std.specs.Prelude.{List, [], ◌∷◌, ℕ, zero, suc, ◌+◌, ◌*◌, ◌^◌, ◌<◌}
use Rattle.bits.specs.Field.{field, put}

abbrev pub total : List ℕ → ℕ
total [] = 0
total (w ∷ ws) = w + total ws

-- The values in the fields of widths ws from bit `at` on.
abbrev pub reads : List ℕ → ℕ → List ℕ → List ℕ
reads bs at [] = []
reads bs at (w ∷ ws) = field bs at w ∷ reads bs (at + w) ws

-- The row with the values vs there.
abbrev pub puts : List ℕ → ℕ → List ℕ → List ℕ → List ℕ
puts bs at [] vs = bs
puts bs at (w ∷ ws) [] = bs
puts bs at (w ∷ ws) (v ∷ vs) = puts (put bs at w v) (at + w) ws vs

-- Each value fits its width.
abbrev pub Fit : List ℕ → List ℕ → Type 0
Fit [] [] = Unit
Fit [] (v ∷ vs) = ⊥
Fit (w ∷ ws) [] = ⊥
Fit (w ∷ ws) (v ∷ vs) = (v < 2 ^ w) × Fit ws vs

-- The first bit of item k, of items of layout ws from bit `at` on.
abbrev pub place : List ℕ → ℕ → ℕ → ℕ
place ws at k = at + total ws * k

-- Item k.
abbrev pub item : List ℕ → List ℕ → ℕ → ℕ → List ℕ
item ws bs at k = reads bs (place ws at k) ws

-- The row with the values f 0, f 1, .., f (n - 1) as its items.
unfoldable pub put_items : List ℕ → List ℕ → ℕ → (ℕ → List ℕ) → ℕ → List ℕ
put_items ws bs at f zero = bs
put_items ws bs at f (suc n) = puts (put_items ws bs at f n) (place ws at n) ws (f n)
