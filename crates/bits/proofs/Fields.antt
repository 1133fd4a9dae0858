-- Laws of fields one after another: what was put is read, what was read is put, other bits untouched; the same of items.
use mathlib.Core.Path.{◌≡◌, refl, ap₂, ◌∙◌}
use mathlib.Core.List.{List, [], ◌∷◌}
use Prim.Native.Nat.{ℕ, zero, suc, ◌+◌, ◌*◌, ◌<◌, ◌≤◌}
use native.Mathlib.Nat.{mul-le-mul_left}
use native.Mathlib.Decide.{dec_lt}
use native.Mathlib.Omega.{arith}
use lib.ListN.{length}
use Rattle.rows.specs.Bit.{bit_at}
use Rattle.rows.proofs.Sum.{side, below, equal, above}
use Rattle.bits.specs.Field.{Bytes, field, put}
use Rattle.bits.specs.Fields.{total, reads, puts, Fit, place, item, put_items}
use Rattle.bits.proofs.ReadAsPut.{field_lt, field_same, length_put, bytes_put, put_before, put_after, field_put, put_field}

pub length_puts : (z : List ℕ) (at : ℕ) (ws vs : List ℕ) → length (puts z at ws vs) ≡ length z
length_puts z at [] vs = refl
length_puts z at (w ∷ ws) [] = refl
length_puts z at (w ∷ ws) (v ∷ vs) = length_puts (put z at w v) (at + w) ws vs ∙ length_put z at w v

pub bytes_puts : (z : List ℕ) (at : ℕ) (ws vs : List ℕ) → Bytes z → Bytes (puts z at ws vs)
bytes_puts z at [] vs g = g
bytes_puts z at (w ∷ ws) [] g = g
bytes_puts z at (w ∷ ws) (v ∷ vs) g = bytes_puts (put z at w v) (at + w) ws vs (bytes_put z at w v g)

pub puts_before : (z : List ℕ) (at : ℕ) (ws vs : List ℕ) (i : ℕ) → i < at → bit_at (puts z at ws vs) i ≡ bit_at z i
puts_before z at [] vs i h = refl
puts_before z at (w ∷ ws) [] i h = refl
puts_before z at (w ∷ ws) (v ∷ vs) i h = puts_before (put z at w v) (at + w) ws vs i (omega arith) ∙ put_before z at w v i h

pub puts_after : (z : List ℕ) (at : ℕ) (ws vs : List ℕ) (i : ℕ) → at + total ws ≤ i → bit_at (puts z at ws vs) i ≡ bit_at z i
puts_after z at [] vs i h = refl
puts_after z at (w ∷ ws) [] i h = refl
puts_after z at (w ∷ ws) (v ∷ vs) i h = puts_after (put z at w v) (at + w) ws vs i (omega arith) ∙ put_after z at w v i (omega arith)

pub reads_same : (xs ys : List ℕ) (at : ℕ) (ws : List ℕ) → ((i : ℕ) → at ≤ i → i < at + total ws → bit_at xs i ≡ bit_at ys i) → reads xs at ws ≡ reads ys at ws
reads_same xs ys at [] e = refl
reads_same xs ys at (w ∷ ws) e =
    ap₂ {C = List ℕ} (λ (x : ℕ) (l : List ℕ). x ∷ l)
    (field_same xs ys at w (λ i h k. e i h (omega arith)))
    (reads_same xs ys (at + w) ws (λ i h k. e i (omega arith) (omega arith)))

pub fit_reads : (bs : List ℕ) (at : ℕ) (ws : List ℕ) → Fit ws (reads bs at ws)
fit_reads bs at [] = tt
fit_reads bs at (w ∷ ws) = (field_lt bs at w, fit_reads bs (at + w) ws)

-- What was put is read.
pub reads_puts : (z : List ℕ) (at : ℕ) (ws vs : List ℕ) → at + total ws ≤ 8 * length z → Fit ws vs → reads (puts z at ws vs) at ws ≡ vs
reads_puts z at [] [] h f = refl
reads_puts z at (w ∷ ws) (v ∷ vs) h f =
    ap₂ {C = List ℕ} (λ (x : ℕ) (l : List ℕ). x ∷ l)
    (field_same _ (put z at w v) at w (λ i l k. puts_before (put z at w v) (at + w) ws vs i k) ∙ field_put z at w v (omega arith) f.0)
    (reads_puts (put z at w v) (at + w) ws vs (omega (arith, length_put z at w v)) f.1)
reads_puts z at [] (v ∷ vs) h f = elim f [ ]
reads_puts z at (w ∷ ws) [] h f = elim f [ ]

-- What was read from b and put into z has b's bits there.
pub puts_reads : (z b : List ℕ) (at : ℕ) (ws : List ℕ) (i : ℕ) → at + total ws ≤ 8 * length z → at ≤ i → i < at + total ws → bit_at (puts z at ws (reads b at ws)) i ≡ bit_at b i
puts_reads z b at [] i h l k = absurd (omega arith)
puts_reads z b at (w ∷ ws) i h l k = pick (puts_reads (put z at w (field b at w)) b (at + w) ws i (omega (arith, length_put z at w (field b at w)))) (dec_lt i (at + w))
  where
    z' : List ℕ
    z' = put z at w (field b at w)

    goal : Type 0
    goal = bit_at (puts z' (at + w) ws (reads b (at + w) ws)) i ≡ bit_at b i

    pick : (at + w ≤ i → i < at + w + total ws → goal) → Dec (i < at + w) → goal
    pick f (yes j) = puts_before z' (at + w) ws (reads b (at + w) ws) i j ∙ put_field z b at w i (omega arith) l j
    pick f (no j) = f (omega arith) (omega arith)

-- ---- items of one layout

module _ (ws : List ℕ) (z : List ℕ) (at : ℕ) (f : ℕ → List ℕ) where
  pub length_items : (n : ℕ) → length (put_items ws z at f n) ≡ length z
  unfolding put_items
  length_items zero = refl
  length_items (suc n) = length_puts (put_items ws z at f n) (place ws at n) ws (f n) ∙ length_items n

  pub bytes_items : (n : ℕ) → Bytes z → Bytes (put_items ws z at f n)
  unfolding put_items
  bytes_items zero g = g
  bytes_items (suc n) g = bytes_puts (put_items ws z at f n) (place ws at n) ws (f n) (bytes_items n g)

  pub items_before : (n i : ℕ) → i < at → bit_at (put_items ws z at f n) i ≡ bit_at z i
  unfolding put_items
  items_before zero i h = refl
  items_before (suc n) i h = puts_before (put_items ws z at f n) (place ws at n) ws (f n) i (omega arith) ∙ items_before n i h

  pub items_after : (n i : ℕ) → place ws at n ≤ i → bit_at (put_items ws z at f n) i ≡ bit_at z i
  unfolding put_items
  items_after zero i h = refl
  items_after (suc n) i h = puts_after (put_items ws z at f n) (place ws at n) ws (f n) i (omega arith) ∙ items_after n i (omega arith)

  -- What was put is read.
  pub item_put : (n k : ℕ) → place ws at n ≤ 8 * length z → k < n → Fit ws (f k) → item ws (put_items ws z at f n) at k ≡ f k
  unfolding put_items
  item_put zero k h l g = absurd (omega arith)
  item_put (suc n) k h l g = elim (side k n) [
    | below u ↦
        let p = mul-le-mul_left (total ws) u in
        reads_same _ (put_items ws z at f n) (place ws at k) ws (λ i a b. puts_before (put_items ws z at f n) (place ws at n) ws (f n) i (omega arith))
        ∙ item_put n k (omega arith) u g
    | equal u ↦ rw u (reads_puts (put_items ws z at f n) (place ws at n) ws (f n) (omega (arith, length_items n)) (rw u at g))
    | above u ↦ absurd (omega arith)
  ]

-- What was read from b and put into z has b's bits there.
pub items_bits : (ws z b : List ℕ) (at n i : ℕ) → place ws at n ≤ 8 * length z → at ≤ i → i < place ws at n → bit_at (put_items ws z at (item ws b at) n) i ≡ bit_at b i
unfolding put_items
items_bits ws z b at zero i h l k = absurd (omega arith)
items_bits ws z b at (suc n) i h l k = pick (items_bits ws z b at n i (omega arith) l) (dec_lt i (place ws at n))
  where
    z' : List ℕ
    z' = put_items ws z at (item ws b at) n

    goal : Type 0
    goal = bit_at (puts z' (place ws at n) ws (item ws b at n)) i ≡ bit_at b i

    pick : (i < place ws at n → bit_at z' i ≡ bit_at b i) → Dec (i < place ws at n) → goal
    pick f (yes j) = puts_before z' (place ws at n) ws (item ws b at n) i j ∙ f j
    pick f (no j) = puts_reads z' b (place ws at n) ws i (omega (arith, length_items ws z at (item ws b at) n)) (omega arith) (omega arith)

-- Only the first n items matter.
pub items_same : (ws z : List ℕ) (at : ℕ) (f g : ℕ → List ℕ) (n : ℕ) → ((k : ℕ) → k < n → f k ≡ g k) → put_items ws z at f n ≡ put_items ws z at g n
unfolding put_items
items_same ws z at f g zero e = refl
items_same ws z at f g (suc n) e = rw (items_same ws z at f g n (λ k l. e k (omega arith)), e n (omega arith)) refl
