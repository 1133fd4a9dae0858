-- The shortlist test, a byte of the reroute and of the touched branches at a time.
use mathlib.Core.Path.{◌≡◌, refl, sym, ap, ◌∙◌}
use mathlib.Core.Bool.{Bool, true, false, ◌&&◌, true≢false}
use mathlib.Core.List.{List}
use Prim.Native.Nat.{ℕ, zero, suc, ◌+◌, ◌-◌, ◌*◌, ◌/◌, ◌%◌, ◌<◌, ◌≤◌, min}
use native.Mathlib.Omega.{arith}
use borrow.Author.Tests.{eq-eqb, eqb-true}
use lib.Bits.{bit_and, and_step, and_lt}
use lib.ListN.{length, take, drop, get_or, length-drop}
use lib.Seq.{get_or-take, get_or-drop, length-take-le}
use Rattle.std.proofs.lemmas.Slice.Zip.{length-zip, get_or-zip}
use Rattle.std.specs.Bool.{MatchBool}
use Rattle.std.specs.List.{AllWithin, HoldsAt, zip}
use Rattle.rows.specs.Row.{nth, some}
use Rattle.rows.specs.Bit.{bit_at, has}
use Rattle.rows.proofs.Row.{some_none, some_more, no_some, both_true}
use Rattle.bits.specs.Field.{Bytes}
use Rattle.bits.proofs.Low.{low, low_lt, low_shift, low_zero, low_ext}
use Rattle.verdict.specs.Record.{verdict_in, names}
use Rattle.record.specs.Inside.{listed}

-- ---- One byte.
least_two : (a b q : ℕ) → a < 2 → b < 2 → (q * 2 + min a b) / 2 ≡ q
least_two a b q ha hb = omega arith

least_odd : (a b q : ℕ) → a < 2 → b < 2 → (q * 2 + min a b) % 2 ≡ min a b
least_odd a b q ha hb = omega arith

and_half : (x y : ℕ) → bit_and x y / 2 ≡ bit_and (x / 2) (y / 2)
and_half x y = rw (and_step x y) (least_two (x % 2) (y % 2) (bit_and (x / 2) (y / 2)) (omega arith) (omega arith))

and_odd : (x y : ℕ) → bit_and x y % 2 ≡ min (x % 2) (y % 2)
and_odd x y = rw (and_step x y) (least_odd (x % 2) (y % 2) (bit_and (x / 2) (y / 2)) (omega arith) (omega arith))

low_and : (x y k : ℕ) → low (bit_and x y) k ≡ min (low x k) (low y k)
unfolding low
low_and x y zero = and_odd x y
low_and x y (suc k) = rw (and_half x y) (low_and (x / 2) (y / 2) k)

-- Two bytes have a bit in common exactly if what both have isn't 0.
pub apart : (x y : ℕ) → bit_and x y ≡ 0 → (k : ℕ) → low x k ≡ 1 → low y k ≡ 1 → ⊥
apart x y e k p q = omega (arith, low_and x y k, ap (λ (n : ℕ). low n k) e, low_zero k)

pub together : (x y : ℕ) → x < 256 → y < 256 → (bit_and x y ≡ 0 → ⊥) → ((k : ℕ) → k < 8 → low x k ≡ 1 → low y k ≡ 1 → ⊥) → ⊥
together x y hx hy n h =
    n (low_ext 8 (bit_and x y) 0 (and_lt 8 x y hx hy) (omega arith) (λ k l. none k l (low x k) (low y k) refl refl))
  where
    none : (k : ℕ) → k < 8 → (a b : ℕ) → low x k ≡ a → low y k ≡ b → low (bit_and x y) k ≡ low 0 k
    none k l zero b p q = omega (arith, low_and x y k, low_zero k)
    none k l (suc a) zero p q = omega (arith, low_and x y k, low_zero k)
    none k l (suc a) (suc b) p q = absurd (h k l (omega (arith, low_lt x k)) (omega (arith, low_lt y k)))

-- ---- The rows.
module _ (rec touched : List ℕ) where
  abbrev hit : ℕ → Bool
  hit j = names rec j && has touched j

  named_bit : (i k : ℕ) → i < 32 → k < 8 → bit_at (take 32 (drop 20 rec)) (8 * i + k) ≡ low (nth rec (20 + i)) (7 - k)
  unfolding bit_at
  named_bit i k l u =
      let p : (8 * i + k) / 8 ≡ i = omega arith in
      let q : (8 * i + k) % 8 ≡ k = omega arith in
      rw (p, q, get_or-take 32 (drop 20 rec) i 0 l, get_or-drop 20 rec i 0) (sym (low_shift (nth rec (20 + i)) (7 - k)))

  touched_bit : (i k : ℕ) → k < 8 → bit_at touched (8 * i + k) ≡ low (nth touched i) (7 - k)
  unfolding bit_at
  touched_bit i k u =
      let p : (8 * i + k) / 8 ≡ i = omega arith in
      let q : (8 * i + k) % 8 ≡ k = omega arith in
      rw (p, q) (sym (low_shift (nth touched i) (7 - k)))

  -- A byte with nothing in common.
  clear_at : (i k : ℕ) → i < 32 → k < 8 → bit_and (nth rec (20 + i)) (nth touched i) ≡ 0 → hit (8 * i + k) ≡ false
  clear_at i k l u e = go (hit (8 * i + k)) refl
    where
      go : (t : Bool) → (names rec (8 * i + k) && has touched (8 * i + k)) ≡ t → (names rec (8 * i + k) && has touched (8 * i + k)) ≡ false
      go false h = h
      go true h =
          let w = both_true (names rec (8 * i + k)) (has touched (8 * i + k)) h in
          absurd (apart (nth rec (20 + i)) (nth touched i) e (7 - k)
          (sym (named_bit i k l u) ∙ eqb-true (bit_at (take 32 (drop 20 rec)) (8 * i + k)) 1 w.0)
          (sym (touched_bit i k u) ∙ eqb-true (bit_at touched (8 * i + k)) 1 w.1))

  clear_to : (i : ℕ) → i < 32 → bit_and (nth rec (20 + i)) (nth touched i) ≡ 0 → some (8 * i) hit ≡ false → (k : ℕ) → k ≤ 8 → some (8 * i + k) hit ≡ false
  clear_to i l e s zero u = let z : 8 * i + 0 ≡ 8 * i = omega arith in rw z s
  clear_to i l e s (suc k) u =
      let z : 8 * i + suc k ≡ 8 * i + k + 1 = omega arith in
      rw z (some_more hit (8 * i + k) (clear_to i l e s k (omega arith)) (clear_at i k l (omega arith) e))

  -- So many bytes with nothing in common.
  none_to : ((i : ℕ) → i < 32 → bit_and (nth rec (20 + i)) (nth touched i) ≡ 0) → (n : ℕ) → n ≤ 32 → some (8 * n) hit ≡ false
  none_to h zero l = some_none hit
  none_to h (suc n) l =
      let z : 8 * suc n ≡ 8 * n + 8 = omega arith in
      rw z (clear_to n (omega arith) (h n (omega arith)) (none_to h n (omega arith)) 8 (omega arith))

  missed : verdict_in rec ≡ 1 → ((i : ℕ) → i < 32 → bit_and (nth rec (20 + i)) (nth touched i) ≡ 0) → false ≡ listed rec touched
  unfolding listed
  missed v h = rw (eq-eqb (verdict_in rec) 1 v, none_to h 32 (omega arith)) refl

  pub met : {i : ℕ} → verdict_in rec ≡ 1 → i < 32 → nth rec (20 + i) < 256 → nth touched i < 256 → (bit_and (nth rec (20 + i)) (nth touched i) ≡ 0 → ⊥) → true ≡ listed rec touched
  unfolding listed
  met {i} v l hx hy n = rw (eq-eqb (verdict_in rec) 1 v) (go (some 256 hit) refl)
    where
      go : (t : Bool) → some 256 (λ j. names rec j && has touched j) ≡ t → true ≡ some 256 (λ j. names rec j && has touched j)
      go true e = sym e
      go false e =
          absurd (together (nth rec (20 + i)) (nth touched i) hx hy n (λ k u a b.
          let v : 7 - (7 - k) ≡ k = omega arith in
          let x : names rec (8 * i + (7 - k)) ≡ true = eq-eqb _ 1 (named_bit i (7 - k) l (omega arith) ∙ rw v a) in
          let y : has touched (8 * i + (7 - k)) ≡ true = eq-eqb _ 1 (touched_bit i (7 - k) (omega arith) ∙ rw v b) in
          true≢false (sym (rw (x, y) refl) ∙ no_some (λ j. names rec j && has touched j) 256 e (8 * i + (7 - k)) (omega arith))))

  -- The bytes in pairs: whether two in a place have a bit in common.
  abbrev pairs : List (ℕ × ℕ)
  pairs = zip (take 32 (drop 20 rec)) touched

  abbrev pub Common : ℕ × ℕ → Type 0
  Common p = bit_and p.0 p.1 ≡ 0 → ⊥

  abbrev pub Apart : ℕ × ℕ → Type 0
  Apart p = bit_and p.0 p.1 ≡ 0

  module _ (long : length rec ≡ 52) (wide : length touched ≡ 32) where
    long_part : length (take 32 (drop 20 rec)) ≡ 32
    long_part = length-take-le 32 (drop 20 rec) (rw length-drop (omega arith))

    long_pairs : length pairs ≡ 32
    long_pairs = omega (arith, length-zip (take 32 (drop 20 rec)) touched, long_part)

    pair_at : (i : ℕ) → i < 32 → get_or pairs i (0, 0) ≡ (nth rec (20 + i), nth touched i)
    pair_at i l =
        get_or-zip (take 32 (drop 20 rec)) touched i (0, 0) (omega (arith, long_part)) (omega arith)
        ∙ ap (λ (x : ℕ). (x, nth touched i)) (get_or-take 32 (drop 20 rec) i 0 l ∙ get_or-drop 20 rec i 0)

    pub by_pairs : verdict_in rec ≡ 1 → Bytes rec → Bytes touched → (r : Bool)
        → MatchBool r ((k : ℕ) × (k < length pairs) × HoldsAt Common pairs k) (AllWithin Apart pairs 0 (length pairs)) → r ≡ listed rec touched
    by_pairs v x y true (k, h, f) =
        let u : k < 32 = omega (arith, long_pairs) in
        met v u (x (20 + k)) (y k) (rw (pair_at k u) at (f (0, 0)))
    by_pairs v x y false f = missed v (λ i l. rw (pair_at i l) at (f i (0, 0) (omega arith) (omega (arith, long_pairs))))
