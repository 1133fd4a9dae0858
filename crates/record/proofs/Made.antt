-- A record as it is written, and what it then shows.
use mathlib.Core.Path.{◌≡◌, refl, sym, ap, ◌∙◌}
use mathlib.Core.List.{List, [], ◌∷◌, ◌++◌, append-nil, append_assoc}
use Prim.Native.Nat.{ℕ, zero, suc, ◌-◌, ◌+◌, ◌/◌, ◌%◌, ◌<◌, ◌≤◌}
use native.Mathlib.Omega.{arith}
use lib.ListN.{length, take, drop, set, drop_of_length-le, length-append, length-drop, get_or-append}
use lib.Seq.{take_at, drop_at, take_all, get_or-append-add}
use Rattle.rows.specs.Row.{nth, placed}
use Rattle.rows.specs.Bit.{has}
use Rattle.rows.proofs.Sum.{side, below, equal, above}
use Rattle.bits.specs.Field.{Bytes}
use Rattle.verdict.specs.Record.{verdict_in, shortage_in, group_in, names, Zero}
use Rattle.record.specs.Inside.{record_bytes}

-- A front p of a elements, then what is put in the place of the next n.
front : (a n : ℕ) (p rest s : List ℕ) → length p ≡ a → placed a n (p ++ rest) s ≡ p ++ s ++ drop n rest
front a n p rest s e = rw (take_at p rest a e, drop_at p rest a e) (sym (append_assoc p s (drop n rest)))

-- The three bytes of a shortage.
shortage_bytes : (s : ℕ) → s < 16777216 → (s / 65536 % 256 ∷ s / 256 % 256 ∷ s % 256 ∷ []) ≡ (s / 65536 ∷ s / 256 % 256 ∷ s % 256 ∷ [])
shortage_bytes s h = let e : s / 65536 % 256 ≡ s / 65536 = omega arith in rw e

-- A byte at the start, and three parts after it.
pub made : (t : List ℕ) (v s : ℕ) (o p q g h : List ℕ) → length t ≡ 52 → s < 16777216 → length g ≡ 16 → length h ≡ 32
    → o ≡ (s / 65536 % 256 ∷ s / 256 % 256 ∷ s % 256 ∷ []) → p ≡ g → q ≡ h
    → placed 20 32 (placed 4 16 (placed 1 3 (set t 0 v) o) p) q ≡ record_bytes v s g h
unfolding record_bytes
made [] v s o p q g h lt small lg lh eo ep eq = absurd (omega arith)
made (x ∷ t) v s o p q g h lt small lg lh eo ep eq =
    let f = v ∷ s / 65536 ∷ s / 256 % 256 ∷ s % 256 ∷ [] in
    let l : length (f ++ g) ≡ 20 = simp length-append (omega arith) in
    let z : length (drop 16 (drop 3 t)) ≤ 32 = simp length-drop (omega arith) in
    rw (eo ∙ shortage_bytes s small, ep, eq, front 4 16 f (drop 3 t) g refl, front 20 32 (f ++ g) (drop 16 (drop 3 t)) h l, drop_of_length-le (drop 16 (drop 3 t)) {i = 32} z)
    (append-nil ((f ++ g) ++ h) ∙ append_assoc f g h)

module _ (v s : ℕ) (g h : List ℕ) (lg : length g ≡ 16) (lh : length h ≡ 32) where
  pub record_long : length (record_bytes v s g h) ≡ 52
  unfolding record_bytes
  record_long = simp length-append (omega arith)

  pub record_verdict : verdict_in (record_bytes v s g h) ≡ v
  unfolding record_bytes
  record_verdict = refl

  pub record_shortage : s < 16777216 → shortage_in (record_bytes v s g h) ≡ s
  unfolding record_bytes
  record_shortage l = omega arith

  pub record_group : (i : ℕ) → group_in (record_bytes v s g h) i ≡ has g i
  unfolding record_bytes
  record_group i = ap (λ (l : List ℕ). has l i) (take_at g h 16 lg)

  pub record_reroute : (j : ℕ) → names (record_bytes v s g h) j ≡ has h j
  unfolding record_bytes
  record_reroute j = ap (λ (l : List ℕ). has l j) (ap (take 32) (drop_at g h 16 lg) ∙ take_all 32 h (omega arith))

  pub record_bytes_lem : v < 256 → s < 16777216 → Bytes g → Bytes h → Bytes (record_bytes v s g h)
  unfolding record_bytes
  record_bytes_lem hv hs bg bh zero = hv
  record_bytes_lem hv hs bg bh (suc zero) = omega arith
  record_bytes_lem hv hs bg bh (suc (suc zero)) = omega arith
  record_bytes_lem hv hs bg bh (suc (suc (suc zero))) = omega arith
  record_bytes_lem hv hs bg bh (suc (suc (suc (suc j)))) = elim (side j 16) [
    | below l ↦ rw (get_or-append g h 0 j (omega arith)) (bg j)
    | equal l ↦ past j (omega arith)
    | above l ↦ past j (omega arith)
  ]
    where
      past : (j : ℕ) → 16 ≤ j → nth (g ++ h) j < 256
      past j l = let e : j ≡ length g + (j - 16) = omega arith in rw (ap (nth (g ++ h)) e, get_or-append-add g h (j - 16) 0) (bh (j - 16))

  -- A record without shortage and group.
  pub record_plain : s ≡ 0 → ((j : ℕ) → nth g j ≡ 0) → Zero (record_bytes v s g h) 1 20
  unfolding record_bytes
  record_plain e zg zero a b = absurd (omega arith)
  record_plain e zg (suc zero) a b = omega arith
  record_plain e zg (suc (suc zero)) a b = omega arith
  record_plain e zg (suc (suc (suc zero))) a b = omega arith
  record_plain e zg (suc (suc (suc (suc j)))) a b = get_or-append g h 0 j (omega arith) ∙ zg j

  -- The bytes of the reroute.
  pub record_tail : (j : ℕ) → 20 ≤ j → nth (record_bytes v s g h) j ≡ nth h (j - 20)
  unfolding record_bytes
  record_tail zero l = absurd (omega arith)
  record_tail (suc zero) l = absurd (omega arith)
  record_tail (suc (suc zero)) l = absurd (omega arith)
  record_tail (suc (suc (suc zero))) l = absurd (omega arith)
  record_tail (suc (suc (suc (suc j)))) l =
      let e : j ≡ length g + (j - 16) = omega arith in
      let q : suc (suc (suc (suc j))) - 20 ≡ j - 16 = omega arith in
      rw q (ap (nth (g ++ h)) e ∙ get_or-append-add g h (j - 16) 0)
