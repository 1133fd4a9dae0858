-- Verdict, shortage and group of a true record follow from the case alone; so does what an overload shows.
use mathlib.Core.Path.{◌≡◌, refl, sym, ap, ◌∙◌, subst}
use mathlib.Core.Bool.{Bool, true, false, true≢false}
use mathlib.Core.List.{List}
use Prim.Native.Nat.{ℕ, zero, suc, ◌+◌, ◌-◌, ◌*◌, ◌≤◌, ◌<◌}
use native.Mathlib.Omega.{arith}
use borrow.Author.Tests.{eqb-true, eqb-false}
use lib.IntN.{ℤ, pos}
use lib.Signed.{◌≤ℤ◌}
use lib.ListN.{length, take, drop, length-take, length-drop, get_or-eq_default}
use lib.Seq.{get_or-take, get_or-drop, ext_get_or}
use Rattle.rows.specs.Row.{nth}
use Rattle.rows.specs.Bit.{bit_at, has}
use Rattle.rows.specs.Sum.{Group}
use Rattle.rows.proofs.Sum.{side, below, equal, above}
use Rattle.bits.specs.Field.{Bytes}
use Rattle.bits.proofs.ReadAsPut.{bit_lt, ext_bits}
use Rattle.grid.proofs.OneSmallestGroup.{same_truth}
use Rattle.quantity.proofs.Parts.{at_most}
use Rattle.verdict.specs.Case.{Case}
use Rattle.verdict.specs.Excess.{Largest, Short}
use Rattle.verdict.specs.Record.{record_at, verdict_in, shortage_in, group_in, names, Told, is_out, carries, short, TrueRecord, TrueTable}
use Rattle.verdict.proofs.Loss.{never_both}
use Rattle.verdict.proofs.Islanding.{number_same}

pub clash : {X : Type 0} {t : Bool} → t ≡ true → t ≡ false → X
clash p q = absurd (true≢false (sym p ∙ q))

-- ---- Bytes from what they name.
pub bit_from : (r s : List ℕ) (i : ℕ) → has r i ≡ has s i → bit_at r i ≡ bit_at s i
bit_from r s i e = go (has s i) refl
  where
    go : (t : Bool) → has s i ≡ t → bit_at r i ≡ bit_at s i
    go true h = omega (arith, eqb-true (bit_at r i) 1 (e ∙ h), eqb-true (bit_at s i) 1 h)
    go false h =
        let a : (bit_at r i ≡ 1 → ⊥) = eqb-false (bit_at r i) 1 (e ∙ h) in
        let b : (bit_at s i ≡ 1 → ⊥) = eqb-false (bit_at s i) 1 h in
        omega (arith, bit_lt r i, bit_lt s i)

-- Rows of bytes that name the same numbers are the same.
pub same_names : (r s : List ℕ) → length r ≡ length s → Bytes r → Bytes s → ((i : ℕ) → has r i ≡ has s i) → r ≡ s
same_names r s l br bs h = ext_bits r s l br bs (λ i _. bit_from r s i (h i))

bytes_part : (r : List ℕ) (n at : ℕ) → Bytes r → Bytes (take n (drop at r))
bytes_part r n at h j = elim (side j n) [
  | below l ↦ rw (get_or-take n (drop at r) j 0 l, get_or-drop at r j 0) (h (at + j))
  | equal l ↦ past (omega arith)
  | above l ↦ past (omega arith)
]
  where
    past : n ≤ j → nth (take n (drop at r)) j < 256
    past l = rw (get_or-eq_default (take n (drop at r)) 0 {n = j} (omega (arith, length-take n (drop at r)))) (omega arith)

-- Parts of n bytes that name the same numbers are the same.
part_bytes : (r s : List ℕ) (n at : ℕ) → length r ≡ length s → Bytes r → Bytes s → ((i : ℕ) → has (take n (drop at r)) i ≡ has (take n (drop at s)) i) → (m : ℕ) → m < n → nth r (at + m) ≡ nth s (at + m)
part_bytes r s n at lr br bs h m l =
    let e : take n (drop at r) ≡ take n (drop at s) =
    same_names (take n (drop at r)) (take n (drop at s)) (simp (length-take, length-drop, lr) refl) (bytes_part r n at br) (bytes_part s n at bs) h in
    sym (get_or-drop at r m 0)
    ∙ sym (get_or-take n (drop at r) m 0 l)
    ∙ ap (λ (x : List ℕ). nth x m) e
    ∙ get_or-take n (drop at s) m 0 l
    ∙ get_or-drop at s m 0

-- Records that show the same in their first twenty bytes and name the same branches are the same.
pub same_record : (r s : List ℕ) → length r ≡ 52 → length s ≡ 52 → Bytes r → Bytes s → ((j : ℕ) → j < 20 → nth r j ≡ nth s j) → ((j : ℕ) → names r j ≡ names s j) → r ≡ s
same_record r s lr ls br bs first same = ext_get_or 0 r s (lr ∙ sym ls) (λ j l. elim (side j 20) [
  | below u ↦ first j u
  | equal u ↦ late j (omega arith) (omega (arith, lr))
  | above u ↦ late j (omega arith) (omega (arith, lr))
])
  where
    late : (j : ℕ) → 20 ≤ j → j < 52 → nth r j ≡ nth s j
    late j u v =
        let e : 20 + (j - 20) ≡ j = omega arith in
        rw e at (part_bytes r s 32 20 (lr ∙ sym ls) br bs same (j - 20) (omega arith))

three : (a b c x y z : ℕ) → a < 256 → b < 256 → c < 256 → x < 256 → y < 256 → z < 256 → a * 65536 + b * 256 + c ≡ x * 65536 + y * 256 + z → (a ≡ x) × (b ≡ y) × (c ≡ z)
three a b c x y z ha hb hc hx hy hz e =
    let p : a ≡ x = omega arith in
    let q : b ≡ y = omega arith in
    (p, q, omega arith)

-- ---- What is shown.
alike : (n : ℕ) (S R : Group) → ((i : ℕ) → i < n → S i ≡ R i) → ((i : ℕ) → n ≤ i → S i ≡ false) → ((i : ℕ) → n ≤ i → R i ≡ false) → (i : ℕ) → S i ≡ R i
alike n S R h zs zr i = elim (side i n) [
  | below l ↦ h i l
  | equal l ↦ zs i (omega arith) ∙ sym (zr i (omega arith))
  | above l ↦ zs i (omega arith) ∙ sym (zr i (omega arith))
]

-- The largest value is one number, and its smallest group is one group.
pub largest_unique : {n : ℕ} {among : Group → Bool} {e : Group → ℤ} {v w : ℕ} {S R : Group} → Largest n among e v S → Largest n among e w R → (v ≡ w) × ((i : ℕ) → S i ≡ R i)
largest_unique {n} {among} {e} {v} {w} {S} {R} s r = (
  same,
  alike n S R (λ i u. same_truth (S i) (R i)
      (s.smallest R r.admitted (rw same r.reaches) i u) (r.smallest S s.admitted (rw (← same) s.reaches) i u)) s.beyond r.beyond,
)
  where
    below_other : (x y : ℕ) (T : Group) → e T ≡ pos x → e T ≤ℤ pos y → x ≤ y
    below_other x y T q l = omega (arith, (at_most (pos x) y).0 (subst (λ (z : ℤ). z ≤ℤ pos y) q l))

    same : v ≡ w
    same = omega (arith, below_other v w S s.reaches (r.largest S s.admitted), below_other w v R r.reaches (s.largest R r.admitted))

-- ---- Records.
front : (r s : List ℕ) (n : ℕ) → verdict_in r ≡ verdict_in s → ((j : ℕ) → 1 ≤ j → j < n → nth r j ≡ nth s j) → (j : ℕ) → j < n → nth r j ≡ nth s j
front r s n e h zero u = e
front r s n e h (suc j) u = h (suc j) (omega arith) u

module _ (C : Case) (k : ℕ) (r s : List ℕ) (lr : length r ≡ 52) (ls : length s ≡ 52) (br : Bytes r) (bs : Bytes s) where
  -- Two records of a short branch.
  short_same : Short C k (shortage_in r) (group_in r) → Short C k (shortage_in s) (group_in s)
      → (j : ℕ) → 1 ≤ j → j < 20 → nth r j ≡ nth s j
  short_same sr ss j l u =
      let one = largest_unique sr ss in
      let n = three (nth r 1) (nth r 2) (nth r 3) (nth s 1) (nth s 2) (nth s 3) (br 1) (br 2) (br 3) (bs 1) (bs 2) (bs 3) one.0 in
      let g = part_bytes r s 16 4 (lr ∙ sym ls) br bs one.1 in
      go j l u n g
    where
      go : (j : ℕ) → 1 ≤ j → j < 20 → (nth r 1 ≡ nth s 1) × (nth r 2 ≡ nth s 2) × (nth r 3 ≡ nth s 3) → ((m : ℕ) → m < 16 → nth r (4 + m) ≡ nth s (4 + m)) → nth r j ≡ nth s j
      go zero l u n g = absurd (omega arith)
      go (suc zero) l u n g = n.0
      go (suc (suc zero)) l u n g = n.1
      go (suc (suc (suc zero))) l u n g = n.2
      go (suc (suc (suc (suc m)))) l u n g = let e : 4 + m ≡ suc (suc (suc (suc m))) = omega arith in rw e at (g m (omega arith))

  first_told : (f g : ℕ → ℤ) → Told C f k r → Told C g k s → (j : ℕ) → j < 20 → nth r j ≡ nth s j
  first_told f g (is_out i v z) (is_out i' v' z') = front r s 20 (v ∙ sym v') (λ j l u. z j l (omega arith) ∙ sym (z' j l (omega arith)))
  first_told f g (is_out i v z) (carries i' c v' z' m) = clash i' i
  first_told f g (is_out i v z) (short i' c v' z') = clash i' i
  first_told f g (carries i c v z m) (is_out i' v' z') = clash i i'
  first_told f g (carries i c v z m) (carries i' c' v' z' m') = front r s 20 (v ∙ sym v') (λ j l u. z j l u ∙ sym (z' j l u))
  first_told f g (carries i c v z m) (short i' c' v' z') = absurd (never_both C k (shortage_in s) (group_in s) c c')
  first_told f g (short i c v z) (is_out i' v' z') = clash i i'
  first_told f g (short i c v z) (carries i' c' v' z' m') = absurd (never_both C k (shortage_in r) (group_in r) c' c)
  first_told f g (short i c v z) (short i' c' v' z') = front r s 20 (number_same v v') (short_same c c')

module _ (C : Case) (f g : ℕ → ℤ) (k : ℕ) (r s : List ℕ) (a : TrueRecord C f k r) (b : TrueRecord C g k s) where
  -- Bytes 0 to 19, whatever the flow.
  pub first_twenty : (j : ℕ) → j < 20 → nth r j ≡ nth s j
  first_twenty = first_told C k r s a.long b.long a.bytes b.bytes f g a.told b.told

-- Two true tables of a case show the same verdicts, shortages and groups.
pub tables_agree : (C : Case) (f g : List ℤ) (t u : List ℕ) → TrueTable C f t → TrueTable C g u → (k : ℕ) → k < C.branches → (j : ℕ) → j < 20 → nth (record_at t k) j ≡ nth (record_at u k) j
tables_agree C f g t u a b k l = first_twenty C _ _ k (record_at t k) (record_at u k) (a.each k l) (b.each k l)
