-- The two injections in parts: what room they have in their range, and what becomes of them.
use mathlib.Core.Path.{◌≡◌, refl, sym, ◌∙◌}
use mathlib.Core.Bool.{true, false}
use mathlib.Core.List.{List}
use Prim.Native.Nat.{ℕ, ◌+◌, ◌≤◌, ◌<◌}
use native.Mathlib.Omega.{arith}
use native.Mathlib.Decide.{dec_lt}
use borrow.Author.Tests.{lt-ltb, le-ltb}
use lib.Dec.{ltb}
use lib.IntN.{ℤ, pos, ◌+ℤ◌, ◌-ℤ◌}
use Rattle.answer.specs.Answer.{Accepted}
use Rattle.quantity.specs.Signed.{pos_part, neg_part}
use Rattle.quantity.proofs.Parts.{by_parts, one_side, add_parts, minus_parts}
use Rattle.layout.specs.Book.{size}
use Rattle.layout.specs.Layout.{buses_in, injection_at}
use Rattle.layout.specs.Check.{check_of}
use Rattle.layout.proofs.WellFormed.{accepted_well, buses_of, injection_of_lem}
use Rattle.layout.proofs.AcceptedWhere.{accepted_valid}
use Rattle.transfer.specs.Promise.{fallen, leaves_range}
use Rattle.transfer.specs.Inside.{TwoBuses}

-- An injection of an accepted book is within its range.
pub in_range : (bs : List ℕ) (k : ℕ) → check_of bs ≡ Accepted → k < buses_in bs → size (injection_at bs k) ≤ 1000000
in_range bs k e l = rw (injection_of_lem bs k l) at ((accepted_well bs e).sizes k (omega (arith, buses_of bs)))

-- ---- x, within its range, has room to rise and to fall.
module _ (x : ℤ) (small : size x ≤ 1000000) (kw room : ℕ) where
  module _ (up : room + pos_part x ≡ 1000000 + neg_part x) where
    pub rise_out : room < kw → ltb 1000000 (size (x +ℤ pos kw)) ≡ true
    rise_out l = lt-ltb 1000000 (size (x +ℤ pos kw)) (omega (arith, add_parts x (pos kw)))

    pub rise_in : kw ≤ room → ltb 1000000 (size (x +ℤ pos kw)) ≡ false
    rise_in l = le-ltb 1000000 (size (x +ℤ pos kw)) (omega (arith, add_parts x (pos kw), one_side (x +ℤ pos kw)))

  module _ (down : room + neg_part x ≡ 1000000 + pos_part x) where
    pub fall_out : room < kw → ltb 1000000 (size (x -ℤ pos kw)) ≡ true
    fall_out l = lt-ltb 1000000 (size (x -ℤ pos kw)) (omega (arith, minus_parts x (pos kw)))

    pub fall_in : kw ≤ room → ltb 1000000 (size (x -ℤ pos kw)) ≡ false
    fall_in l = le-ltb 1000000 (size (x -ℤ pos kw)) (omega (arith, minus_parts x (pos kw), one_side (x -ℤ pos kw)))

-- What is moved is at most the whole range.
pub rise_small : (x : ℤ) (kw : ℕ) → size x ≤ 1000000 → size (x +ℤ pos kw) ≤ 1000000 → kw ≤ 2000000
rise_small x kw s t = omega (arith, add_parts x (pos kw))

-- ---- By what enters and what leaves.
pub risen_is : (x : ℤ) (kw : ℕ) → pos (pos_part x + kw) -ℤ pos (neg_part x) ≡ x +ℤ pos kw
risen_is x kw = by_parts _ _ (omega (arith, minus_parts (pos (pos_part x + kw)) (pos (neg_part x)), add_parts x (pos kw)))

pub fallen_is : (x : ℤ) (kw : ℕ) → pos (pos_part x) -ℤ pos (neg_part x + kw) ≡ x -ℤ pos kw
fallen_is x kw = by_parts _ _ (omega (arith, minus_parts (pos (pos_part x)) (pos (neg_part x + kw)), minus_parts x (pos kw)))

-- What rises and what falls together stays.
pub same_sum : (x y : ℤ) (kw : ℕ)
    → pos_part (x +ℤ pos kw) + pos_part (y -ℤ pos kw) + neg_part x + neg_part y
    ≡ neg_part (x +ℤ pos kw) + neg_part (y -ℤ pos kw) + pos_part x + pos_part y
same_sum x y kw = omega (arith, add_parts x (pos kw), minus_parts y (pos kw))

-- ---- Two buses of an accepted book.
module _ {bs : List ℕ} {up down : ℕ} (t : TwoBuses bs up down) where
  pub few_buses : (up ≤ 128) × (down ≤ 128)
  few_buses = let n = (accepted_valid bs t.book).range.few_buses in (omega (arith, t.up_there), omega (arith, t.down_there))

  pub up_small : size (injection_at bs up) ≤ 1000000
  up_small = in_range bs up t.book t.up_there

  pub down_small : size (injection_at bs down) ≤ 1000000
  down_small = in_range bs down t.book t.down_there

  -- The test, by the room of the one to rise, and by that of both.
  module _ (kw room : ℕ) (r : room + pos_part (injection_at bs up) ≡ 1000000 + neg_part (injection_at bs up)) where
    pub rise_leaves : room < kw → true ≡ leaves_range bs up down kw
    rise_leaves l = rw (rise_out (injection_at bs up) up_small kw room r l) refl

    pub fall_decides : (room' : ℕ) → kw ≤ room → room' + neg_part (injection_at bs down) ≡ 1000000 + pos_part (injection_at bs down)
        → ltb room' kw ≡ leaves_range bs up down kw
    fall_decides room' l r' = rw (rise_in (injection_at bs up) up_small kw room r l) (go (dec_lt room' kw))
      where
        go : Dec (room' < kw) → ltb room' kw ≡ ltb 1000000 (size (fallen bs down kw))
        go (yes h) = lt-ltb room' kw h ∙ sym (fall_out (injection_at bs down) down_small kw room' r' h)
        go (no h) = le-ltb room' kw (omega arith) ∙ sym (fall_in (injection_at bs down) down_small kw room' r' (omega arith))
