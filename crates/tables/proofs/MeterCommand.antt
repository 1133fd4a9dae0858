-- The command `M`: which registers the readings that stand one after another in it are.
use mathlib.Core.Path.{◌≡◌, refl, sym, ◌∙◌}
use mathlib.Core.List.{List}
use Prim.Native.Nat.{ℕ, ◌+◌, ◌-◌, ◌*◌, ◌<◌, ◌≤◌}
use native.Mathlib.Omega.{arith}
use borrow.Rule.Slice.PartMut.{mid_of, mid_len}
use lib.IntN.{ℤ}
use lib.ListN.{length, drop, replicate}
use lib.Seq.{get_or-take, get_or-drop, ext_get_or}
use Rattle.rows.specs.Row.{nth, up_to, headed}
use Rattle.rows.proofs.Row.{length_up_to, get_d_up_to, length_headed, headed_at}
use Rattle.answer.specs.Answer.{Answer}
use Rattle.meters.specs.Registers.{Registers, registers}
use Rattle.meters.specs.Promise.{Metered}
use Rattle.spaces.specs.InsideStream.{four_at}
use Rattle.tables.specs.declared.Lists.{Lists}
use Rattle.tables.specs.Inside.{ListsAsked, registers_in}

-- ---- A part of a row that was filled up to a count.
part_filled : (f : ℕ → ℕ) (count : ℕ) (row : List ℕ) (i n e : ℕ) → e ≡ i + n → e ≤ count → count ≤ length row
    → mid_of i (e - i) (headed count f row) ≡ up_to n (λ j. f (i + j))
part_filled f count row i n e q h k =
    let long : length (mid_of i (e - i) (headed count f row)) ≡ e - i =
    mid_len i e (headed count f row) (omega (arith, length_headed count f row k)) in
    ext_get_or 0 (mid_of i (e - i) (headed count f row)) (up_to n (λ j. f (i + j))) (long ∙ omega (arith, length_up_to n (λ j. f (i + j)))) (λ j l.
    let below : j < e - i = omega (arith, long) in
    get_or-take (e - i) (drop i (headed count f row)) j 0 below
    ∙ get_or-drop i (headed count f row) j 0
    ∙ headed_at count f row (i + j) 0 (omega arith)
    ∙ sym (get_d_up_to n (λ m. f (i + m)) j 0 (omega arith)))

module _ (rest : List ℕ) (supply : ℕ) {row : List ℕ} {l : Lists} (a : ListsAsked rest l)
    (e : row ≡ headed l.fourth (λ i. four_at rest (7 + 4 * i)) (replicate 1020 0)) where
  pub registers_are : registers
      (mid_of 0 (l.first - 0) row)
      (mid_of l.first (l.second - l.first) row)
      (mid_of l.second (l.third - l.second) row)
      (mid_of l.third (l.fourth - l.third) row)
      supply
      ≡ registers_in rest supply
  registers_are =
      let f : ℕ → ℕ = λ i. four_at rest (7 + 4 * i) in
      let second : l.second ≡ nth rest 1 + nth rest 2 = omega (arith, a.first_is, a.second_is) in
      let third : l.third ≡ nth rest 1 + nth rest 2 + nth rest 3 = omega (arith, a.third_is) in
      let fourth : l.fourth ≡ nth rest 1 + nth rest 2 + nth rest 3 + nth rest 4 = omega (arith, a.fourth_is) in
      let g = part_filled f l.fourth (replicate 1020 0) in
      rw (
        e,
        g 0 (nth rest 1) l.first (omega (arith, a.first_is)) (omega (arith, a.first_is)) a.few,
        g l.first (nth rest 2) l.second a.second_is (omega arith) a.few,
        g l.second (nth rest 3) l.third a.third_is (omega arith) a.few,
        g l.third (nth rest 4) l.fourth a.fourth_is (omega arith) a.few,
        third,
        second,
        a.first_is,
      ) refl

-- The same promise, its registers being written otherwise.
pub metered_as : {R S : Registers} {out out' : List ℤ} {r : Answer} → R ≡ S → Metered R out out' r → Metered S out out' r
metered_as e m = rw e at m
