-- A book is accepted exactly where each of document 01's tests passes.
use mathlib.Core.Path.{◌≡◌, refl}
use mathlib.Core.Bool.{false, not}
use mathlib.Core.List.{List}
use Prim.Native.Nat.{ℕ, ◌<◌, ◌≤◌}
use native.Mathlib.Omega.{arith}
use borrow.Author.Tests.{ltb-false, eqb-true, not-false, le-ltb, eq-eqb}
use lib.Dec.{ltb, eqb}
use lib.ListN.{length}
use Rattle.rows.specs.Sum.{all, over}
use Rattle.std.specs.Prelude.{Option, Ok, Err}
use Rattle.answer.specs.declared.Place.{Place}
use Rattle.answer.specs.Answer.{Answer, Accepted, number_of, place_of}
use Rattle.rows.proofs.Row.{either_false}
use Rattle.answer.proofs.Refusals.{past, past_at, past_both}
use Rattle.quantity.specs.Signed.{pos_part, neg_part}
use Rattle.layout.specs.Book.{Book}
use Rattle.layout.specs.Fault.{first_fault}
use Rattle.layout.specs.Layout.{bytes_for, buses_in, branches_in, factor_in, form_in, spare_in, injection_at, tail_in, book_of}
use Rattle.layout.specs.Check.{outside, balances, bus_fault_at, branch_fault_at, head_check, body_check, check_of, book, refused, decided, decode}
use Rattle.layout.proofs.Faults.{first_sound, sound_first}

pub record InRange (n m factor : ℕ) : Type 0 where
  pub some_bus : 1 ≤ n
  pub few_buses : n ≤ 128
  pub few_branches : m ≤ 256
  pub some_factor : 1 ≤ factor
  pub small_factor : factor ≤ 1000

pub in_range : (n m factor : ℕ) → outside n m factor ≡ false → InRange n m factor
in_range n m factor e =
    let p₁ = either_false (ltb n 1) _ e in
    let p₂ = either_false (ltb 128 n) _ p₁.1 in
    let p₃ = either_false (ltb 256 m) _ p₂.1 in
    let p₄ = either_false (ltb factor 1) _ p₃.1 in
    record {
      some_bus = ltb-false n 1 p₁.0;
      few_buses = ltb-false 128 n p₂.0;
      few_branches = ltb-false 256 m p₃.0;
      some_factor = ltb-false factor 1 p₄.0;
      small_factor = ltb-false 1000 factor p₄.1;
    }

pub range_in : (n m factor : ℕ) → InRange n m factor → outside n m factor ≡ false
range_in n m factor r =
    simp (
      le-ltb n 1 r.some_bus,
      le-ltb 128 n r.few_buses,
      le-ltb 256 m r.few_branches,
      le-ltb factor 1 r.some_factor,
      le-ltb 1000 factor r.small_factor,
    )

pub record Valid (bs : List ℕ) : Type 0 where
  pub range : InRange (buses_in bs) (branches_in bs) (factor_in bs)
  pub spare : spare_in bs ≡ 0
  pub exact : length bs ≡ bytes_for (form_in bs) (buses_in bs) (branches_in bs)
  pub bus_sound : (k : ℕ) → k < buses_in bs → bus_fault_at bs k ≡ 0
  pub branch_sound : (k : ℕ) → k < branches_in bs → branch_fault_at bs k ≡ 0
  pub tail : tail_in bs ≡ 0
  pub balance : over (buses_in bs) all (λ k. pos_part (injection_at bs k)) ≡ over (buses_in bs) all (λ k. neg_part (injection_at bs k))

pub accepted_valid : (bs : List ℕ) → check_of bs ≡ Accepted → Valid bs
unfolding check_of
accepted_valid bs e =
    let h = past_both (head_check bs) (body_check bs) e in
    let p₁ = past (ltb (length bs) 4) _ _ h.0 in
    let p₂ = past (outside (buses_in bs) (branches_in bs) (factor_in bs)) _ _ p₁.1 in
    let p₃ = past (not (eqb (spare_in bs) 0)) _ _ p₂.1 in
    let p₄ = past (not (eqb (length bs) (bytes_for (form_in bs) (buses_in bs) (branches_in bs)))) _ _ p₃.1 in
    let q₁ = past_at (first_fault (bus_fault_at bs) (buses_in bs)) _ _ h.1 in
    let q₂ = past_at (first_fault (branch_fault_at bs) (branches_in bs)) _ _ q₁.1 in
    let q₃ = past (not (eqb (tail_in bs) 0)) _ _ q₂.1 in
    let q₄ = past (not (balances (buses_in bs) (injection_at bs))) _ _ q₃.1 in
    record {
      range = in_range _ _ _ p₂.0;
      spare = eqb-true _ _ (not-false _ p₃.0);
      exact = eqb-true _ _ (not-false _ p₄.0);
      bus_sound = first_sound (bus_fault_at bs) _ q₁.0;
      branch_sound = first_sound (branch_fault_at bs) _ q₂.0;
      tail = eqb-true _ _ (not-false _ q₃.0);
      balance = eqb-true _ _ (not-false _ q₄.0);
    }

pub valid_accepted : (bs : List ℕ) → Valid bs → check_of bs ≡ Accepted
unfolding check_of
valid_accepted bs v =
    let four : 4 ≤ length bs = omega (arith, v.exact) in
    simp (
      le-ltb (length bs) 4 four,
      range_in _ _ _ v.range,
      eq-eqb (spare_in bs) 0 v.spare,
      eq-eqb (length bs) _ v.exact,
      sound_first (bus_fault_at bs) _ v.bus_sound,
      sound_first (branch_fault_at bs) _ v.branch_sound,
      eq-eqb (tail_in bs) 0 v.tail,
      eq-eqb (over (buses_in bs) all (λ k. pos_part (injection_at bs k))) _ v.balance,
    )

-- ---- what a book decodes to

pub decode_accepted : (bs : List ℕ) → check_of bs ≡ Accepted → decode bs ≡ book (book_of bs)
unfolding decode
decode_accepted bs e = rw e refl

taken : (o : Answer) (b b' : Book) → decided o b ≡ book b' → (o ≡ Accepted) × (b ≡ b')
taken (Ok _) b b' e = (refl, cc)
taken (Err why) b b' e = absurd (cc)

pub decoded : (bs : List ℕ) (b : Book) → decode bs ≡ book b → (check_of bs ≡ Accepted) × (book_of bs ≡ b)
unfolding decode
decoded bs b e = taken (check_of bs) (book_of bs) b e

-- A refused book is refused by the number and the place of the first test that fails.
pub decode_refused : (bs : List ℕ) (n : ℕ) (w : Option Place) → decode bs ≡ refused n w → (number_of (check_of bs) ≡ n) × (place_of (check_of bs) ≡ w)
unfolding decode
decode_refused bs n w e = go (check_of bs) e
  where
    go : (o : Answer) → decided o (book_of bs) ≡ refused n w → (number_of o ≡ n) × (place_of o ≡ w)
    go (Ok _) q = absurd (cc)
    go (Err why) q = (cc, cc)
