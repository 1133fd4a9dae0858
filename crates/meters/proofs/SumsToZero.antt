-- What the promise of `injections` means: it leaves no choice, the injections sum to 0 and keep their range, and no roll-over feeds the network.
use mathlib.Core.Path.{◌≡◌, refl, sym, ◌∙◌}
use mathlib.Core.Bool.{Bool, true, false}
use mathlib.Core.Logic.{◌⊎◌, inl, inr}
use mathlib.Core.List.{List, [], ◌∷◌}
use Prim.Native.Nat.{ℕ, ◌+◌, ◌^◌, ◌<◌, ◌≤◌}
use native.Mathlib.Omega.{arith}
use native.Mathlib.Decide.{dec_lt}
use borrow.Author.Tests.{eq-eqb, ne_eqb, eqb-true, eqb-false, ltb-false, leb-false}
use lib.Dec.{eqb, ltb, leb}
use lib.IntN.{ℤ, pos, negsuc, nat_abs}
use Rattle.rows.specs.Row.{some, up_to}
use Rattle.rows.specs.Sum.{all, pick, over, sum}
use Rattle.answer.specs.declared.Refusal.TheVariants.{NoSuchSupply, AdvanceTooFar, SupplyOutside}
use Rattle.answer.specs.Answer.{Answer, Accepted, refuse_if, refused}
use Rattle.rows.proofs.Row.{no_some}
use Rattle.answer.proofs.Said.{said_same}
use Rattle.answer.proofs.Refusals.{past, past_both}
use Rattle.rows.proofs.Sum.{over_add, over_same, over_one}
use Rattle.quantity.specs.Signed.{pos_part, neg_part}
use Rattle.quantity.specs.Register.{advance}
use Rattle.quantity.proofs.Parts.{sum_parts, minus_parts, by_parts, neg_pos, neg_neg, one_side, size_parts}
use Rattle.meters.specs.Registers.{Registers, registers, buses, imported, exported, others, metered, supplied, injection, shape, too_far, answer_to}
use Rattle.meters.specs.Promise.{Metered}
use Rattle.meters.proofs.Given.{meter_answer}
use Rattle.meters.proofs.Filling.{near_at}

-- Any two results that the promise allows are the same, answer and every number.
pub same_result :
    {R : Registers} {out one two : List ℤ} {r s : Answer} → Metered R out one r → Metered R out two s → (r ≡ s) × (one ≡ two)
same_result m n = (said_same m.answer n.answer, m.output ∙ sym n.output)

-- End less start, or that and once round: never a step back.
pub advance_is : (start end : ℕ) → start < 2 ^ 32 → end < 2 ^ 32 → (advance start end + start ≡ end) ⊎ (advance start end + start ≡ end + 2 ^ 32)
advance_is start end s e = go (dec_lt end start)
  where
    go : Dec (end < start) → (advance start end + start ≡ end) ⊎ (advance start end + start ≡ end + 2 ^ 32)
    go (yes l) = inr (omega arith)
    go (no l) = inl (omega arith)

-- A bus takes no more than it imported and feeds no more than it exported, whether a register rolled over or not.
pub feeds_at_most : (R : Registers) (i : ℕ) → (pos_part (metered R i) ≤ exported R i) × (neg_part (metered R i) ≤ imported R i)
feeds_at_most R i =
    let p = minus_parts (pos (exported R i)) (pos (imported R i)) in
    let o = one_side (metered R i) in
    (omega (arith, p, o), omega (arith, p, o))

-- What the supply adds to a sum over all buses.
part_of : (R : Registers) (f : ℤ → ℕ) (i : ℕ) → f (injection R i) ≡ pick (others R i) (f (metered R i)) + pick (eqb R.supply i) (f (supplied R))
part_of R f i = go (eqb i R.supply) refl
  where
    go : (t : Bool) → eqb i R.supply ≡ t → f (injection R i) ≡ pick (others R i) (f (metered R i)) + pick (eqb R.supply i) (f (supplied R))
    go true e = rw (e, eq-eqb R.supply i (sym (eqb-true i R.supply e))) (omega arith)
    go false e = rw (e, ne_eqb R.supply i (λ q. eqb-false i R.supply e (sym q))) (omega arith)

over_parts : (R : Registers) (f : ℤ → ℕ) → R.supply < buses R → over (buses R) all (λ i. f (injection R i)) ≡ over (buses R) (others R) (λ i. f (metered R i)) + f (supplied R)
over_parts R f h =
    let n = buses R in
    let own : ℕ → ℕ = λ i. pick (others R i) (f (metered R i)) in
    let at : ℕ → ℕ = λ i. pick (eqb R.supply i) (f (supplied R)) in
    omega (
      arith,
      over_same n all all (λ i. f (injection R i)) (λ i. own i + at i) (λ i l. part_of R f i),
      over_add n all own at,
      over_same n all (others R) own (λ i. f (metered R i)) (λ i l. refl),
      over_one n all R.supply (f (supplied R)) h,
    )

-- All injections sum to 0.
pub sums_to_zero : (R : Registers) → R.supply < buses R → sum (buses R) all (injection R) ≡ pos 0
sums_to_zero R h =
    let n = buses R in
    let z = sum n (others R) (metered R) in
    by_parts (sum n all (injection R)) (pos 0)
    (omega (
      arith,
      sum_parts n all (injection R),
      over_parts R pos_part h,
      over_parts R neg_part h,
      sum_parts n (others R) (metered R),
      neg_pos z,
      neg_neg z,
    ))

-- What an accepted call knows.
pub record Accepts (R : Registers) : Type 0 where
  pub supply_in : R.supply < buses R
  pub near : some (buses R) (too_far R) ≡ false
  pub within : nat_abs (supplied R) ≤ 1000000

pub passed : (R : Registers) (room : ℕ) → answer_to R room ≡ Accepted → Accepts R
unfolding answer_to
passed R room e =
    let range = refuse_if (ltb 1000000 (nat_abs (supplied R))) SupplyOutside Accepted in
    let far = refuse_if (some (buses R) (too_far R)) AdvanceTooFar range in
    let a = past_both (shape R room) (refuse_if (leb (buses R) R.supply) NoSuchSupply far) e in
    let b = past (leb (buses R) R.supply) _ far a.1 in
    let c = past (some (buses R) (too_far R)) _ range b.1 in
    let d = past (ltb 1000000 (nat_abs (supplied R))) _ Accepted c.1 in
    record { supply_in = leb-false (buses R) R.supply b.0; near = c.0; within = ltb-false 1000000 (nat_abs (supplied R)) d.0 }

-- Every injection of an accepted call lies within -1,000,000 and 1,000,000.
pub in_range : (R : Registers) (room : ℕ) → answer_to R room ≡ Accepted → (i : ℕ) → i < buses R → nat_abs (injection R i) ≤ 1000000
in_range R room e i l =
    let w = passed R room e in
    go w (eqb i R.supply) refl
  where
    go : Accepts R → (t : Bool) → eqb i R.supply ≡ t → nat_abs (injection R i) ≤ 1000000
    go w true q = rw q w.within
    go w false q =
        let n = near_at R i (eqb-false i R.supply q) (no_some (too_far R) (buses R) w.near i l) in
        rw q (omega (arith, n.took, n.gave, feeds_at_most R i, size_parts (metered R i), one_side (metered R i)))

-- Marked example (l). A register that went from 4,294,967,290 to 10 advanced by 16; the supply takes the rest, and a third number beyond the buses stays.
pub rolled_over :
    {out : List ℤ} {r : Answer}
    → Metered (registers (0 ∷ 0 ∷ []) (0 ∷ 0 ∷ []) (0 ∷ 4294967290 ∷ []) (0 ∷ 10 ∷ []) 0) (pos 7 ∷ pos 7 ∷ pos 7 ∷ []) out r
    → (r ≡ Accepted) × (out ≡ negsuc 15 ∷ pos 16 ∷ pos 7 ∷ [])
unfolding answer_to some too_far sum up_to
rolled_over m = (meter_answer _ m, m.output)

-- One that went from 10 to 9 is refused with 15, and the output stays.
pub went_back :
    {out : List ℤ} {r : Answer}
    → Metered (registers (0 ∷ 10 ∷ []) (0 ∷ 9 ∷ []) (0 ∷ 0 ∷ []) (0 ∷ 0 ∷ []) 0) (pos 7 ∷ pos 7 ∷ []) out r
    → (r ≡ refused AdvanceTooFar) × (out ≡ pos 7 ∷ pos 7 ∷ [])
unfolding answer_to some too_far sum
went_back m = (meter_answer _ m, m.output)
