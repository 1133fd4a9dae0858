-- Each way in which the call ends meets its promise.
use mathlib.Core.Path.{◌≡◌, refl, sym, ap}
use mathlib.Core.Bool.{Bool, true, false, cond, not, ◌&&◌, ◌||◌}
use mathlib.Core.List.{List}
use Prim.Native.Nat.{ℕ, ◌+◌, ◌-◌, ◌*◌, ◌<◌, ◌≤◌}
use native.Mathlib.Omega.{arith}
use borrow.Author.Tests.{le-leb, lt-leb, lt-ltb, le-ltb, ltb-false, eqb-true, not-false}
use lib.Dec.{eqb, ltb}
use lib.IntN.{ℤ, pos, neg_ℤ, nat_abs, ◌-ℤ◌}
use lib.ListN.{length}
use Rattle.rows.specs.Row.{some, headed}
use Rattle.rows.specs.Sum.{pick, over, sum}
use Rattle.answer.specs.declared.Refusal.TheVariants.{ListsUneven, NoSuchSupply, AdvanceTooFar, SupplyOutside}
use Rattle.answer.specs.Answer.{Answer, Accepted, refuse_if, refused}
use Rattle.answer.proofs.Refusals.{past, stands, refusal_stands, leaves}
use Rattle.rows.proofs.Row.{either_false, no_some}
use Rattle.rows.proofs.Sum.{over_add, over_same, over_bound}
use Rattle.quantity.specs.Signed.{pos_part, neg_part}
use Rattle.quantity.proofs.Parts.{sum_parts, minus_parts, by_parts, neg_pos, neg_neg, size_parts, one_side}
use Rattle.meters.proofs.Given.{meter_said}
use Rattle.meters.specs.Registers.{Registers, buses, imported, exported, others, metered, supplied, shape, too_far, answer_to}
use Rattle.meters.specs.Promise.{Metered}
use Rattle.std.specs.Prelude.{Option, Some, None}
use Rattle.meters.specs.declared.Passed.{Passed}
use Rattle.meters.specs.Inside.{Even, totals_of, with_supply, Sums, TooFar}

module _ (R : Registers) where
  abbrev pub took : ℕ
  took = over (buses R) (others R) (imported R)

  abbrev pub gave : ℕ
  gave = over (buses R) (others R) (exported R)

  -- What the others take less what they give is the supply's.
  pub supplied_is : supplied R ≡ pos took -ℤ pos gave
  supplied_is =
      let n = buses R in
      let S = others R in
      let ups : ℕ → ℕ = λ i. pos_part (metered R i) in
      let downs : ℕ → ℕ = λ i. neg_part (metered R i) in
      let at : over n S (λ i. ups i + imported R i) ≡ over n S (λ i. downs i + exported R i) =
      over_same n S S (λ i. ups i + imported R i) (λ i. downs i + exported R i) (λ i l. ap (pick (S i)) (omega (arith, minus_parts (pos (exported R i)) (pos (imported R i))))) in
      let z = sum n S (metered R) in
      by_parts (neg_ℤ z) (pos (over n S (imported R)) -ℤ pos (over n S (exported R)))
      (omega (
        arith,
        at,
        over_add n S ups (imported R),
        over_add n S downs (exported R),
        sum_parts n S (metered R),
        neg_pos z,
        neg_neg z,
        minus_parts (pos (over n S (imported R))) (pos (over n S (exported R))),
      ))

-- The size of a difference against the largest injection.
outside : (a b : ℕ) → 1000000 < (a - b) + (b - a) → ltb 1000000 (nat_abs (pos a -ℤ pos b)) ≡ true
outside a b h =
    let z = pos a -ℤ pos b in
    lt-ltb 1000000 (nat_abs z) (omega (arith, size_parts z, minus_parts (pos a) (pos b), one_side z))

inside : (a b : ℕ) → (a - b) + (b - a) ≤ 1000000 → ltb 1000000 (nat_abs (pos a -ℤ pos b)) ≡ false
inside a b h =
    let z = pos a -ℤ pos b in
    le-ltb 1000000 (nat_abs z) (omega (arith, size_parts z, minus_parts (pos a) (pos b), one_side z))

-- What an accepted shape says.
pub shaped : (R : Registers) (room : ℕ) → shape R room ≡ Accepted → Even R × (buses R ≤ room)
shaped R room e =
    let n = buses R in
    let room_for = refuse_if (ltb room n) ListsUneven Accepted in
    let few = refuse_if (ltb 128 n) ListsUneven room_for in
    let one = refuse_if (ltb n 1) ListsUneven few in
    let fourth = refuse_if (not (eqb (length R.export_end) n)) ListsUneven one in
    let third = refuse_if (not (eqb (length R.export_start) n)) ListsUneven fourth in
    let a = past (not (eqb (length R.import_end) n)) _ third e in
    let b = past (not (eqb (length R.export_start) n)) _ fourth a.1 in
    let c = past (not (eqb (length R.export_end) n)) _ one b.1 in
    let d = past (ltb n 1) _ few c.1 in
    let f = past (ltb 128 n) _ room_for d.1 in
    let g = past (ltb room n) _ Accepted f.1 in (
      record {
        second = eqb-true (length R.import_end) (buses R) (not-false _ a.0);
        third = eqb-true (length R.export_start) (buses R) (not-false _ b.0);
        fourth = eqb-true (length R.export_end) (buses R) (not-false _ c.0);
        few = ltb-false 128 (buses R) f.0;
      },
      ltb-false room (buses R) g.0,
    )

-- What the totals say of refusal 15.
pub record Summed (R : Registers) (x y : ℕ) : Type 0 where
  pub near : some (buses R) (too_far R) ≡ false
  pub took_is : x ≡ took R
  pub gave_is : y ≡ gave R
  pub took_low : x ≤ 1000000 * buses R
  pub gave_low : y ≤ 1000000 * buses R

-- No advance above 1,000,000 counts.
small : (t : Bool) (x y : ℕ) → t && (ltb 1000000 x || ltb 1000000 y) ≡ false → (pick t x ≤ 1000000) × (pick t y ≤ 1000000)
small true x y e = let w = either_false (ltb 1000000 x) (ltb 1000000 y) e in (ltb-false 1000000 x w.0, ltb-false 1000000 y w.1)
small false x y e = (omega arith, omega arith)

small_at : (R : Registers) (i : ℕ) → too_far R i ≡ false → (pick (others R i) (imported R i) ≤ 1000000) × (pick (others R i) (exported R i) ≤ 1000000)
unfolding too_far
small_at R i e = small (others R i) (imported R i) (exported R i) e

summed_at : (t : Bool) (u v x y : ℕ) → Sums x y ≡ cond t TooFar (Sums u v) → (t ≡ false) × (x ≡ u) × (y ≡ v)
summed_at true u v x y e = absurd (cc)
summed_at false u v x y e = (refl, ap took_by e, ap gave_by e)
  where
    took_by : Option Passed → ℕ
    took_by None = 0
    took_by (Some p) = p.imported

    gave_by : Option Passed → ℕ
    gave_by None = 0
    gave_by (Some p) = p.exported

pub summed : (R : Registers) (x y : ℕ) → Sums x y ≡ totals_of R → Summed R x y
unfolding totals_of
summed R x y e =
    let w = summed_at (some (buses R) (too_far R)) (took R) (gave R) x y e in
    let near = no_some (too_far R) (buses R) w.0 in
    record {
      near = w.0;
      took_is = w.1;
      gave_is = w.2;
      took_low = rw w.1 (over_bound (buses R) (others R) (imported R) 1000000 (λ i l. (small_at R i (near i l)).0));
      gave_low = rw w.2 (over_bound (buses R) (others R) (exported R) 1000000 (λ i l. (small_at R i (near i l)).1));
    }

too_far_at : (t : Bool) (u v : ℕ) → TooFar ≡ cond t TooFar (Sums u v) → t ≡ true
too_far_at true u v e = refl
too_far_at false u v e = absurd (cc)

too_far_lem : (R : Registers) → TooFar ≡ totals_of R → some (buses R) (too_far R) ≡ true
unfolding totals_of
too_far_lem R e = too_far_at (some (buses R) (too_far R)) (took R) (gave R) e

module _ (R : Registers) (out : List ℤ) where
  -- A call that is not accepted leaves the output as it was.
  refused_with : (o : Answer) → answer_to R (length out) ≡ o → (o ≡ Accepted → ⊥) → Metered R out out (o)
  refused_with o e h = record { answer = meter_said R (length out) (rw e refl); output = rw e (sym (leaves o out _ h)) }

  pub by_shape : (o : Answer) → o ≡ shape R (length out) → (o ≡ Accepted → ⊥) → Metered R out out (o)
  unfolding answer_to
  by_shape o e h = refused_with o (rw (← e) (stands o _ h)) h

  pub by_supply : shape R (length out) ≡ Accepted → buses R ≤ R.supply → Metered R out out (refused NoSuchSupply)
  unfolding answer_to
  by_supply s h = refused_with _ (rw (s, le-leb (buses R) R.supply h) refl) (refusal_stands NoSuchSupply)

  pub by_advance : shape R (length out) ≡ Accepted → R.supply < buses R → TooFar ≡ totals_of R → Metered R out out (refused AdvanceTooFar)
  unfolding answer_to
  by_advance s h e = refused_with _ (rw (s, lt-leb (buses R) R.supply h, too_far_lem R e) refl) (refusal_stands AdvanceTooFar)

  pub by_range :
      {x y : ℕ} → shape R (length out) ≡ Accepted → R.supply < buses R → Sums x y ≡ totals_of R → 1000000 < (x - y) + (y - x) → Metered R out out (refused SupplyOutside)
  unfolding answer_to
  by_range {x} {y} s h e g =
      let w = summed R x y e in
      refused_with _ (rw (s, lt-leb (buses R) R.supply h, w.near, supplied_is R, ← w.took_is, ← w.gave_is, outside x y g) refl) (refusal_stands SupplyOutside)

  pub by_injections :
      {x y : ℕ} {own : ℤ} {out' : List ℤ} → shape R (length out) ≡ Accepted → R.supply < buses R → Sums x y ≡ totals_of R → (x - y) + (y - x) ≤ 1000000
      → own ≡ pos x -ℤ pos y → out' ≡ headed (buses R) (with_supply R own) out → Metered R out out' Accepted
  unfolding answer_to
  by_injections {x} {y} {own} {out'} s h e g o f =
      let w = summed R x y e in
      let is : answer_to R (length out) ≡ Accepted = rw (s, lt-leb (buses R) R.supply h, w.near, supplied_is R, ← w.took_is, ← w.gave_is, inside x y g) refl in
      let own_is : own ≡ supplied R = rw (supplied_is R, ← w.took_is, ← w.gave_is) o in
      record { answer = meter_said R (length out) (rw is refl); output = rw is (rw own_is at f) }
