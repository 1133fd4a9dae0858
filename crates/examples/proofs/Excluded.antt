-- Wrong programs that the promises rule out on a concrete book, whatever they answer.
use mathlib.Core.Path.{◌≡◌, refl, sym, ap, ◌∙◌, subst}
use mathlib.Core.Bool.{true, false, true≢false}
use mathlib.Core.List.{List, [], ◌∷◌}
use Prim.Native.Nat.{ℕ, zero, suc, ◌≤◌, ◌<◌}
use native.Mathlib.Omega.{arith}
use lib.IntN.{ℤ, pos}
use lib.ListN.{length, take}
use lib.Seq.{get_or-take}
use Rattle.rows.specs.Row.{nth, every}
use Rattle.answer.specs.Answer.{Answer, number_of, shortage_of}
use Rattle.rows.specs.Sum.{over, sum}
use Rattle.grid.proofs.Tests.{◌&◌}
use Rattle.quantity.specs.Signed.{pos_part}
use Rattle.quantity.proofs.Limits.{full_in_range}
use Rattle.layout.specs.declared.Form.TheVariants.{Old}
use Rattle.layout.specs.Book.{Book}
use Rattle.layout.specs.Fault.{branch_fault}
use Rattle.layout.specs.Layout.{encode}
use Rattle.layout.proofs.DecodeEncode.{count_encode, book_encode}
use Rattle.verdict.specs.Case as verdict
use Rattle.verdict.specs.Case.{on, Fits}
use Rattle.verdict.specs.Record.{record_at, verdict_in, names}
use Rattle.verdict.specs.Update.{Lent}
use Rattle.record.specs.Inside.{record_bytes}
use Rattle.state.specs.Case.{case_of}
use Rattle.state.specs.Call.{lent, refuses, unfit, overloads, accepts}
use Rattle.screen.specs.Promise.{ScreenEnds}
use Rattle.outage.specs.Promise.{Confined, TakeEnds}
use Rattle.demands.specs.Run.{Run}
use Rattle.state.proofs.Status.{branches_of}
use Rattle.demands.proofs.Excluded.{eleven_first}
use Rattle.verdict.proofs.Shown.{out_exactly}
use Rattle.demands.proofs.Demand3.{run_true, run_posed}
use Rattle.examples.specs.Row.{out, carries, short, islands, sight_bytes, Shows, Refuses, Takes}
use Rattle.examples.specs.Table.{minus, joins, triangle, second, spur, pair, feeder, way, marked_rows}
use Rattle.examples.proofs.Tests.{well_test, well_sound, fits_test, fits_sound}
use Rattle.examples.proofs.OnBook.{of_book, takes_checked}
use Rattle.examples.proofs.Marked.{row_in, marked_examples}

abbrev T : Book
T = triangle Old 1000 30 1 1

-- Byte 0 from the first twenty.
pub first_byte : (rec bytes : List ℕ) → take 20 rec ≡ bytes → verdict_in rec ≡ nth bytes 0
first_byte rec bytes e = sym (get_or-take 20 rec 0 0 (omega arith)) ∙ ap (λ (x : List ℕ). nth x 0) e

-- ---- Screens.
module _ {flow : List ℤ} {table : List ℕ} {after : Lent} {r : Answer} where
  -- One that refuses every book with 12.
  pub all_refused : 3 ≤ length flow → 156 ≤ length table → ScreenEnds 100 (lent (encode T) flow table) after r → number_of r ≡ 12 → ⊥
  all_refused l m e n =
      let s : Shows 100 T (carries ∷ carries ∷ carries ∷ []) (lent (encode T) flow table) after r =
      marked_examples Old _ (row_in (marked_rows Old) 0 (omega arith)) flow table after r l m e in
      omega (arith, s.answer.number_is)

  -- One that calls every branch carrying.
  pub all_carrying : 4 ≤ length flow → 208 ≤ length table → ScreenEnds 100 (lent (encode (second Old 25)) flow table) after r
      → verdict_in (record_at after.table 0) ≡ 1 → ⊥
  unfolding sight_bytes record_bytes
  all_carrying l m e v =
      let s : Shows 100 (second Old 25) (short 20 (0 ∷ []) ∷ short 35 (0 ∷ 1 ∷ []) ∷ short 20 (0 ∷ 1 ∷ []) ∷ islands 20 (0 ∷ 1 ∷ 2 ∷ []) ∷ [])
      (lent (encode (second Old 25)) flow table) after r =
      marked_examples Old _ (row_in (marked_rows Old) 7 (omega arith)) flow table after r l m e in
      omega (arith, first_byte (record_at after.table 0) _ (s.records 0 (omega arith)))

-- ---- Islands.
module _ {flow : List ℤ} {table : List ℕ} {after : Lent} {r : Answer} where
  -- A screen that leaves branches of limit 0 out of the path, or calls every branch that is short by its whole flow islanding.
  pub zero_left_out : 3 ≤ length flow → 156 ≤ length table → ScreenEnds 100 (lent (encode (spur Old 1)) flow table) after r
      → verdict_in (record_at after.table 0) ≡ 3 → ⊥
  unfolding sight_bytes record_bytes
  zero_left_out l m e v =
      let s : Shows 100 (spur Old 1) (short 20 (0 ∷ []) ∷ carries ∷ carries ∷ []) (lent (encode (spur Old 1)) flow table) after r =
      marked_examples Old _ (row_in (marked_rows Old) 19 (omega arith)) flow table after r l m e in
      omega (arith, first_byte (record_at after.table 0) _ (s.records 0 (omega arith)))

  module _ (l : 3 ≤ length flow) (m : 156 ≤ length table) (e : ScreenEnds 100 (lent (encode (spur Old 0)) flow table) after r) where
    cut_off : Shows 100 (spur Old 0) (islands 20 (0 ∷ []) ∷ out ∷ carries ∷ []) (lent (encode (spur Old 0)) flow table) after r
    cut_off = marked_examples Old _ (row_in (marked_rows Old) 20 (omega arith)) flow table after r l m e

    -- One that finds the path over the lost branch itself, or over one out of service.
    pub over_itself : verdict_in (record_at after.table 0) ≡ 2 → ⊥
    unfolding sight_bytes record_bytes
    over_itself v = omega (arith, first_byte (record_at after.table 0) _ (cut_off.records 0 (omega arith)))

    -- One that calls a spur without flow islanding.
    pub idle_spur : verdict_in (record_at after.table 2) ≡ 3 → ⊥
    unfolding sight_bytes record_bytes
    idle_spur v = omega (arith, first_byte (record_at after.table 2) _ (cut_off.records 2 (omega arith)))

-- ---- Limits taken for one another.
module _ {flow : List ℤ} {table : List ℕ} {after : Lent} {r : Answer} where
  -- A screen that judges a loss by the normal limits.
  pub shown_by_normal : 2 ≤ length flow → 104 ≤ length table → ScreenEnds 100 (lent (encode pair) flow table) after r
      → verdict_in (record_at after.table 0) ≡ 2 → ⊥
  unfolding sight_bytes record_bytes
  shown_by_normal l m e v =
      let s : Shows 100 pair (carries ∷ carries ∷ []) (lent (encode pair) flow table) after r =
      marked_examples Old _ (row_in (marked_rows Old) 14 (omega arith)) flow table after r l m e in
      omega (arith, first_byte (record_at after.table 0) _ (s.records 0 (omega arith)))

  -- One whose base flow keeps to the second limits.
  pub fitted_by_second : 1 ≤ length flow → 52 ≤ length table → ScreenEnds 100 (lent (encode feeder) flow table) after r → number_of r ≡ 0
      → ⊥
  fitted_by_second l m e n =
      let k : Refuses 10 (0 ∷ []) (lent (encode feeder) flow table) after r =
      marked_examples Old _ (row_in (marked_rows Old) 18 (omega arith)) flow table after r l m e in
      omega (arith, k.answer.number_is)

  -- A call that takes a branch out for good by the second limits.
  pub taken_by_second : Run 100 (lent (encode pair) flow table) → TakeEnds 100 0 (lent (encode pair) flow table) after r → number_of r ≡ 0
      → ⊥
  taken_by_second run e n =
      let k : Refuses 10 (0 ∷ []) (lent (encode pair) flow table) after r =
      marked_examples Old _ (row_in (marked_rows Old) 15 (omega arith)) flow table after r run e in
      omega (arith, k.answer.number_is)

  -- One that refuses with the shortage that the record shows.
  pub twelve_as_shown : Run 100 (lent (encode way) flow table) → TakeEnds 100 0 (lent (encode way) flow table) after r
      → shortage_of r ≡ 10 → ⊥
  twelve_as_shown run e n =
      let k : Refuses 20 (0 ∷ []) (lent (encode way) flow table) after r =
      marked_examples Old _ (row_in (marked_rows Old) 17 (omega arith)) flow table after r run e in
      omega (arith, k.answer.shortage_is)

-- ---- Calls: branch 0 of the triangle, on what a run left.
well_T : well_test T ≡ true
unfolding well_test ◌&◌ every over branch_fault
well_T = refl

served_T : (case_of 100 T).served 0 ≡ true
unfolding case_of
served_T = refl

module _ {flow : List ℤ} {table : List ℕ} {after : Lent} {r : Answer} where
  -- One that clears the bit, or does nothing at all, and leaves the table.
  pub table_left : Run 100 (lent (encode T) flow table) → TakeEnds 100 0 (lent (encode T) flow table) after r → after.table ≡ table → ⊥
  unfolding sight_bytes record_bytes
  table_left run e same =
      let w = well_sound T well_T in
      let t : Takes T (triangle Old 1000 30 0 1) (out ∷ islands 30 (0 ∷ []) ∷ islands 10 (0 ∷ 2 ∷ []) ∷ []) (lent (encode T) flow table) after r =
      marked_examples Old _ (row_in (marked_rows Old) 2 (omega arith)) flow table after r run e in
      let anew : verdict_in (record_at after.table 0) ≡ 0 = first_byte (record_at after.table 0) _ (t.records 0 (omega arith)) in
      let zero_byte : verdict_in (record_at table 0) ≡ 0 = ap (λ (x : List ℕ). verdict_in (record_at x 0)) (sym same) ∙ anew in
      let off = (out_exactly _ (run_posed run) (on flow) 0 (record_at table 0)
      ((run_true run).each 0 (omega (arith, branches_of 100 (encode T), count_encode T w)))).0 zero_byte in
      true≢false (sym served_T ∙ subst (λ (x : Book). (case_of 100 x).served 0 ≡ false) (book_encode T w) off)

-- ---- Calls on one flow, whatever was done before.
-- The triangle with branch 0 out, and a lent flow that is 0 everywhere: it doesn't fit, and without branch 1 the book is short 30.
abbrev Open : Book
Open = triangle Old 1000 30 0 1

abbrev still : List ℤ
still = pos 0 ∷ pos 0 ∷ pos 0 ∷ []

well_Open : well_test Open ≡ true
unfolding well_test ◌&◌ every over branch_fault
well_Open = refl

served_Open : (case_of 100 Open).served 1 ≡ true
unfolding case_of
served_Open = refl

still_unfit : Fits (case_of 100 Open) (case_of 100 Open).limit (on still) → ⊥
unfolding case_of sum
still_unfit f = let e : pos 0 ≡ pos 30 = f.bus 0 (omega arith) in omega (arith, ap pos_part e)

module _ {table : List ℕ} {after : Lent} {r : Answer} where
  -- One that tests 12 before 11.
  pub twelve_first : 156 ≤ length table → TakeEnds 100 1 (lent (encode Open) still table) after r → number_of r ≡ 12 → ⊥
  twelve_first l e n =
      let w = well_sound Open well_Open in
      let checked = takes_checked 100 Open w full_in_range 1 (omega arith) served_Open 3 (length table) (omega arith) l in
      let eleven = eleven_first e checked (λ f. still_unfit (of_book 100 Open w (λ C. Fits C C.limit (on still)) f)) in
      omega (arith, n, eleven.number_is)

-- Three branches side by side carry 10 over the first; its record names the second alone.
abbrev pub Abreast : Book
Abreast = record {
  form = Old;
  factor = 1000;
  injections = pos 10 ∷ minus 10 ∷ [];
  branches = joins 0 1 10 1 ∷ joins 0 1 10 1 ∷ joins 0 1 10 1 ∷ [];
}

abbrev pub by_first : List ℤ
by_first = pos 10 ∷ pos 0 ∷ pos 0 ∷ []

abbrev pub by_second : List ℤ
by_second = pos 0 ∷ pos 10 ∷ pos 0 ∷ []

abbrev by_third : List ℤ
by_third = pos 0 ∷ pos 0 ∷ pos 10 ∷ []

three_Abreast : 2 < (case_of 100 Abreast).branches
unfolding case_of
three_Abreast = omega arith

pub well_Abreast : well_test Abreast ≡ true
unfolding well_test ◌&◌ every over branch_fault
well_Abreast = refl

second_fits : Fits (verdict.out (case_of 100 Abreast) 0) (case_of 100 Abreast).limit (on by_second)
unfolding case_of sum fits_test every ◌&◌
second_fits = fits_sound _ _ _ refl

second_confined : (rec : List ℕ) → names rec 1 ≡ true → Confined (case_of 100 Abreast) (on by_first) rec 0 (on by_second)
unfolding case_of
second_confined rec y zero u n q = absurd (n refl)
second_confined rec y (suc zero) u n q = absurd (true≢false (sym y ∙ q))
second_confined rec y (suc (suc zero)) u n q = refl
second_confined rec y (suc (suc (suc j))) u n q = absurd (omega arith)

third_differs : on by_third 2 ≡ on by_first 2 → ⊥
third_differs e = omega (arith, ap pos_part e)

module _ {table : List ℕ} {after : Lent} {r : Answer} where
  -- One that drops the flow and screens afresh: 10 then goes over the third branch, which the record doesn't name.
  pub flow_elsewhere : names (record_at table 0) 1 ≡ true → names (record_at table 0) 2 ≡ false → after.flow ≡ by_third
      → TakeEnds 100 0 (lent (encode Abreast) by_first table) after r → ⊥
  flow_elsewhere y n third e = third_differs (go e)
    where
      kept : after ≡ lent (encode Abreast) by_first table → on by_third 2 ≡ on by_first 2
      kept k = ap (λ (x : List ℤ). on x 2) (sym third ∙ ap (λ (l : Lent). l.flow) k)

      go : TakeEnds 100 0 (lent (encode Abreast) by_first table) after r → on by_third 2 ≡ on by_first 2
      go (refuses m a k) = kept k
      go (unfit c m a k) = kept k
      go (overloads c f o k) = kept k
      go (accepts c f a o) =
          let w = well_sound Abreast well_Abreast in
          let keeps = subst (λ (x : Book). (h : ℕ → ℤ) → Fits (verdict.out (case_of 100 x) 0) (case_of 100 x).limit h → Confined (case_of 100 x)
          (on by_first) (record_at table 0) 0 h
          → Confined (case_of 100 x) (on by_first) (record_at table 0) 0 (on after.flow)) (book_encode Abreast w) o.confined in
          ap (λ (x : List ℤ). on x 2) (sym third) ∙ keeps (on by_second) second_fits (second_confined (record_at table 0) y) 2 three_Abreast (λ e. omega (arith, e)) n
