-- The table of marked examples under one theorem: a computed test of every row, over all groups of its book, with one soundness law.
use mathlib.Core.Path.{◌≡◌, refl, sym, ap, ◌∙◌, subst}
use mathlib.Core.Bool.{Bool, true, false}
use mathlib.Core.List.{List, [], ◌∷◌, Memᴰ}
use Prim.Native.Nat.{ℕ, zero, suc, ◌*◌, ◌≤◌, ◌<◌}
use native.Mathlib.Omega.{arith}
use borrow.Author.Tests.{eqb-true, ltb-true}
use lib.Dec.{eqb, ltb}
use lib.IntN.{ℤ}
use lib.ListN.{length, get_or, take}
use Rattle.rows.specs.Row.{every, some, up_to, headed}
use Rattle.rows.specs.Bit.{has, bit_at}
use Rattle.rows.specs.Sum.{over, sum}
use Rattle.std.specs.Prelude.{Option}
use Rattle.answer.specs.declared.Place.{Place}
use Rattle.answer.specs.Answer.{Answer, Accepted, Nowhere, Said, no_group, number_of, overloaded, settled}
use Rattle.rows.proofs.Row.{every_at}
use Rattle.answer.proofs.Said.{said_overloaded}
use Rattle.quantity.specs.Rating.{percent_out}
use Rattle.quantity.proofs.Limits.{full_at_most, full_in_range}
use Rattle.bits.specs.Field.{with_bit, set_bit}
use Rattle.grid.proofs.Tests.{◌&◌, ◌⇒◌, and_left, and_right, every_group}
use Rattle.grid.proofs.Islands.{together}
use Rattle.grid.proofs.Trial.{most_test, smallest_test}
use Rattle.layout.specs.declared.Form.{Form}
use Rattle.layout.specs.declared.Form.TheVariants.{Old}
use Rattle.layout.specs.Book.{Book, count, with_status, in_form, WellFormed}
use Rattle.layout.specs.Fault.{branch_fault}
use Rattle.layout.specs.Layout.{encode}
use Rattle.layout.proofs.AcceptedWhere.{valid_accepted}
use Rattle.layout.proofs.DecodeEncode.{count_encode, valid_encode, book_encode}
use Rattle.layout.proofs.StatusChanged.{encode_status}
use Rattle.verdict.specs.Case.{Case, Posed, out, on}
use Rattle.verdict.specs.Record.{record_at, TrueTable}
use Rattle.verdict.proofs.Fitting.{posed_status}
use Rattle.verdict.proofs.Loss.{never_overload}
use Rattle.verdict.specs.Update.{Lent}
use Rattle.state.specs.Case.{case_of, case_in}
use Rattle.state.specs.Call as call
use Rattle.state.specs.Call.{lent, OverloadSaid}
use Rattle.state.proofs.Opening.{posed}
use Rattle.state.proofs.Checked.{passing}
use Rattle.state.proofs.OneOverload.{overloaded_same, fits_not_over}
use Rattle.screen.specs.Promise.{screen_check, Screened, ScreenEnds, refuses, overloads, accepts}
use Rattle.outage.specs.Promise.{take_check, TakenOut, TakeEnds}
use Rattle.meters.specs.Registers.{buses, injection, too_far, answer_to}
use Rattle.meters.proofs.Given.{meter_nowhere}
use Rattle.demands.specs.Run.{Run, taken}
use Rattle.demands.proofs.Ends.{is_accepted}
use Rattle.demands.proofs.Calls.{call_true}
use Rattle.demands.proofs.Demand3.{run_true, run_posed, run_fits, call_checked}
use Rattle.examples.specs.Row as row
use Rattle.examples.specs.Row.{Sight, group_bytes, sight_bytes, Row, shows, takes, keeps, meters, Shows, Refuses, Takes, Holds}
use Rattle.examples.specs.Table.{triangle, marked_rows, order_rows, summer_rows}
use Rattle.examples.proofs.Tests.{well_test, well_sound, same_rows, same_numbers, same_sound, same_books, books_sound, long_group, bytes_group}
use Rattle.examples.proofs.Tests.{inside_test, overload_test, overload_sound, no_excess_test, no_excess_sound, missing_test, sight_test, sight_sound}

unfoldable pub row_test : ℕ → Row → Bool
row_test percent (shows b sights) =
    well_test b
    & (no_excess_test (case_of percent b)
    & (eqb (length sights) (count b)
    & every (count b) (λ k. sight_test (case_of percent b) k (get_or sights k row.out))))
row_test percent (row.refuses b v group) = well_test b & overload_test (case_of percent b) v group
row_test percent (takes b k d sights) =
    well_test b
    & (same_books (with_status b k 0) d
    & (ltb k (count b)
    & ((case_of percent b).served k
    & (no_excess_test (out (case_of percent b) k)
    & (eqb (length sights) (count b)
    & every (count b) (λ j. sight_test (out (case_of percent b) k) j (get_or sights j row.out)))))))
row_test percent (keeps b k v group) = well_test b & (ltb k (count b) & ((case_of percent b).served k & overload_test (out (case_of percent b) k) v group))
row_test percent (meters R space number output) =
    eqb (number_of (answer_to R (length space))) number
    & same_numbers (settled (answer_to R (length space)) space (headed (buses R) (injection R) space)) output

-- ---- What a test gives of one record.
record_shows : (C : Case) (flow : List ℤ) (table : List ℕ) (k : ℕ) (s : Sight) → Posed C → TrueTable C flow table → k < C.branches → sight_test C k s ≡ true
    → take 20 (record_at table k) ≡ sight_bytes s
record_shows C flow table k s p t u h = sight_sound C (on flow) k (record_at table k) p u (t.each k u) s h

count_in : (percent : ℕ) (b : Book) (k : ℕ) → k < count b → k < (case_of percent b).branches
unfolding case_of
count_in percent b k u = u

-- The answer that a refusal with 12 must be.
group_overloads : (C : Case) (v : ℕ) (group : List ℕ) → Posed C → overload_test C v group ≡ true → OverloadSaid C (overloaded v (group_bytes group))
group_overloads C v group p t = record {
  shortage = v;
  group = group_bytes group;
  answer = said_overloaded v (group_bytes group);
  long = long_group group;
  bytes = bytes_group group;
  overload = overload_sound C p v group t;
}

-- ---- A screen of an encoded book that is lent enough passes its checks, and judges the case of the book.
module _ (percent : ℕ) (in_range : percent_out percent ≡ false) (b : Book) (w : WellFormed b) (flow : List ℤ) (table : List ℕ)
    (flow_room : count b ≤ length flow) (table_room : 52 * count b ≤ length table) where
  abbrev before : Lent
  before = lent (encode b) flow table

  passes : screen_check percent before ≡ Accepted
  passes = passing (encode b) (length flow) (length table) (record {
    in_range = in_range;
    book = valid_accepted (encode b) (valid_encode b w);
    flow_room = rw (count_encode b w) flow_room;
    table_room = rw (count_encode b w) table_room;
  })

  its_overload : {r : Answer} → OverloadSaid (case_in percent (encode b)) r → OverloadSaid (case_of percent b) r
  its_overload {r} o = subst (λ (x : Book). OverloadSaid (case_of percent x) r) (book_encode b w) o

  its_table : {after : Lent} → Screened (case_in percent (encode b)) before after → Screened (case_of percent b) before after
  its_table {after} s = subst (λ (x : Book). Screened (case_of percent x) before after) (book_encode b w) s

  module _ {after : Lent} {r : Answer} where
    shows_all : (sights : List Sight) → no_excess_test (case_of percent b) ≡ true → eqb (length sights) (count b) ≡ true
        → every (count b) (λ k. sight_test (case_of percent b) k (get_or sights k row.out)) ≡ true
        → ScreenEnds percent before after r → Shows percent b sights before after r
    shows_all sights n l t (refuses m a k) = absurd (m passes)
    shows_all sights n l t (overloads c o k) =
        absurd (never_overload (case_of percent b) (its_overload o).shortage (has (its_overload o).group)
        (no_excess_sound (case_of percent b) (posed b (full_at_most in_range) w) n) (its_overload o).overload)
    shows_all sights n l t (accepts c a s) = record {
      answer = a;
      one_each = eqb-true _ _ l;
      records = λ k u. record_shows (case_of percent b) after.flow after.table k (get_or sights k row.out) (posed b (full_at_most in_range) w)
          (its_table s).table_true (count_in percent b k u)
          (every_at (λ k. sight_test (case_of percent b) k (get_or sights k row.out)) (count b) t k u);
      beyond = (its_table s).beyond;
    }

    refuses_all : (v : ℕ) (group : List ℕ) → overload_test (case_of percent b) v group ≡ true → ScreenEnds percent before after r
        → Refuses v group before after r
    refuses_all v group t (refuses m a k) = absurd (m passes)
    refuses_all v group t (overloads c o k) =
        let e = overloaded_same (case_of percent b) r (overloaded v (group_bytes group)) (its_overload o)
        (group_overloads (case_of percent b) v group (posed b (full_at_most in_range) w) t) in
        record { answer = rw e (said_overloaded v (group_bytes group)); kept = k }
    refuses_all v group t (accepts c a s) =
        absurd (fits_not_over (case_of percent b) (on after.flow) (overloaded v (group_bytes group)) (posed b (full_at_most in_range) w)
        (its_table s).table_true.fits (group_overloads (case_of percent b) v group (posed b (full_at_most in_range) w) t))

-- ---- A call on what a run left of an encoded book judges the case of the book without the branch.
module _ (percent : ℕ) (in_range : percent_out percent ≡ false) (b : Book) (w : WellFormed b) (k : ℕ) (there : k < count b)
    (in_service : (case_of percent b).served k ≡ true) {flow : List ℤ} {table : List ℕ} {after : Lent} {r : Answer}
    (run : Run percent (lent (encode b) flow table)) (e : TakeEnds percent k (lent (encode b) flow table) after r) where
  checked : take_check percent (encode b) (length flow) (length table) k ≡ Accepted
  checked = call_checked run e (rw (count_encode b w) there)
      (subst (λ (x : Book). (case_of percent x).served k ≡ true) (sym (book_encode b w)) in_service)

  posed_less : Posed (out (case_of percent b) k)
  posed_less = posed_status (case_of percent b) k false (posed b (full_at_most in_range) w)

  over_less : OverloadSaid (out (case_in percent (encode b)) k) r → OverloadSaid (out (case_of percent b) k) r
  over_less o = subst (λ (x : Book). OverloadSaid (out (case_of percent x) k) r) (book_encode b w) o

  true_less : TakenOut percent k (lent (encode b) flow table) after → TrueTable (out (case_of percent b) k) after.flow after.table
  true_less o = subst (λ (x : Book). TrueTable (out (case_of percent x) k) after.flow after.table) (book_encode b w)
      (call_true (run_posed run) o (run_true run))

  takes_all : (d : Book) (sights : List Sight) → with_status b k 0 ≡ in_form b.form d → no_excess_test (out (case_of percent b) k) ≡ true
      → eqb (length sights) (count b) ≡ true
      → every (count b) (λ j. sight_test (out (case_of percent b) k) j (get_or sights j row.out)) ≡ true
      → Takes b d sights (lent (encode b) flow table) after r
  takes_all d sights left n l t = go e
    where
      go : TakeEnds percent k (lent (encode b) flow table) after r → Takes b d sights (lent (encode b) flow table) after r
      go (call.refuses m a h) = absurd (m checked)
      go (call.unfit c m a h) = absurd (m (run_fits run))
      go (call.overloads c f o h) =
          let o' = over_less o in
          absurd (never_overload (out (case_of percent b) k) o'.shortage (has o'.group) (no_excess_sound (out (case_of percent b) k) posed_less n)
          o'.overload)
      go (call.accepts c f a o) = record {
        answer = a;
        book_is = o.book_is ∙ encode_status b w k 0 there (omega arith) ∙ ap encode left;
        one_each = eqb-true _ _ l;
        records = λ j u. record_shows (out (case_of percent b) k) after.flow after.table j (get_or sights j row.out) posed_less (true_less o)
            (count_in percent b j u)
            (every_at (λ j. sight_test (out (case_of percent b) k) j (get_or sights j row.out)) (count b) t j u);
      }

  keeps_all : (v : ℕ) (group : List ℕ) → overload_test (out (case_of percent b) k) v group ≡ true → Refuses v group (lent (encode b) flow table) after r
  keeps_all v group t = go e
    where
      go : TakeEnds percent k (lent (encode b) flow table) after r → Refuses v group (lent (encode b) flow table) after r
      go (call.refuses m a h) = absurd (m checked)
      go (call.unfit c m a h) = absurd (m (run_fits run))
      go (call.overloads c f o h) =
          let q = overloaded_same (out (case_of percent b) k) r (overloaded v (group_bytes group)) (over_less o)
          (group_overloads (out (case_of percent b) k) v group posed_less t) in
          record { answer = rw q (said_overloaded v (group_bytes group)); kept = h }
      go (call.accepts c f a o) =
          absurd (fits_not_over (out (case_of percent b) k) (on after.flow) (overloaded v (group_bytes group)) posed_less (true_less o).fits
          (group_overloads (out (case_of percent b) k) v group posed_less t))

-- ---- The one soundness law.
pub row_sound : (percent : ℕ) → percent_out percent ≡ false → (x : Row) → row_test percent x ≡ true → Holds percent x
unfolding row_test
row_sound p i (shows b sights) t =
    let t₁ = and_right _ _ t in
    let t₂ = and_right _ _ t₁ in
    λ flow table after r l m e.
    shows_all p i b (well_sound b (and_left _ _ t)) flow table l m sights (and_left _ _ t₁) (and_left _ _ t₂) (and_right _ _ t₂) e
row_sound p i (row.refuses b v group) t = λ flow table after r l m e. refuses_all p i b (well_sound b (and_left _ _ t)) flow table l m v group
    (and_right _ _ t) e
row_sound p i (takes b k d sights) t =
    let t₀ = and_right _ _ t in
    let t₁ = and_right _ _ t₀ in
    let t₂ = and_right _ _ t₁ in
    let t₃ = and_right _ _ t₂ in
    let t₄ = and_right _ _ t₃ in
    λ flow table after r run e.
    takes_all p i b (well_sound b (and_left _ _ t)) k (ltb-true _ _ (and_left _ _ t₁)) (and_left _ _ t₂) run e d sights
    (books_sound (with_status b k 0) d (and_left _ _ t₀)) (and_left _ _ t₃) (and_left _ _ t₄) (and_right _ _ t₄)
row_sound p i (keeps b k v group) t =
    let t₁ = and_right _ _ t in
    let t₂ = and_right _ _ t₁ in
    λ flow table after r run e. keeps_all p i b (well_sound b (and_left _ _ t)) k (ltb-true _ _ (and_left _ _ t₁)) (and_left _ _ t₂) run e v group
    (and_right _ _ t₂)
row_sound p i (meters R space number output) t = λ left r m. record {
  answer = subst (λ (n : ℕ). Said r n 0 no_group Nowhere) (eqb-true _ _ (and_left _ _ t))
      (subst (λ (p : Option Place). Said r (number_of (answer_to R (length space))) 0 no_group p) (meter_nowhere R (length space)) m.answer);
  output_is = m.output ∙ same_sound _ _ (and_right _ _ t);
}

unfoldable pub rows_test : ℕ → List Row → Bool
rows_test percent [] = true
rows_test percent (x ∷ xs) = row_test percent x & rows_test percent xs

pub rows_sound : (percent : ℕ) → percent_out percent ≡ false → (xs : List Row) → rows_test percent xs ≡ true → (x : Row) → Memᴰ x xs
    → Holds percent x
unfolding rows_test
rows_sound p i (y ∷ ys) t x (Memᴰ.head e) = subst (Holds p) (sym e) (row_sound p i y (and_left _ _ t))
rows_sound p i (y ∷ ys) t x (Memᴰ.tail m) = rows_sound p i ys (and_right _ _ t) x m
rows_sound p i [] t x x4 = elim x4 [ ]

pub row_in : (xs : List Row) (k : ℕ) → k < length xs → Memᴰ (get_or xs k (shows (triangle Old 1000 30 1 1) [])) xs
row_in [] k u = absurd (omega arith)
row_in (x ∷ xs) zero u = Memᴰ.head refl
row_in (x ∷ xs) (suc k) u = Memᴰ.tail (row_in xs k (omega arith))

-- Every row of the table holds at 100, which is document 01's limit, and in either form: no test looks at it.
pub marked_examples : (f : Form) (x : Row) → Memᴰ x (marked_rows f) → Holds 100 x
unfolding rows_test row_test ◌&◌ ◌⇒◌ every some up_to over sum bit_at with_bit set_bit every_group most_test smallest_test branch_fault case_of too_far answer_to group_bytes missing_test together
    well_test same_rows same_books inside_test overload_test no_excess_test sight_test
marked_examples f = rows_sound 100 full_in_range (marked_rows f) refl

-- The rows of the order of switchings hold in either form.
pub order_examples : (f : Form) (x : Row) → Memᴰ x (order_rows f) → Holds 100 x
unfolding rows_test row_test ◌&◌ ◌⇒◌ every some up_to over sum bit_at with_bit set_bit every_group most_test smallest_test branch_fault case_of too_far answer_to group_bytes missing_test together
    well_test same_rows same_books inside_test overload_test no_excess_test sight_test
order_examples f = rows_sound 100 full_in_range (order_rows f) refl

-- The books in summer hold at 80.
pub summer_examples : (x : Row) → Memᴰ x summer_rows → Holds 80 x
unfolding percent_out rows_test row_test ◌&◌ ◌⇒◌ every some over sum bit_at with_bit set_bit every_group most_test smallest_test branch_fault case_of group_bytes missing_test together
    well_test inside_test overload_test no_excess_test sight_test
summer_examples = rows_sound 80 refl summer_rows refl

-- A row of an outage and one of a refusal after it: taking c out of what the outage of b left is refused.
pub then_refused : (percent : ℕ) (B D : Book) (b c v : ℕ) (sights : List Sight) (group : List ℕ) → in_form B.form D ≡ D
    → Holds percent (takes B b D sights) → Holds percent (keeps D c v group)
    → (flow : List ℤ) (table : List ℕ) (mid after : Lent) (r s : Answer) → Run percent (lent (encode B) flow table)
    → TakeEnds percent b (lent (encode B) flow table) mid r → TakeEnds percent c mid after s → (r ≡ Accepted) × Refuses v group mid after s
then_refused percent B D b c v sights group same one two flow table mid after r s run e g =
    let t = one flow table mid r run e in
    let a = is_accepted t.answer in
    let q : mid ≡ lent (encode D) mid.flow mid.table =
    ap (λ (bs : List ℕ). lent bs mid.flow mid.table) (t.book_is ∙ ap encode same) in (
      a,
      subst (λ (l : Lent). TakeEnds percent c l after s → Refuses v group l after s) (sym q)
          (two mid.flow mid.table after s (subst (Run percent) q (taken b run e a))) g,
    )

-- (c) after (b): taking branch 1 out of what the outage of branch 0 left is refused.
pub c_after_b : (f : Form) (flow : List ℤ) (table : List ℕ) (mid after : Lent) (r s : Answer)
    → Run 100 (lent (encode (triangle f 1000 30 1 1)) flow table)
    → TakeEnds 100 0 (lent (encode (triangle f 1000 30 1 1)) flow table) mid r → TakeEnds 100 1 mid after s → Refuses 30 (0 ∷ []) mid after s
c_after_b f flow table mid after r s run e g =
    (then_refused 100 (triangle f 1000 30 1 1) (triangle f 1000 30 0 1) 0 1 30 _ (0 ∷ []) refl
    (marked_examples f _ (row_in (marked_rows f) 2 (omega arith))) (marked_examples f _ (row_in (marked_rows f) 4 (omega arith)))
    flow table mid after r s run e g).1
