-- Where the figures differ, no flow within the normal limits need keep to the recorded reroute: a true table of a concrete book, and the call on it.
use mathlib.Core.Path.{◌≡◌, refl, sym, ap, ◌∙◌}
use mathlib.Core.Bool.{true, false, false≢true}
use mathlib.Core.List.{List, [], ◌∷◌, ◌++◌}
use mathlib.Core.Logic.{◌↔◌}
use Prim.Native.Nat.{ℕ, zero, suc, ◌≤◌, ◌<◌}
use native.Mathlib.Omega.{arith}
use lib.Dec.{eqb}
use lib.IntN.{ℤ, pos}
use lib.ListN.{length}
use Rattle.rows.specs.Row.{every}
use Rattle.rows.specs.Bit.{bit_at, has}
use Rattle.rows.specs.Sum.{over, sum}
use Rattle.answer.specs.Answer.{Answer, Accepted, no_group}
use Rattle.quantity.specs.Signed.{pos_part}
use Rattle.quantity.proofs.Limits.{full_in_range}
use Rattle.bits.specs.Field.{with_bit, set_bit}
use Rattle.bits.proofs.ReadAsPut.{length_set_bit, bytes_set_bit, bytes_zeros, bit_other}
use Rattle.grid.proofs.Tests.{◌&◌, ◌⇒◌, every_group}
use Rattle.grid.proofs.Trial.{most_test}
use Rattle.layout.specs.declared.Form.TheVariants.{New}
use Rattle.layout.specs.Book.{Book}
use Rattle.layout.specs.Fault.{branch_fault}
use Rattle.layout.specs.Layout.{encode}
use Rattle.verdict.specs.Case.{Posed, out, on, Fits}
use Rattle.verdict.specs.Record.{record_at, TrueRecord, TrueTable}
use Rattle.verdict.specs.Update.{Lent}
use Rattle.verdict.proofs.Fitting.{posed_status, none_above, fits_more, fits_idle}
use Rattle.record.specs.Inside.{record_bytes}
use Rattle.state.specs.Case.{case_of}
use Rattle.state.specs.Call.{lent}
use Rattle.state.proofs.Opening.{posed}
use Rattle.state.proofs.TrueRecords.{none, none_has, carrying_record}
use Rattle.outage.specs.Promise.{Confined, TakeEnds}
use Rattle.examples.specs.Table.{minus, rated}
use Rattle.examples.proofs.Tests.{well_test, well_sound, no_excess_test, fits_test, fits_sound}
use Rattle.examples.proofs.OnBook.{of_book, takes_accepted}
use Rattle.examples.proofs.Excluded.{by_first, by_second}

-- Three branches side by side carry 10 over the first. The second may carry 10 for a short time, and 5 for good.
abbrev B : Book
B = record { form = New; factor = 1000; injections = pos 10 ∷ minus 10 ∷ []; branches = rated 0 1 10 10 ∷ rated 0 1 5 10 ∷ rated 0 1 10 10 ∷ [] }

well_B : well_test B ≡ true
unfolding well_test ◌&◌ every over branch_fault
well_B = refl

posed_B : Posed (case_of 100 B)
posed_B = posed B (omega arith) (well_sound B well_B)

-- The record of the first names the second; the others have no flow.
abbrev by_bits : List ℕ
by_bits = set_bit (none 32) 1 1

abbrev shown : List ℕ
shown = record_bytes 1 0 no_group by_bits ++ (record_bytes 1 0 no_group (none 32) ++ record_bytes 1 0 no_group (none 32))

-- ---- The table is true.
first_fits : Fits (case_of 100 B) (case_of 100 B).limit (on by_first)
unfolding case_of sum fits_test every ◌&◌
first_fits = fits_sound _ _ _ refl

second_fits : Fits (out (case_of 100 B) 0) (case_of 100 B).loss_limit (on by_second)
unfolding case_of sum fits_test every ◌&◌
second_fits = fits_sound _ _ _ refl

named : (j : ℕ) → j < (case_of 100 B).branches → (has by_bits j ≡ true) ↔ ((j ≡ 0 → ⊥) × (on by_second j ≡ on by_first j → ⊥))
unfolding case_of set_bit with_bit bit_at
named zero u = (λ q. absurd (false≢true q), λ h. absurd (h.0 refl))
named (suc zero) u = (λ q. (λ e. omega arith, λ e. omega (arith, ap pos_part e)), λ h. refl)
named (suc (suc zero)) u = (λ q. absurd (false≢true q), λ h. absurd (h.1 refl))
named (suc (suc (suc j))) u = absurd (omega arith)

beyond : (j : ℕ) → (case_of 100 B).branches ≤ j → has by_bits j ≡ false
unfolding case_of
beyond j u = rw (bit_other (none 32) 1 j 1 (omega arith) (λ e. omega arith)) (none_has 32 j)

first_true : TrueRecord (case_of 100 B) (on by_first) 0 (record_bytes 1 0 no_group by_bits)
unfolding case_of
first_true =
    carrying_record (case_of 100 B) (on by_first) posed_B 0 by_bits (length_set_bit (none 32) 1 1)
    (bytes_set_bit (none 32) 1 1 (omega arith) (bytes_zeros 32)) refl (on by_second) second_fits
    named beyond (λ z. absurd (omega (arith, ap pos_part z)))

idle_true : (k : ℕ) → (case_of 100 B).served k ≡ true → on by_first k ≡ pos 0
    → TrueRecord (case_of 100 B) (on by_first) k (record_bytes 1 0 no_group (none 32))
idle_true k s z =
    carrying_record (case_of 100 B) (on by_first) posed_B k (none 32) refl (bytes_zeros 32) s (on by_first)
    (fits_more (out (case_of 100 B) k) _ _ (on by_first) posed_B.rising (fits_idle (case_of 100 B) k _ (on by_first) first_fits z))
    (λ j u. (λ q. absurd (false≢true (sym (none_has 32 j) ∙ q)), λ h. absurd (h.1 refl))) (λ j u. none_has 32 j) (λ z' j. none_has 32 j)

room_B : 156 ≤ length shown
unfolding record_bytes set_bit with_bit
room_B = omega arith

pub table_true : TrueTable (case_of 100 B) by_first shown
unfolding case_of record_bytes set_bit with_bit
table_true = record { room = omega arith; long = omega arith; fits = first_fits; each = each }
  where
    each : (k : ℕ) → k < 3 → TrueRecord (case_of 100 B) (on by_first) k (record_at shown k)
    each zero u = first_true
    each (suc zero) u = idle_true 1 refl refl
    each (suc (suc zero)) u = idle_true 2 refl refl
    each (suc (suc (suc k))) u = absurd (omega arith)

-- ---- Without the first branch, and with nothing on the third, 10 would have to go over the second.
pub no_flow_confined : (h : ℕ → ℤ) → Fits (out (case_of 100 B) 0) (case_of 100 B).limit h
    → Confined (case_of 100 B) (on by_first) (record_at shown 0) 0 h → ⊥
unfolding case_of over record_bytes set_bit with_bit bit_at
no_flow_confined h F c =
    let idle : h 2 ≡ pos 0 = c 2 (omega arith) (λ e. omega arith) refl in
    let D = out (out (case_of 100 B) 0) 2 in
    omega (
      arith,
      none_above D (case_of 100 B).limit h (posed_status _ 2 false (posed_status _ 0 false posed_B))
          (fits_idle (out (case_of 100 B) 0) 2 _ h F idle) (λ i. eqb i 0),
    )

-- ---- The call is accepted all the same, and leaves the reroute.
spare_B : no_excess_test (out (case_of 100 B) 0) ≡ true
unfolding no_excess_test most_test every_group ◌&◌ ◌⇒◌ over case_of
spare_B = refl

served_B : (case_of 100 B).served 0 ≡ true
unfolding case_of
served_B = refl

pub leaves_reroute : {after : Lent} {r : Answer} → TakeEnds 100 0 (lent (encode B) by_first shown) after r
    → (r ≡ Accepted) × (Confined (case_of 100 B) (on by_first) (record_at shown 0) 0 (on after.flow) → ⊥)
leaves_reroute {after} e =
    let w = well_sound B well_B in
    let x = takes_accepted 100 B w full_in_range 0 (omega arith) served_B (omega arith) room_B first_fits spare_B e in
    (x.0, no_flow_confined (on after.flow) (of_book 100 B w (λ C. Fits (out C 0) C.limit (on after.flow)) x.1.updated.fits))
