-- A change of the percentage calls for a new screen: a table of a concrete book that is true at 100 and isn't at 50, though its flow fits at 50 and
-- no call refuses it. An outage at 50 is accepted and leaves a table that still isn't true.
use mathlib.Core.Path.{◌≡◌, refl, sym, ap, ◌∙◌}
use mathlib.Core.Bool.{true, false, true≢false, false≢true}
use mathlib.Core.List.{List, [], ◌∷◌, ◌++◌}
use mathlib.Core.Logic.{◌↔◌}
use Prim.Native.Nat.{ℕ, zero, suc, ◌≤◌, ◌<◌}
use native.Mathlib.Omega.{arith}
use lib.IntN.{ℤ, pos}
use lib.ListN.{length}
use Rattle.rows.specs.Row.{nth, every, some}
use Rattle.rows.specs.Bit.{bit_at, has}
use Rattle.rows.specs.Sum.{over, sum}
use Rattle.answer.specs.Answer.{Answer, Accepted, no_group}
use Rattle.quantity.specs.Signed.{pos_part}
use Rattle.quantity.specs.Rating.{percent_out}
use Rattle.bits.specs.Field.{Bytes, with_bit, set_bit}
use Rattle.bits.proofs.ReadAsPut.{length_set_bit, bytes_set_bit, bytes_zeros, bit_other}
use Rattle.grid.proofs.Tests.{◌&◌, ◌⇒◌, every_group}
use Rattle.grid.proofs.Islands.{together}
use Rattle.grid.proofs.Trial.{most_test, smallest_test}
use Rattle.layout.specs.declared.Form.TheVariants.{Old}
use Rattle.layout.specs.Book.{Book, WellFormed}
use Rattle.layout.specs.Fault.{branch_fault}
use Rattle.layout.specs.Layout.{encode}
use Rattle.verdict.specs.Case.{Case, Posed, out, on, Fits}
use Rattle.verdict.specs.Record.{record_at, verdict_in, TrueRecord, TrueTable}
use Rattle.verdict.specs.Update.{Lent, Shortlisted, not_served, not_carrying, is_touched, names_touched}
use Rattle.verdict.proofs.Fitting.{posed_status}
use Rattle.record.specs.Inside.{record_bytes}
use Rattle.state.specs.Case.{case_of}
use Rattle.state.specs.Call.{lent}
use Rattle.state.proofs.Opening.{posed}
use Rattle.state.proofs.TrueRecords.{none, none_has, carrying_record}
use Rattle.outage.specs.Promise.{Touched, itself, changed, TakenOut, TakeEnds}
use Rattle.examples.specs.Row.{short, group_bytes, sight_bytes}
use Rattle.examples.specs.Table.{minus, joins}
use Rattle.examples.proofs.Tests.{missing_test, well_test, well_sound, no_excess_test, inside_test, sight_test, sight_sound}
use Rattle.examples.proofs.Tests.{fits_test, fits_sound}
use Rattle.examples.proofs.OnBook.{of_book, takes_accepted}
use Rattle.examples.proofs.Excluded.{first_byte}

-- Two branches side by side carry 5 each. At 100 either takes the other's 5 over; at 50 neither can. The third is an idle spur.
abbrev B : Book
B = record {
  form = Old;
  factor = 1000;
  injections = pos 10 ∷ minus 10 ∷ pos 0 ∷ [];
  branches = joins 0 1 10 1 ∷ joins 0 1 10 1 ∷ joins 0 2 10 1 ∷ [];
}

well_B : WellFormed B
unfolding well_test ◌&◌ every over branch_fault
well_B = well_sound B refl

posed_at : {percent : ℕ} → percent ≤ 100 → Posed (case_of percent B)
posed_at h = posed B h well_B

abbrev halves : List ℤ
halves = pos 5 ∷ pos 5 ∷ pos 0 ∷ []

-- ---- At 100 the table is true.
halves_fit : Fits (case_of 100 B) (case_of 100 B).limit (on halves)
unfolding case_of sum fits_test every ◌&◌
halves_fit = fits_sound _ _ _ refl

-- Without one of the two all goes over the other, and without the spur all stays.
abbrev instead : ℕ → List ℤ
instead zero = pos 0 ∷ pos 10 ∷ pos 0 ∷ []
instead (suc zero) = pos 10 ∷ pos 0 ∷ pos 0 ∷ []
instead (suc (suc k)) = halves

instead_fits : (k : ℕ) → k < 3 → Fits (out (case_of 100 B) k) (case_of 100 B).loss_limit (on (instead k))
unfolding case_of sum fits_test every ◌&◌
instead_fits zero u = fits_sound _ _ _ refl
instead_fits (suc zero) u = fits_sound _ _ _ refl
instead_fits (suc (suc zero)) u = fits_sound _ _ _ refl
instead_fits (suc (suc (suc k))) u = absurd (omega arith)

-- Each of the two names the other, and the spur none.
abbrev bits : ℕ → List ℕ
bits zero = set_bit (none 32) 1 1
bits (suc zero) = set_bit (none 32) 0 1
bits (suc (suc k)) = none 32

abbrev shown : List ℕ
shown = record_bytes 1 0 no_group (bits 0) ++ (record_bytes 1 0 no_group (bits 1) ++ record_bytes 1 0 no_group (bits 2))

named : (k : ℕ) → k < 3 → (j : ℕ) → j < (case_of 100 B).branches → (has (bits k) j ≡ true) ↔ ((j ≡ k → ⊥) × (on (instead k) j ≡ on halves j → ⊥))
unfolding case_of set_bit with_bit bit_at
named zero u zero l = (λ q. absurd (false≢true q), λ h. absurd (h.0 refl))
named zero u (suc zero) l = (λ q. (λ e. omega arith, λ e. omega (arith, ap pos_part e)), λ h. refl)
named zero u (suc (suc zero)) l = (λ q. absurd (false≢true q), λ h. absurd (h.1 refl))
named zero u (suc (suc (suc j))) l = absurd (omega arith)
named (suc zero) u zero l = (λ q. (λ e. omega arith, λ e. omega (arith, ap pos_part e)), λ h. refl)
named (suc zero) u (suc zero) l = (λ q. absurd (false≢true q), λ h. absurd (h.0 refl))
named (suc zero) u (suc (suc zero)) l = (λ q. absurd (false≢true q), λ h. absurd (h.1 refl))
named (suc zero) u (suc (suc (suc j))) l = absurd (omega arith)
named (suc (suc k)) u j l = (λ q. absurd (false≢true (sym (none_has 32 j) ∙ q)), λ h. absurd (h.1 refl))

beyond : (k : ℕ) → k < 3 → (j : ℕ) → (case_of 100 B).branches ≤ j → has (bits k) j ≡ false
unfolding case_of
beyond zero u j l = rw (bit_other (none 32) 1 j 1 (omega arith) (λ e. omega arith)) (none_has 32 j)
beyond (suc zero) u j l = rw (bit_other (none 32) 0 j 1 (omega arith) (λ e. omega arith)) (none_has 32 j)
beyond (suc (suc k)) u j l = none_has 32 j

idle : (k : ℕ) → on halves k ≡ pos 0 → (j : ℕ) → has (bits k) j ≡ false
idle zero z j = absurd (omega (arith, ap pos_part z))
idle (suc zero) z j = absurd (omega (arith, ap pos_part z))
idle (suc (suc k)) z j = none_has 32 j

long : (k : ℕ) → length (bits k) ≡ 32
long zero = length_set_bit (none 32) 1 1
long (suc zero) = length_set_bit (none 32) 0 1
long (suc (suc k)) = refl

bytes : (k : ℕ) → Bytes (bits k)
bytes zero = bytes_set_bit (none 32) 1 1 (omega arith) (bytes_zeros 32)
bytes (suc zero) = bytes_set_bit (none 32) 0 1 (omega arith) (bytes_zeros 32)
bytes (suc (suc k)) = bytes_zeros 32

in_service : (percent k : ℕ) → k < 3 → (case_of percent B).served k ≡ true
unfolding case_of
in_service percent zero u = refl
in_service percent (suc zero) u = refl
in_service percent (suc (suc zero)) u = refl
in_service percent (suc (suc (suc k))) u = absurd (omega arith)

record_true : (k : ℕ) → k < 3 → TrueRecord (case_of 100 B) (on halves) k (record_bytes 1 0 no_group (bits k))
record_true k u =
    carrying_record (case_of 100 B) (on halves) (posed_at (omega arith)) k (bits k) (long k) (bytes k) (in_service 100 k u) (on (instead k))
    (instead_fits k u) (named k u) (beyond k u) (idle k)

pub true_at_100 : TrueTable (case_of 100 B) halves shown
unfolding case_of record_bytes set_bit with_bit
true_at_100 = record { room = omega arith; long = omega arith; fits = halves_fit; each = each }
  where
    each : (k : ℕ) → k < 3 → TrueRecord (case_of 100 B) (on halves) k (record_at shown k)
    each zero u = record_true 0 u
    each (suc zero) u = record_true 1 u
    each (suc (suc zero)) u = record_true 2 u
    each (suc (suc (suc k))) u = absurd (omega arith)

-- ---- At 50 the flow fits, and the table isn't true: the first of the two is short by 5, round the spur too.
pub fits_at_50 : Fits (case_of 50 B) (case_of 50 B).limit (on halves)
unfolding case_of sum fits_test every ◌&◌
fits_at_50 = fits_sound _ _ _ refl

carrying : verdict_in (record_at shown 0) ≡ 1
unfolding record_bytes set_bit with_bit
carrying = refl

short_shows : (v : ℕ) (group : List ℕ) → nth (sight_bytes (short v group)) 0 ≡ 2
unfolding sight_bytes record_bytes
short_shows v group = refl

-- A true record of the first branch, which is short there, has another verdict.
not_shown : (C : Case) (f : ℕ → ℤ) (rec : List ℕ) (v : ℕ) (group : List ℕ) → Posed C → 0 < C.branches → sight_test C 0 (short v group) ≡ true
    → verdict_in rec ≡ 1 → TrueRecord C f 0 rec → ⊥
not_shown C f rec v group p u t e r =
    omega (arith, first_byte rec _ (sight_sound C f 0 rec p u r (short v group) t), short_shows v group)

short_at_50 : sight_test (case_of 50 B) 0 (short 5 (0 ∷ 2 ∷ [])) ≡ true
unfolding sight_test inside_test smallest_test most_test every_group every some over ◌&◌ ◌⇒◌ case_of bit_at with_bit set_bit group_bytes missing_test together
short_at_50 = refl

there : (j : ℕ) → j < 3 → j < (case_of 50 B).branches
unfolding case_of
there j l = l

pub stale_at_50 : TrueTable (case_of 50 B) halves shown → ⊥
stale_at_50 t =
    not_shown (case_of 50 B) (on halves) _ 5 (0 ∷ 2 ∷ []) (posed_at (omega arith)) (there 0 (omega arith)) short_at_50 carrying
    (t.each 0 (there 0 (omega arith)))

room_B : 156 ≤ length shown
unfolding record_bytes set_bit with_bit
room_B = omega arith

-- ---- An outage of the spur at 50 has no excess.
spared : no_excess_test (out (case_of 50 B) 2) ≡ true
unfolding no_excess_test most_test every_group ◌&◌ ◌⇒◌ over case_of
spared = refl

half_in_range : percent_out 50 ≡ false
unfolding percent_out
half_in_range = refl

-- It changes no flow, so the first record is off the shortlist.
untouched : (g : ℕ → ℤ) → ((j : ℕ) → j < 3 → g j ≡ on halves j) → (j : ℕ) → j < 2 → Touched (on halves) g 2 j → ⊥
untouched g same j l (itself e) = omega arith
untouched g same j l (changed d) = d (sym (same j (omega arith)))

unlisted : (g : ℕ → ℤ) → ((j : ℕ) → j < 3 → g j ≡ on halves j) → Shortlisted (out (case_of 50 B) 2) shown (Touched (on halves) g 2) 0 → ⊥
unfolding case_of record_bytes set_bit with_bit bit_at
unlisted g same (not_served e) = true≢false e
unlisted g same (not_carrying n) = n refl
unlisted g same (is_touched t) = untouched g same 0 (omega arith) t
unlisted g same (names_touched zero l n t) = false≢true n
unlisted g same (names_touched (suc zero) l n t) = untouched g same 1 (omega arith) t
unlisted g same (names_touched (suc (suc zero)) l n t) = false≢true n
unlisted g same (names_touched (suc (suc (suc j))) l n t) = omega arith

short_after : sight_test (out (case_of 50 B) 2) 0 (short 5 (0 ∷ [])) ≡ true
unfolding sight_test inside_test smallest_test most_test every_group every some over ◌&◌ ◌⇒◌ case_of bit_at with_bit set_bit group_bytes missing_test together
short_after = refl

-- So any result is accepted, and its table isn't true at 50.
still_stale : {after : Lent} → TakenOut 50 2 (lent (encode B) halves shown) after → TrueTable (out (case_of 50 B) 2) after.flow after.table → ⊥
still_stale {after} o t =
    let its = of_book 50 B well_B in
    let same = its (λ C. (j : ℕ) → j < C.branches → on after.flow j ≡ on halves j) (o.idle refl) in
    let kept = its (λ C. (k : ℕ) → k < C.branches → (Shortlisted (out C 2) shown (Touched (on halves) (on after.flow) 2) k → ⊥)
    → record_at after.table k ≡ record_at shown k) o.updated.kept in
    let k = kept 0 (there 0 (omega arith)) (unlisted (on after.flow) (λ j l. same j (there j l))) in
    not_shown (out (case_of 50 B) 2) (on after.flow) _ 5 (0 ∷ []) (posed_status _ 2 false (posed_at (omega arith))) (there 0 (omega arith))
    short_after (ap verdict_in k ∙ carrying) (t.each 0 (there 0 (omega arith)))

pub accepted_stale : {after : Lent} {r : Answer} → TakeEnds 50 2 (lent (encode B) halves shown) after r
    → (r ≡ Accepted) × (TrueTable (out (case_of 50 B) 2) after.flow after.table → ⊥)
accepted_stale e =
    let x = takes_accepted 50 B well_B half_in_range 2 (omega arith) (in_service 50 2 (omega arith)) (omega arith) room_B fits_at_50 spared e in
    (x.0, still_stale x.1)
