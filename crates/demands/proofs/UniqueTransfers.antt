-- Any two results that the promise of `move_load` allows have the same answer and book and leave the same lent memory, but for the flow numbers that
-- are free, the free reroute bits of records that were written and, from a table that wasn't true, records that only one put on its shortlist.
use mathlib.Core.Path.{◌≡◌, refl, sym, ◌∙◌}
use mathlib.Core.List.{List}
use Prim.Native.Nat.{ℕ, ◌+◌, ◌≤◌, ◌<◌}
use native.Mathlib.Omega.{arith}
use lib.IntN.{ℤ, nat_abs, ◌-ℤ◌}
use Rattle.answer.specs.Answer.{Answer, Accepted}
use Rattle.quantity.proofs.Parts.{apart_at_most}
use Rattle.verdict.specs.Case.{Case, shifted, on}
use Rattle.verdict.specs.Record.{TrueTable}
use Rattle.verdict.specs.Update.{Lent, FlowChanged, Shortlisted}
use Rattle.verdict.proofs.Keep.{stable}
use Rattle.verdict.proofs.Updates.{shortlisted?}
use Rattle.verdict.proofs.Shift.{flow_changed?, shift_true}
use Rattle.transfer.specs.Promise.{Transferred, TransferEnds}
use Rattle.transfer.proofs.Checking.{movable}
use Rattle.demands.specs.Same.{FreeMoved, SameResult}
use Rattle.demands.proofs.Ends.{movable_posed, transfer_done}
use Rattle.demands.proofs.Unique.{still_same, Each}
use Rattle.demands.proofs.UniqueCalls.{lent_case, Either, Agree, ends_same, renewed_same, renewed_true}
use Rattle.demands.proofs.Transfers.{same_of}

-- The case with the load moved.
abbrev pub moved_case : ℕ → Lent → ℕ → ℕ → ℕ → Case
moved_case percent before up down kw = shifted (lent_case percent before) up down kw

-- The shortlist of a move that left the flow g.
abbrev pub ListedMoved : Case → Lent → List ℤ → ℕ → Type 0
ListedMoved D before g k = Shortlisted D before.table (FlowChanged (on before.flow) (on g)) k

listed? : (D : Case) (before : Lent) (g : List ℤ) (k : ℕ) → Dec (ListedMoved D before g k)
listed? D before g = shortlisted? D before.table (FlowChanged (on before.flow) (on g)) (flow_changed? (on before.flow) (on g))

-- Both results have k on their shortlists, or neither has.
abbrev pub AgreeMoved : Case → Lent → Lent → Lent → ℕ → Type 0
AgreeMoved D before one two = Agree (ListedMoved D before one.flow) (ListedMoved D before two.flow)

-- The same result, as far as `agreed`.
abbrev pub SameMoved : Case → Lent → ℕ → (ℕ → Type 0) → Lent → Lent → Answer → Answer → Type 0
SameMoved D before kw agreed one two =
    SameResult D (FreeMoved D kw) (Either (ListedMoved D before one.flow) (ListedMoved D before two.flow)) agreed one two

-- A move of 0 leaves no flow number free, and none is of a branch out of service.
flows_moved : (percent up down kw : ℕ) (before one two : Lent) → Transferred percent up down kw before one → Transferred percent up down kw before two
    → (j : ℕ) → j < (lent_case percent before).branches
    → (FreeMoved (moved_case percent before up down kw) kw j → ⊥) → on one.flow j ≡ on two.flow j
flows_moved percent up down kw before one two x y j l n =
    let D = moved_case percent before up down kw in
    still_same D (on one.flow) (on two.flow) x.updated.fits y.updated.fits j l (D.served j) refl
    (λ i. stable _ _ (λ d. n (record {
      left = record { there = l; in_service = i };
      some = λ z. d (still one (x.slight j l) z ∙ sym (still two (y.slight j l) z));
    })))
  where
    still : (after : Lent) → nat_abs (on after.flow j -ℤ on before.flow j) ≤ kw → kw ≡ 0 → on after.flow j ≡ on before.flow j
    still after h z = same_of (on after.flow j) (on before.flow j) (omega arith)

module _ {percent up down kw : ℕ} {before one two : Lent} {r s : Answer} where
  -- From any table.
  pub transfers_same : TransferEnds percent up down kw before one r → TransferEnds percent up down kw before two s
      → SameMoved (moved_case percent before up down kw) before kw (AgreeMoved (moved_case percent before up down kw) before one two) one two r s
  transfers_same =
      let D = moved_case percent before up down kw in
      ends_same (lent_case percent before) D (FreeMoved D kw) (ListedMoved D before one.flow) (ListedMoved D before two.flow)
      (λ c. movable_posed (movable _ _ _ up down kw c))
      (λ o. o.updated) (λ o. o.updated) (λ o u. o.book_is ∙ sym u.book_is) (flows_moved percent up down kw before one two)
      (listed? D before one.flow)

  -- From a true table every record is so, whatever the two shortlists.
  pub transfers_same_true : TrueTable (lent_case percent before) before.flow before.table → TransferEnds percent up down kw before one r
      → TransferEnds percent up down kw before two s → r ≡ Accepted
      → SameMoved (moved_case percent before up down kw) before kw Each one two r s
  transfers_same_true t x y a =
      let D = moved_case percent before up down kw in
      let e = (transfers_same x y).answers in
      let d = transfer_done x a in
      let d' = transfer_done y (sym e ∙ a) in
      renewed_same D _ _ (FreeMoved D kw) Each e a (d.moved.book_is ∙ sym d'.moved.book_is) d.moved.updated d'.moved.updated
      (flows_moved percent up down kw before one two d.moved d'.moved)
      (renewed_true D _ _ (listed? D before one.flow) (listed? D before two.flow) d.moved.updated d'.moved.updated
      (shift_true (lent_case percent before) up down kw before one d.posed_after t d.moved.updated)
      (shift_true (lent_case percent before) up down kw before two d'.posed_after t d'.moved.updated))

  -- The flows that two accepted moves leave are within twice kw of each other.
  pub transfers_near : TransferEnds percent up down kw before one r → TransferEnds percent up down kw before two s → r ≡ Accepted
      → (j : ℕ) → j < (lent_case percent before).branches → nat_abs (on one.flow j -ℤ on two.flow j) ≤ kw + kw
  transfers_near x y a j l =
      let d = transfer_done x a in
      let d' = transfer_done y (sym (transfers_same x y).answers ∙ a) in
      near (on one.flow j) (on two.flow j) (on before.flow j) (d.moved.slight j l) (d'.moved.slight j l)
    where
      near : (f g h : ℤ) → nat_abs (f -ℤ h) ≤ kw → nat_abs (g -ℤ h) ≤ kw → nat_abs (f -ℤ g) ≤ kw + kw
      near f g h p q =
          let v = (apart_at_most f h kw).0 p in
          let w = (apart_at_most g h kw).0 q in
          (apart_at_most f g (kw + kw)).1 (omega (arith, v.0, w.1), omega (arith, v.1, w.0))
