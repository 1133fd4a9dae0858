-- The order of two switchings on concrete books: the call at which a refusal comes may differ, with the shortage it tells; and an outage may be
-- accepted after a return alone.
use mathlib.Core.Path.{◌≡◌, refl, ap, ◌∙◌, subst}
use mathlib.Core.Bool.{false}
use mathlib.Core.List.{List, [], ◌∷◌}
use Prim.Native.Nat.{ℕ}
use native.Mathlib.Omega.{arith}
use lib.IntN.{ℤ}
use Rattle.rows.specs.Row.{every}
use Rattle.rows.specs.Sum.{over}
use Rattle.answer.specs.Answer.{Answer, Accepted}
use Rattle.grid.proofs.Tests.{◌&◌}
use Rattle.layout.specs.declared.Form.{Form}
use Rattle.layout.specs.Book.{Book, WellFormed}
use Rattle.layout.specs.Fault.{branch_fault}
use Rattle.layout.specs.Layout.{encode}
use Rattle.layout.proofs.DecodeEncode.{count_encode}
use Rattle.layout.proofs.StatusChanged.{encode_status}
use Rattle.verdict.specs.Update.{Lent}
use Rattle.state.specs.Case.{case_of, case_in}
use Rattle.state.specs.Call.{lent}
use Rattle.outage.specs.Promise.{TakeEnds}
use Rattle.restore.specs.Promise.{BackEnds}
use Rattle.demands.specs.Run.{Run, returned}
use Rattle.demands.proofs.Ends.{is_accepted, back_done}
use Rattle.demands.proofs.Returns.{return_accepted}
use Rattle.examples.specs.Row.{Refuses}
use Rattle.examples.specs.Table.{triangle, trio, marked_rows, order_rows}
use Rattle.examples.proofs.Tests.{well_test, well_sound}
use Rattle.examples.proofs.OnBook.{of_bytes}
use Rattle.examples.proofs.Marked.{row_in, marked_examples, order_examples, then_refused}

-- ---- Branches 0 and 2 of the trio: 0 is refused at the first call by 10; in the other order 2 is accepted, and 0 refused at the second by 20.
pub at_another_call : (f : Form) (flow : List ℤ) (table : List ℕ) (one other too : Lent) (r r' s' : Answer)
    → Run 100 (lent (encode (trio f 1)) flow table)
    → TakeEnds 100 0 (lent (encode (trio f 1)) flow table) one r
    → TakeEnds 100 2 (lent (encode (trio f 1)) flow table) other r' → TakeEnds 100 0 other too s'
    → Refuses 10 (0 ∷ []) (lent (encode (trio f 1)) flow table) one r × ((r' ≡ Accepted) × Refuses 20 (0 ∷ []) other too s')
at_another_call f flow table one other too r r' s' run e g h = (
  order_examples f _ (row_in (order_rows f) 0 (omega arith)) flow table one r run e,
  then_refused 100 (trio f 1) (trio f 0) 2 0 20 _ (0 ∷ []) refl
      (order_examples f _ (row_in (order_rows f) 1 (omega arith))) (order_examples f _ (row_in (order_rows f) 2 (omega arith)))
      flow table other too r' s' run g h,
)

-- ---- The triangle with branch 0 out: an outage of branch 1 is refused, and accepted where branch 0 has come back first.
abbrev open_ring : Form → Book
open_ring f = triangle f 1000 30 0 1

well_open : (f : Form) → WellFormed (open_ring f)
unfolding well_test ◌&◌ every over branch_fault
well_open f = well_sound (open_ring f) refl

out_now : (f : Form) → (case_in 100 (encode (open_ring f))).served 0 ≡ false
unfolding case_of
out_now f = of_bytes 100 (open_ring f) (well_open f) (λ C. C.served 0 ≡ false) refl

pub only_after_return : (f : Form) (flow : List ℤ) (table : List ℕ) (one other too : Lent) (r r' s' : Answer)
    → Run 100 (lent (encode (open_ring f)) flow table)
    → TakeEnds 100 1 (lent (encode (open_ring f)) flow table) one r
    → BackEnds 100 0 (lent (encode (open_ring f)) flow table) other r' → TakeEnds 100 1 other too s'
    → Refuses 30 (0 ∷ []) (lent (encode (open_ring f)) flow table) one r × ((r' ≡ Accepted) × (s' ≡ Accepted))
only_after_return f flow table one other too r r' s' run e g h =
    let back = return_accepted run g (omega (arith, count_encode (open_ring f) (well_open f))) (out_now f) in
    let closed : other.book ≡ encode (triangle f 1000 30 1 1) =
    (back_done g back).brought.book_is ∙ encode_status (open_ring f) (well_open f) 0 1 (omega arith) (omega arith) in
    let q : other ≡ lent (encode (triangle f 1000 30 1 1)) other.flow other.table =
    ap (λ (bs : List ℕ). lent bs other.flow other.table) closed in
    let t = order_examples f _ (row_in (order_rows f) 3 (omega arith)) other.flow other.table too s'
    (subst (Run 100) q (returned 0 run g back)) (subst (λ (l : Lent). TakeEnds 100 1 l too s') q h) in
    (marked_examples f _ (row_in (marked_rows f) 4 (omega arith)) flow table one r run e, (back, is_accepted t.answer))
