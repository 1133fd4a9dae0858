-- Each early answer is the first test that fails.
use native.Mathlib.Omega.{arith}
use mathlib.Core.Path.{◌≡◌, sym, ◌∙◌}
use mathlib.Core.Bool.{false}
use Prim.Native.Nat.{ℕ, ◌≤◌}
use mathlib.Core.List.{List}
use Rattle.answer.specs.Answer.{Accepted}
use Rattle.quantity.specs.Rating.{percent_out}
use Rattle.layout.specs.Check.{check_of}
use Rattle.book.proofs.RowsHoldBook.{head_in_range}
use Rattle.state.proofs.Checked.{by_percent, by_book, by_flow_room, by_table_room, passing}
use Rattle.answer.proofs.Refusals.{gave_up, handed_on}
use Rattle.state.proofs.check_lent.Goals.{then-flows-h-via-then-flows-h, then-flows-h-via-else-flows-h+then-bytes-h}
use Rattle.state.proofs.check_lent.Goals as goal

pub returns-then-percent_out : goal.returns-then-percent_out
returns-then-percent_out c = by_percent _ _ _ _ (sym c.percent_out.ensures ∙ c.if-percent_out.true)

pub returns-in_err-check_with : goal.returns-in_err-check_with
returns-in_err-check_with c =
    handed_on c.in_err-check_with.was c.from_residual.ensures
    ∙ by_book _ _ _ _ (sym c.percent_out.ensures ∙ c.if-percent_out.false) _ c.check_with.ensures (gave_up c.in_err-check_with.was)

pub overflow_mul-h : goal.overflow_mul-h
overflow_mul-h c =
    let bytes : List ℕ = c.args.book.now in
    let ok : check_of bytes ≡ Accepted = sym c.check_with.ensures ∙ c.in_ok-check_with.was in
    let few : c.head_of-h.result.branches ≤ 256 = (head_in_range bytes _ c.head_of-h.ensures ok).few_branches in
    omega (arith, few)

pub returns-then-flows-h : goal.returns-then-flows-h
returns-then-flows-h c =
    let in_range : percent_out c.args.percent ≡ false = sym c.percent_out.ensures ∙ c.if-percent_out.false in
    let ok : check_of c.args.book.now ≡ Accepted = sym c.check_with.ensures ∙ c.in_ok-check_with.was in
    let n = c.head_of-h.ensures.branches_are in
    elim c.then-flows-h.branch [
      | then-flows-h-via-then-flows-h w ↦ by_flow_room _ _ _ _ in_range ok (omega (arith, w.if-flows-h.true, n))
      | then-flows-h-via-else-flows-h+then-bytes-h w ↦ by_table_room _ _ _ _ in_range ok (omega (arith, w.if-bytes-h.true, n))
    ]

pub returns : goal.returns
returns c =
    let in_range : percent_out c.args.percent ≡ false = sym c.percent_out.ensures ∙ c.if-percent_out.false in
    let bytes : List ℕ = c.args.book.now in
    let ok : check_of bytes ≡ Accepted = sym c.check_with.ensures ∙ c.in_ok-check_with.was in
    let n = c.head_of-h.ensures.branches_are in
    sym (passing _ _ _ (record {
      in_range = in_range;
      book = ok;
      flow_room = omega (arith, c.if-flows-h.false, n);
      table_room = omega (arith, c.if-bytes-h.false, n);
    }))
