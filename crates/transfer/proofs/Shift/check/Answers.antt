-- Each early answer is the first test that fails.
use native.Mathlib.Omega.{arith}
use mathlib.Core.Path.{◌≡◌, sym, ◌∙◌}
use mathlib.Core.List.{List}
use Prim.Native.Nat.{ℕ, ◌<◌}
use Rattle.answer.specs.Answer.{Accepted}
use Rattle.layout.specs.Layout.{buses_in}
use Rattle.state.specs.Call.{lent_check}
use Rattle.state.proofs.Checked.{passed}
use Rattle.transfer.proofs.Checking.{by_lent, by_up, by_down, by_same, by_range, by_none}
use Rattle.answer.proofs.Refusals.{gave_up, handed_on}
use Rattle.transfer.proofs.Shift.check.Goals.{then-head-self-via-then-head-self, then-head-self-via-else-head-self+then-head-self-2, then-head-self-via-else-head-self+else-head-self-2+then-self}
use Rattle.transfer.proofs.Shift.check.Goals as goal

pub returns-in_err-check_lent : goal.returns-in_err-check_lent
returns-in_err-check_lent c =
    handed_on c.in_err-check_lent.was c.from_residual.ensures ∙ by_lent _ _ _ _ _ _ _ _ c.check_lent.ensures (gave_up c.in_err-check_lent.was)

pub returns-then-head-self : goal.returns-then-head-self
returns-then-head-self c =
    let ok : lent_check c.args.percent c.args.book.now c.args.flows c.args.bytes ≡ Accepted = sym c.check_lent.ensures ∙ c.in_ok-check_lent.was in
    let n = c.head_of-head.ensures.buses_are in
    elim c.then-head-self.branch [
      | then-head-self-via-then-head-self w ↦ by_up _ _ _ _ _ _ _ ok (omega (arith, w.if-head-self.true, n))
      | then-head-self-via-else-head-self+then-head-self-2 w ↦ by_down _ _ _ _ _ _ _ ok (omega (arith, w.if-head-self-2.true, n))
      | then-head-self-via-else-head-self+else-head-self-2+then-self w ↦ by_same _ _ _ _ _ _ _ ok w.if-self.true
    ]

pub leaves_range-requires : goal.leaves_range-requires
leaves_range-requires c =
    let bytes : List ℕ = c.args.book.now in
    let ok : lent_check c.args.percent bytes c.args.flows c.args.bytes ≡ Accepted = sym c.check_lent.ensures ∙ c.in_ok-check_lent.was in
    let up_there : c.args.self.up < buses_in bytes = omega (arith, c.if-head-self.false, c.head_of-head.ensures.buses_are) in
    let down_there : c.args.self.down < buses_in bytes = omega (arith, c.if-head-self-2.false, c.head_of-head.ensures.buses_are) in
    record { book = (passed _ _ _ ok).book; up_there = up_there; down_there = down_there }

pub returns-then-leaves_range : goal.returns-then-leaves_range
returns-then-leaves_range c =
    let bytes : List ℕ = c.args.book.now in
    let ok : lent_check c.args.percent bytes c.args.flows c.args.bytes ≡ Accepted = sym c.check_lent.ensures ∙ c.in_ok-check_lent.was in
    let up_there : c.args.self.up < buses_in bytes = omega (arith, c.if-head-self.false, c.head_of-head.ensures.buses_are) in
    let down_there : c.args.self.down < buses_in bytes = omega (arith, c.if-head-self-2.false, c.head_of-head.ensures.buses_are) in
    by_range _ _ _ _ _ _ _ ok up_there down_there c.if-self.false
    (sym c.leaves_range.ensures ∙ c.if-leaves_range.true)

pub returns : goal.returns
returns c =
    let bytes : List ℕ = c.args.book.now in
    let ok : lent_check c.args.percent bytes c.args.flows c.args.bytes ≡ Accepted = sym c.check_lent.ensures ∙ c.in_ok-check_lent.was in
    let up_there : c.args.self.up < buses_in bytes = omega (arith, c.if-head-self.false, c.head_of-head.ensures.buses_are) in
    let down_there : c.args.self.down < buses_in bytes = omega (arith, c.if-head-self-2.false, c.head_of-head.ensures.buses_are) in
    by_none _ _ _ _ _ _ _ ok up_there down_there c.if-self.false (sym c.leaves_range.ensures ∙ c.if-leaves_range.false)
