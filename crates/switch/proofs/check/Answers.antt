-- Each early answer is the first test that fails.
use native.Mathlib.Omega.{arith}
use mathlib.Core.Path.{◌≡◌, sym, ◌∙◌}
use mathlib.Core.List.{List}
use Prim.Native.Nat.{ℕ, ◌≤◌, ◌<◌}
use Rattle.answer.specs.Answer.{Accepted}
use Rattle.layout.specs.Layout.{branches_in}
use Rattle.book.proofs.RowsHoldBook.{head_in_range}
use Rattle.state.specs.Call.{lent_check}
use Rattle.state.proofs.Checked.{passed}
use Rattle.switch.proofs.Checking.{status_lent, status_nowhere, status_there, status_other}
use Rattle.answer.proofs.Refusals.{handed}
use Rattle.switch.proofs.check.Goals as goal

pub returns-in_err-check_lent : goal.returns-in_err-check_lent
returns-in_err-check_lent c =
    handed c.from_residual.ensures ∙ status_lent _ _ _ _ _ _ (sym c.check_lent.ensures ∙ c.in_err-check_lent.was)

pub returns-then-head-branch : goal.returns-then-head-branch
returns-then-head-branch c =
    let bytes : List ℕ = c.args.book.now in
    let ok : lent_check c.args.percent bytes c.args.flows c.args.bytes ≡ Accepted = sym c.check_lent.ensures ∙ c.in_ok-check_lent.was in
    status_nowhere _ _ _ _ _ _ ok
    (omega (arith, c.if-head-branch.true, c.head_of-head.ensures.branches_are))

pub branch_at-x-requires : goal.branch_at-x-requires
branch_at-x-requires c =
    let bytes : List ℕ = c.args.book.now in
    let ok : lent_check c.args.percent bytes c.args.flows c.args.bytes ≡ Accepted = sym c.check_lent.ensures ∙ c.in_ok-check_lent.was in
    let range : (c.head_of-head.result.buses ≤ 128) × (c.head_of-head.result.branches ≤ 256) = let r = head_in_range bytes _ c.head_of-head.ensures (passed bytes _ _ ok).book in (r.few_buses, r.few_branches) in
    (range.0, omega (arith, c.if-head-branch.false, range))

pub returns-then-x-status : goal.returns-then-x-status
returns-then-x-status c =
    let bytes : List ℕ = c.args.book.now in
    let ok : lent_check c.args.percent bytes c.args.flows c.args.bytes ≡ Accepted = sym c.check_lent.ensures ∙ c.in_ok-check_lent.was in
    let there : c.args.branch < branches_in bytes = omega (arith, c.if-head-branch.false, c.head_of-head.ensures.branches_are) in
    status_there _ _ _ _ _ _ ok there _ _ _ c.head_of-head.ensures.form_is c.head_of-head.ensures.buses_are
    c.branch_at-x.ensures c.if-x-status.true

pub returns : goal.returns
returns c =
    let bytes : List ℕ = c.args.book.now in
    let ok : lent_check c.args.percent bytes c.args.flows c.args.bytes ≡ Accepted = sym c.check_lent.ensures ∙ c.in_ok-check_lent.was in
    let there : c.args.branch < branches_in bytes = omega (arith, c.if-head-branch.false, c.head_of-head.ensures.branches_are) in
    status_other _ _ _ _ _ _ ok there _ _ _ c.head_of-head.ensures.form_is c.head_of-head.ensures.buses_are
    c.branch_at-x.ensures c.if-x-status.false
