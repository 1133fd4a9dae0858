-- The check of an outage: refused as the check of a branch is, or for its own reason where the branch has that status already.
use mathlib.Core.Path.{sym, ◌∙◌}
use Rattle.answer.proofs.Refusals.{handed}
use Rattle.switch.proofs.Checking.{refused_before, refused_already, may_switch}
use Rattle.outage.proofs.check.Goals as goal

pub returns-in_err-check : goal.returns-in_err-check
returns-in_err-check c = handed c.from_residual.ensures ∙ refused_before _ _ _ _ _ _ _ c.check.ensures c.in_err-check.was

pub returns-then-branch : goal.returns-then-branch
returns-then-branch c = refused_already _ _ _ _ _ _ _ c.check.ensures c.in_ok-check.was c.if-branch.true

pub returns : goal.returns
returns c = sym (may_switch _ _ _ _ _ _ _ c.check.ensures c.in_ok-check.was c.if-branch.false)
