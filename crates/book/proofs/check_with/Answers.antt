-- `check_with` refuses by the header first, then by what comes after it.
use mathlib.Core.Path.{◌≡◌, refl, sym, ◌∙◌}
use Rattle.answer.specs.Answer.{Accepted}
use Rattle.answer.proofs.Refusals.{stands, gave_up, handed_on}
use Rattle.layout.specs.Check.{head_check, check_of}
use Rattle.book.proofs.check_with.Goals as goal

pub returns-in_err-check_head : goal.returns-in_err-check_head
unfolding check_of
returns-in_err-check_head c =
    let e = c.check_head.ensures in
    handed_on c.in_err-check_head.was c.from_residual.ensures ∙ e ∙ sym (rw (← e) (stands _ _ (gave_up c.in_err-check_head.was)))

pub returns : goal.returns
unfolding check_of
returns c =
    let passed : head_check c.args.book.now ≡ Accepted = sym c.check_head.ensures ∙ c.in_ok-check_head.was in
    c.check_body.ensures ∙ rw passed refl
