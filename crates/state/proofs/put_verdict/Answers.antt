-- The record of one branch: each of its four ways is a true record.
use borrow.Author.Rules.{rules}
use native.Mathlib.Omega.{arith}
use mathlib.Core.Path.{sym, subst, ◌∙◌}
use Rattle.state.proofs.TrueRecords.{judge_out, judge_still, judge_carries, judge_short, short_low, losable}
use Rattle.verdict.specs.Island.{ShortNumber}
use Rattle.state.proofs.ShortNumbers.{number_less}
use Rattle.state.proofs.put_verdict.Goals as goal
use Rattle.state.proofs.put_verdict.Goals.{then-short-apart, else-short-apart}

pub returns-then-not-served-k : goal.returns-then-not-served-k
returns-then-not-served-k c C f s =
    rw c.write.ensures
    (judge_out C f _ _ _ _ s _ (sym (s.held.served_is _) ∙ c.if-not-served-k.true))

pub returns-then-latent-k : goal.returns-then-latent-k
returns-then-latent-k c C f s =
    rw c.write-then-latent-k.ensures
    (judge_still C f _ _ _ _ s _ (rw (← s.held.branches_are) c.requires.1) (sym (s.held.served_is _) ∙ c.if-not-served-k.false) c.if-latent-k.true)

pub loss-judged-requires : goal.loss-judged-requires
loss-judged-requires c =
    let a = c.requires.0 in
    losable a.case a.flow _ _ _ _ a.state _ c.requires.1

pub returns-in_default : goal.returns-in_default
returns-in_default c C f s =
    rw c.write-in_default.ensures
    (judge_carries C f _ _ _ _ s _ _ _ (rw (← s.held.branches_are) c.requires.1) (sym (s.held.served_is _) ∙ c.if-not-served-k.false)
    c.loss-judged.ensures c.in_default.is c.if-latent-k.false c.changed-reroute.ensures)

pub short_number-number-requires : goal.short_number-number-requires
short_number-number-requires c =
    let a = c.requires in
    let l = losable a.0.case a.0.flow _ _ _ _ a.0.state _ a.1 in
    record { linked = l.linked; limits = l.limits; below = l.below; different = l.different }

pub write-requires-2 : goal.write-requires-2
write-requires-2 c =
    let a = c.requires in
    let s = a.0.state in
    let low = short_low a.0.case a.0.flow _ _ _ _ s _ _ _ (rw (← s.held.branches_are) a.1) c.loss-judged.ensures
    c.in-Some.is in
    (search rules, omega (arith, low))

pub returns : goal.returns
returns c C f s =
    let there = c.requires.1 in
    rw c.write-2.ensures
    (judge_short C f _ _ _ _ s _ _ _ _ (rw (← s.held.branches_are) there) (sym (s.held.served_is _) ∙ c.if-not-served-k.false)
    c.loss-judged.ensures c.in-Some.is
    (λ h. elim c.if-short-apart.branch [
      | then-short-apart w ↦ subst (ShortNumber C _) (sym w.number-is) (w.short_number-number.ensures C f _ _ s h)
      | else-short-apart w ↦
          subst (ShortNumber C _) (sym w.number-is) (number_less C f _ _ _ _ s _ there _ _ h (λ q. w.if-short-apart.false (q ∙ sym c.apart.ensures)))
    ]))
