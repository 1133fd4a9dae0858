-- The verdict of a branch short by its whole flow: by the group that no other branch leaves, or by the search.
use native.Mathlib.Omega.{arith}
use mathlib.Core.Path.{sym, ◌∙◌}
use borrow.Author.Tests.{not-true}
use Rattle.state.proofs.ShortNumbers.{all_open, at_most_one, number_shut, number_path, number_none}
use Rattle.state.proofs.short_number.Goals as goal

pub returns-then-not-leaves : goal.returns-then-not-leaves
returns-then-not-leaves c C f lat v s h =
    number_shut C f _ _ _ lat s _ c.requires.below v _ h (sym c.leaves.ensures ∙ not-true _ c.if-not-leaves.true-raw)

pub joined-requires : goal.joined-requires
joined-requires c =
    let p = c.requires in (
      record { linked = p.linked; small = λ j u. omega (arith, at_most_one p.linked.wired.size c.live_limits-ways.ensures j u, p.limits j u) },
      p.below,
      record { from_in = p.linked.wired.first_in _ p.below; to_in = p.linked.wired.second_in _ p.below; different = p.different },
    )

pub returns-then-joined : goal.returns-then-joined
returns-then-joined c C f lat v s h =
    let p = c.requires in
    number_path C f _ _ _ lat s _ p.below (all_open p.linked.wired.size c.live_limits-ways.ensures)
    c.joined.ensures c.if-joined.true

pub returns : goal.returns
returns c C f lat v s h =
    let p = c.requires in
    number_none C f _ _ _ lat s _ p.below (all_open p.linked.wired.size c.live_limits-ways.ensures)
    c.joined.ensures c.if-joined.false
