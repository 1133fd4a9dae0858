-- Each round keeps what `Round` says; each way out is one law of `Ends`.
use native.Mathlib.Omega.{arith}
use Rattle.rows.specs.Row.{nth}
use Rattle.reroute.proofs.Rounds.{Amount, in_left, round_again}
use Rattle.reroute.proofs.Ends.{round_done, round_stuck}
use Rattle.reroute.proofs.reroute.Goals as goal

pub returns-in_default : goal.returns-in_default
returns-in_default c =
    round_stuck c.explore-found.ensures c.in_default.is (omega arith) c.loop-left.invariant

pub overflow_sub-left : goal.overflow_sub-left
overflow_sub-left c =
    -- What is moved is the smallest of three.
    let amount : let rest = c.loop-left.rest in Amount c.in-Route.room (nth rest.surplus c.in-Route.start) (nth rest.deficit c.in-Route.goal) c.min-x.result = record { in_room = omega arith; in_surplus = omega arith; in_deficit = omega arith; some = λ p q r. omega arith } in
    in_left c.explore-found.ensures c.in-Route.is c.loop-left.invariant amount

pub loop-left-preserved : goal.loop-left-preserved
loop-left-preserved c =
    -- What is moved is the smallest of three.
    let amount : let rest = c.loop-left.rest in Amount c.in-Route.room (nth rest.surplus c.in-Route.start) (nth rest.deficit c.in-Route.goal) c.min-x.result = record { in_room = omega arith; in_surplus = omega arith; in_deficit = omega arith; some = λ p q r. omega arith } in
    round_again c.explore-found.ensures c.in-Route.is c.loop-left.invariant amount c.role.ensures c.role-in-loop-left.ensures c.shift-latent.ensures

pub returns : goal.returns
returns c = round_done c.loop-left.invariant (omega arith)
