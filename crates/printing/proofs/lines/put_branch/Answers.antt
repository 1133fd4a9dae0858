-- `put_branch` adds the number of a branch and what its record shows: each verdict by one law.
use native.Mathlib.Omega.{arith}
use Rattle.line.proofs.Adding.{adds_as, adds_then}
use Rattle.printing.proofs.Texts.{read_of, shown_out, shown_carries, shown_short}
use Rattle.printing.proofs.lines.put_branch.Goals as goal

pub returns-in-0 : goal.returns-in-0
returns-in-0 c =
    let is_read = read_of c.stretch.ensures c.read-entry.ensures in
    adds_then {n = 2738} c.put_decimal.ensures (adds_as (shown_out is_read c.in-0.is) (omega arith) c.put.ensures)

pub returns-in-1 : goal.returns-in-1
returns-in-1 c =
    let is_read = read_of c.stretch.ensures c.read-entry.ensures in
    adds_then {n = 2738} c.put_decimal.ensures (adds_as (shown_carries is_read (omega arith) c.in-1.is) (omega arith) c.put-in-1.ensures)

pub returns-in_default : goal.returns-in_default
returns-in_default c =
    let is_read = read_of c.stretch.ensures c.read-entry.ensures in
    adds_then {n = 2738} c.put_decimal.ensures (adds_as (shown_short is_read (omega arith) (omega arith)) (omega arith) (adds_then c.put_missing.ensures c.put_short.ensures))
