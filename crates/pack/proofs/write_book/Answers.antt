-- `write_book` keeps its promise: a refusal leaves the bytes, and an accepted book fills its exact length.
use native.Mathlib.Omega.{arith}
use mathlib.Core.Path.{sym, ◌∙◌}
use lib.Seq.{length-take-le}
use Rattle.pack.proofs.Writable.{writable, exact_fits, write_refused}
use Rattle.answer.proofs.Refusals.{gave_up, handed_on}
use Rattle.pack.proofs.write_book.Goals as goal

pub returns-in_err-check : goal.returns-in_err-check
returns-in_err-check c =
    write_refused _ _ _ _ _ _ _ _ c.check.ensures _ (gave_up c.in_err-check.was) (handed_on c.in_err-check.was c.from_residual.ensures)

pub bytes_for-end-requires : goal.bytes_for-end-requires
bytes_for-end-requires c =
    let good = writable _ _ _ _ _ _ _ _ c.check.ensures c.in_ok-check.was in
    (omega (arith, good.range.few_buses), omega (arith, good.range.few_branches))

pub slice_bounds-pack_into-end : goal.slice_bounds-pack_into-end
slice_bounds-pack_into-end c =
    let good = writable _ _ _ _ _ _ _ _ c.check.ensures c.in_ok-check.was in
    omega (arith, good.fits, c.bytes_for-end.ensures)

pub slice_bounds-pack_into-end-2 : goal.slice_bounds-pack_into-end-2
slice_bounds-pack_into-end-2 c =
    let good = writable _ _ _ _ _ _ _ _ c.check.ensures c.in_ok-check.was in
    sym (length-take-le c.bytes_for-end.result c.args.out.now (omega (arith, good.fits, c.bytes_for-end.ensures)))

pub pack_into-requires : goal.pack_into-requires
pack_into-requires c =
    let good = writable _ _ _ _ _ _ _ _ c.check.ensures c.in_ok-check.was in
    let l = length-take-le c.bytes_for-end.result c.args.out.now (omega (arith, good.fits, c.bytes_for-end.ensures)) ∙ c.bytes_for-end.ensures in
    (l, exact_fits _ _ _ _ _ _ _ _ c.check.ensures c.in_ok-check.was _ l)
