-- `move_book` keeps its promise: a refusal leaves the bytes, and an accepted book fills its exact length.
use borrow.Author.Rules.{rules}
use native.Mathlib.Omega.{arith}
use mathlib.Core.Path.{◌≡◌, sym, ◌∙◌}
use Prim.Native.Nat.{◌≤◌}
use lib.ListN.{length, take}
use lib.Seq.{length-take-le}
use Rattle.bits.specs.Field.{Bytes}
use Rattle.layout.specs.Layout.{bytes_for, buses_in, branches_in}
use Rattle.forms.proofs.Moving.{Moves, moves, small_head, length_by, move_refused}
use Rattle.answer.proofs.Refusals.{gave_up, handed_on}
use Rattle.forms.proofs.move_book.Goals as goal

pub returns-in_err-check : goal.returns-in_err-check
returns-in_err-check c =
    let bytes : Bytes c.args.book.now = search rules in
    move_refused _ _ _ bytes _ c.check.ensures _ (gave_up c.in_err-check.was) (handed_on c.in_err-check.was c.from_residual.ensures)

pub bytes_for-end-requires : goal.bytes_for-end-requires
bytes_for-end-requires c =
    let good : let a = c.args in Moves a.book.now a.form (length a.out.now) = moves _ _ _ (sym c.check.ensures ∙ c.in_ok-check.was) in
    let s = small_head _ _ c.head_of-h.ensures good.book in (s.few_buses, s.few_branches)

pub slice_bounds-move_into-end : goal.slice_bounds-move_into-end
slice_bounds-move_into-end c =
    let good : let a = c.args in Moves a.book.now a.form (length a.out.now) = moves _ _ _ (sym c.check.ensures ∙ c.in_ok-check.was) in
    let long : let a = c.args in c.bytes_for-end.result ≡ bytes_for a.form (buses_in a.book.now) (branches_in a.book.now) = c.bytes_for-end.ensures
    ∙ length_by _ _ c.args.form c.head_of-h.ensures in
    let room : c.bytes_for-end.result ≤ length c.args.out.now = omega (arith, good.fits, long) in
    room

pub slice_bounds-move_into-end-2 : goal.slice_bounds-move_into-end-2
slice_bounds-move_into-end-2 c =
    let good : let a = c.args in Moves a.book.now a.form (length a.out.now) = moves _ _ _ (sym c.check.ensures ∙ c.in_ok-check.was) in
    let long : let a = c.args in c.bytes_for-end.result ≡ bytes_for a.form (buses_in a.book.now) (branches_in a.book.now) = c.bytes_for-end.ensures
    ∙ length_by _ _ c.args.form c.head_of-h.ensures in
    let room : c.bytes_for-end.result ≤ length c.args.out.now = omega (arith, good.fits, long) in
    let part_long : length (take c.bytes_for-end.result c.args.out.now) ≡ c.bytes_for-end.result = length-take-le _ _ room in
    sym part_long

pub move_into-requires : goal.move_into-requires
move_into-requires c =
    let good : let a = c.args in Moves a.book.now a.form (length a.out.now) = moves _ _ _ (sym c.check.ensures ∙ c.in_ok-check.was) in
    let long : let a = c.args in c.bytes_for-end.result ≡ bytes_for a.form (buses_in a.book.now) (branches_in a.book.now) = c.bytes_for-end.ensures
    ∙ length_by _ _ c.args.form c.head_of-h.ensures in
    let room : c.bytes_for-end.result ≤ length c.args.out.now = omega (arith, good.fits, long) in
    let part_long : length (take c.bytes_for-end.result c.args.out.now) ≡ c.bytes_for-end.result = length-take-le _ _ room in
    record { head = c.head_of-h.ensures; book = good.book; exact = part_long ∙ c.bytes_for-end.ensures }
