-- `read_book` keeps its promise: a refusal leaves both tables, and an accepted book fills them.
use borrow.Author.Rules.{rules}
use mathlib.Core.Path.{refl, sym, ◌∙◌}
use mathlib.Core.Logic.{◌⊎◌, inl, inr}
use Prim.Native.Nat.{◌*◌, ◌<◌, ◌≤◌}
use lib.ListN.{length}
use Rattle.bits.specs.Field.{Bytes}
use Rattle.layout.specs.Form.{fields}
use Rattle.layout.proofs.AcceptedWhere.{InRange}
use Rattle.book.proofs.RowsHoldBook.{head_in_range}
use Rattle.book.proofs.ReadEnds.{read_refused, read_short, read_done}
use Rattle.answer.proofs.Refusals.{gave_up, handed_on}
use Rattle.book.proofs.read_book.Goals.{then-injections-h-via-then-injections-h, then-injections-h-via-else-injections-h+then-branches-numbers}
use Rattle.book.proofs.read_book.Goals as goal

pub returns-in_err-check_with : goal.returns-in_err-check_with
returns-in_err-check_with c =
    let bytes : Bytes c.args.book.now = search rules in
    read_refused _ _ _ bytes _ c.check_with.ensures _ (gave_up c.in_err-check_with.was) (handed_on c.in_err-check_with.was c.from_residual.ensures)

pub numbers-requires : goal.numbers-requires
numbers-requires c =
    let range : let h = c.head_of-h.result in InRange h.buses h.branches h.factor = head_in_range _ _ c.head_of-h.ensures (sym c.check_with.ensures ∙ c.in_ok-check_with.was) in
    range.few_branches

pub returns-then-injections-h : goal.returns-then-injections-h
returns-then-injections-h c =
    let bytes : Bytes c.args.book.now = search rules in
    let short : let h = c.head_of-h.result in
    (length c.args.injections.now < h.buses) ⊎ ((h.buses ≤ length c.args.injections.now) × (length c.args.branches.now < fields h.form * h.branches)) = elim c.then-injections-h.branch [
      | then-injections-h-via-then-injections-h w ↦ inl w.if-injections-h.true
      | then-injections-h-via-else-injections-h+then-branches-numbers w ↦ inr (w.if-injections-h.false, rw w.numbers.ensures.count_is at w.if-branches-numbers.true)
    ] in
    read_short _ _ _ bytes _ c.check_with.ensures c.in_ok-check_with.was _ c.head_of-h.ensures _ short refl

pub fill_injections-requires : goal.fill_injections-requires
fill_injections-requires c =
    let range : let h = c.head_of-h.result in InRange h.buses h.branches h.factor = head_in_range _ _ c.head_of-h.ensures (sym c.check_with.ensures ∙ c.in_ok-check_with.was) in
    (range.few_buses, c.if-injections-h.false)

pub fill_branches-requires : goal.fill_branches-requires
fill_branches-requires c =
    let range : let h = c.head_of-h.result in InRange h.buses h.branches h.factor = head_in_range _ _ c.head_of-h.ensures (sym c.check_with.ensures ∙ c.in_ok-check_with.was) in
    let long : let h = c.head_of-h.result in fields h.form * h.branches ≤ length c.args.branches.now = rw c.numbers.ensures.count_is at c.if-branches-numbers.false in
    let r = range in
    (record { few_buses = r.few_buses; few_branches = r.few_branches }, long)

pub returns : goal.returns
returns c =
    let bytes : Bytes c.args.book.now = search rules in
    let long : let h = c.head_of-h.result in fields h.form * h.branches ≤ length c.args.branches.now = rw c.numbers.ensures.count_is at c.if-branches-numbers.false in
    read_done _ _ _ bytes _ c.check_with.ensures c.in_ok-check_with.was _ c.head_of-h.ensures _ _ _
    c.if-injections-h.false long c.fill_injections.ensures c.fill_branches.ensures refl
