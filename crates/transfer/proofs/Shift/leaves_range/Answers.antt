-- An injection leaves its range where it has less room than kw.
use borrow.Author.Rules.{sfits_of}
use native.Mathlib.Omega.{arith}
use mathlib.Core.Path.{◌≡◌, ap, ◌∙◌}
use Prim.Native.Nat.{◌+◌}
use mir.Syntax.{w32}
use mir.Val.{SFits}
use mir.Facts.{to_z-of_z}
use Rattle.quantity.specs.Signed.{pos_part, neg_part}
use Rattle.layout.specs.Layout.{injection_at}
use Rattle.transfer.proofs.Injections.{few_buses, up_small, down_small, fall_decides}
use Rattle.transfer.proofs.Shift.leaves_range.Goals as goal

pub injection_at-x-requires : goal.injection_at-x-requires
injection_at-x-requires c = (few_buses c.requires).0

pub room-requires : goal.room-requires
room-requires c =
    -- The parts of the one injection, and of the other.
    let first_parts : (c.above.result ≡ pos_part (injection_at c.args.book.now c.args.self.up)) × (c.below.result ≡ neg_part (injection_at c.args.book.now c.args.self.up)) = let x = c.injection_at-x in
    let fit : SFits w32 x.result = sfits_of x.type_inv in
    ((rw (to_z-of_z fit) at c.above.ensures) ∙ ap pos_part x.ensures, (rw (to_z-of_z fit) at c.below.ensures) ∙ ap neg_part x.ensures) in
    let p = first_parts in let s = up_small c.requires in (omega (arith, p.0), omega (arith, p.1))

pub injection_at-y-requires : goal.injection_at-y-requires
injection_at-y-requires c = (few_buses c.requires).1

pub room-requires-2 : goal.room-requires-2
room-requires-2 c =
    let second_parts : (c.below-2.result ≡ neg_part (injection_at c.args.book.now c.args.self.down)) × (c.above-2.result ≡ pos_part (injection_at c.args.book.now c.args.self.down)) = let x = c.injection_at-y in
    let fit : SFits w32 x.result = sfits_of x.type_inv in (
      (rw (to_z-of_z fit) at c.below-2.ensures) ∙ ap neg_part x.ensures,
      (rw (to_z-of_z fit) at c.above-2.ensures) ∙ ap pos_part x.ensures,
    ) in
    let p = second_parts in let s = down_small c.requires in (omega (arith, p.0), omega (arith, p.1))

pub returns : goal.returns
returns c =
    -- The parts of the one injection, and of the other.
    let first_parts : (c.above.result ≡ pos_part (injection_at c.args.book.now c.args.self.up)) × (c.below.result ≡ neg_part (injection_at c.args.book.now c.args.self.up)) = let x = c.injection_at-x in
    let fit : SFits w32 x.result = sfits_of x.type_inv in
    ((rw (to_z-of_z fit) at c.above.ensures) ∙ ap pos_part x.ensures, (rw (to_z-of_z fit) at c.below.ensures) ∙ ap neg_part x.ensures) in
    -- Their room.
    let first_room : c.room.result + pos_part (injection_at c.args.book.now c.args.self.up) ≡ 1000000 + neg_part (injection_at c.args.book.now c.args.self.up) = let p = first_parts in omega (arith, c.room.ensures, p.0, p.1) in
    let second_parts : (c.below-2.result ≡ neg_part (injection_at c.args.book.now c.args.self.down)) × (c.above-2.result ≡ pos_part (injection_at c.args.book.now c.args.self.down)) = let x = c.injection_at-y in
    let fit : SFits w32 x.result = sfits_of x.type_inv in (
      (rw (to_z-of_z fit) at c.below-2.ensures) ∙ ap neg_part x.ensures,
      (rw (to_z-of_z fit) at c.above-2.ensures) ∙ ap pos_part x.ensures,
    ) in
    let second_room : c.room-2.result + neg_part (injection_at c.args.book.now c.args.self.down) ≡ 1000000 + pos_part (injection_at c.args.book.now c.args.self.down) = let p = second_parts in omega (arith, c.room-2.ensures, p.0, p.1) in
    fall_decides c.requires _ _ first_room _ c.if-room-self.false second_room
