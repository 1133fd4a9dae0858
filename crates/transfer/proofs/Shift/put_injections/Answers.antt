-- Both injections as they become, written where they stood.
use borrow.Author.Rules.{sfits_of}
use mathlib.Core.Path.{◌≡◌, ap, ap₂, ◌∙◌}
use mathlib.Core.List.{List}
use Prim.Native.Nat.{ℕ, ◌+◌}
use lib.IntN.{ℤ, pos, ◌-ℤ◌}
use mir.Syntax.{w32}
use mir.Val.{SFits}
use mir.Facts.{to_z-of_z}
use Rattle.quantity.specs.Signed.{pos_part, neg_part}
use Rattle.bits.specs.Fields.{place, puts}
use Rattle.layout.specs.declared.Bus.{Bus}
use Rattle.layout.specs.Layout.{bus_widths, bus_start, injection_at, bus_values}
use Rattle.layout.specs.Inside.{bus_from, bus_fields}
use Rattle.transfer.specs.Promise.{risen, fallen}
use Rattle.transfer.proofs.Injections.{few_buses, risen_is, fallen_is}
use Rattle.transfer.proofs.Shift.put_injections.Goals as goal

pub injection_at-x-requires : goal.injection_at-x-requires
injection_at-x-requires c = (few_buses c.requires.buses).0

pub injection_at-y-requires : goal.injection_at-y-requires
injection_at-y-requires c = (few_buses c.requires.buses).1

pub put_bus-requires : goal.put_bus-requires
put_bus-requires c = (few_buses c.requires.buses).0

pub put_bus-requires-2 : goal.put_bus-requires-2
put_bus-requires-2 c = (few_buses c.requires.buses).1

pub returns : goal.returns
returns c =
    let up_above : c.above.result ≡ pos_part (injection_at c.args.book.now c.args.self.up) = let x = c.injection_at-x in
    let fit : SFits w32 x.result = sfits_of x.type_inv in
    (rw (to_z-of_z fit) at c.above.ensures) ∙ ap pos_part x.ensures in
    let up_below : c.below.result ≡ neg_part (injection_at c.args.book.now c.args.self.up) = let x = c.injection_at-x in
    let fit : SFits w32 x.result = sfits_of x.type_inv in
    (rw (to_z-of_z fit) at c.below.ensures) ∙ ap neg_part x.ensures in
    let risen_bus : c.net_bus-risen.result ≡ bus_from (bus_values (risen c.args.book.now c.args.self.up c.args.self.kw)) = c.net_bus-risen.ensures
    ∙ ap (λ (z : ℤ). bus_from (bus_values z))
    (ap₂ (λ (a b : ℕ). pos (a + c.args.self.kw) -ℤ pos b) up_above
    up_below ∙ risen_is (injection_at _ _) c.args.self.kw) in
    let down_above : c.above-2.result ≡ pos_part (injection_at c.args.book.now c.args.self.down) = let x = c.injection_at-y in
    let fit : SFits w32 x.result = sfits_of x.type_inv in
    (rw (to_z-of_z fit) at c.above-2.ensures) ∙ ap pos_part x.ensures in
    let down_below : c.below-2.result ≡ neg_part (injection_at c.args.book.now c.args.self.down) = let x = c.injection_at-y in
    let fit : SFits w32 x.result = sfits_of x.type_inv in
    (rw (to_z-of_z fit) at c.below-2.ensures) ∙ ap neg_part x.ensures in
    let fallen_bus : c.net_bus-fallen.result ≡ bus_from (bus_values (fallen c.args.book.now c.args.self.down c.args.self.kw)) = c.net_bus-fallen.ensures
    ∙ ap (λ (z : ℤ). bus_from (bus_values z))
    (ap₂ (λ (a b : ℕ). pos a -ℤ pos (b + c.args.self.kw)) down_above down_below ∙ fallen_is (injection_at _ _) c.args.self.kw) in
    c.put_bus-2.ensures
    ∙ ap₂ (λ (l : List ℕ) (x : Bus). puts l (place bus_widths bus_start c.args.self.down) bus_widths (bus_fields x))
    (c.put_bus.ensures
    ∙ ap (λ (x : Bus). puts c.args.book.now (place bus_widths bus_start c.args.self.up) bus_widths (bus_fields x))
    risen_bus)
    fallen_bus
