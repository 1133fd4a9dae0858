-- `is_listed` is true exactly where byte 0 is not 1 or the reroute names a touched branch.
use borrow.Author.Rules.{rules}
use borrow.Author.Tests.{eqb-true, tests}
use mathlib.Core.Path.{sym, ◌∙◌}
use lib.ListN.{take, drop}
use mir.Syntax.{w8}
use mir.Val.{Fits}
use Rattle.rows.specs.Row.{nth}
use Rattle.std.proofs.lemmas.Iterator.{cases_from_any, YieldsList-from_slice, YieldsList-from_zip}
use Rattle.record.proofs.Listed.{Common, Apart, by_pairs}
use Rattle.record.proofs.is_listed.Goals as goal

pub returns : goal.returns
returns c =
    let a = c.args in
    by_pairs a.rec.now a.touched c.requires (search rules) (eqb-true _ 1 (sym c.carries.ensures ∙ c.if-not-carries.false)) (search rules)
    (λ i. let y : Fits w8 (nth a.touched i) = search rules in y.fits) _
    (cases_from_any c.any.new.self _ _ (Common a.rec.now a.touched) (Apart a.rec.now a.touched) c.any.ensures.ran
    (YieldsList-from_zip (YieldsList-from_slice (take 32 (drop 20 a.rec.now)) cc) (YieldsList-from_slice a.touched cc))
    (λ x q k. search (rules, tests)) (λ x q k. search (rules, tests)))
