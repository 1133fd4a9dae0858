-- True tables of one book show the same, whatever their flows.
use mathlib.Core.Path.{◌≡◌, subst}
use mathlib.Core.List.{List}
use Prim.Native.Nat.{ℕ}
use Rattle.verdict.specs.Record.{TrueTable}
use Rattle.verdict.specs.Update.{Lent}
use Rattle.verdict.proofs.VerdictByCase.{tables_agree}
use Rattle.state.specs.Case.{case_in}
use Rattle.demands.specs.Order.{ShowSame}

pub book_shows : (percent : ℕ) (one two : Lent) → one.book ≡ two.book → TrueTable (case_in percent one.book) one.flow one.table
    → TrueTable (case_in percent two.book) two.flow two.table → ShowSame percent one two
book_shows percent one two same t u = record {
  same_book = same;
  same_shown = tables_agree (case_in percent two.book) _ _ _ _
      (subst (λ (bs : List ℕ). TrueTable (case_in percent bs) one.flow one.table) same t) u;
}
