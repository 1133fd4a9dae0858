-- Any two results that the promise of `bring_back` allows, from any table, have the same answer, book and flow and leave the same lent memory, but
-- for the free reroute bits of records that were written anew; the branch's own record has none.
use mathlib.Core.Path.{◌≡◌, refl, sym, ap, ◌∙◌}
use mathlib.Core.Logic.{⊎_elim}
use mathlib.Core.List.{List}
use Prim.Native.Nat.{ℕ}
use lib.IntN.{ℤ, pos}
use lib.Seq.{ext_get_or}
use Rattle.rows.specs.Row.{member}
use Rattle.answer.specs.Answer.{Answer, Accepted}
use Rattle.verdict.specs.Case.{Case, back, on}
use Rattle.verdict.specs.Record.{record_at}
use Rattle.verdict.specs.Update.{Lent}
use Rattle.verdict.proofs.Fitting.{posed_status}
use Rattle.state.proofs.Checked.{posed_passed}
use Rattle.restore.specs.Promise.{Anew, back_numbers, BackEnds}
use Rattle.restore.proofs.Checking.{returnable, back_gives}
use Rattle.restore.proofs.ToBeWritten.{anew?}
use Rattle.demands.specs.Same.{FreeBit, SameResult}
use Rattle.demands.proofs.Ends.{call-accepted?}
use Rattle.demands.proofs.Returns.{return_own}
use Rattle.demands.proofs.Unique.{Each}
use Rattle.demands.proofs.UniqueCalls.{lent_case, Either, Agree, ends_same}

-- No flow number is free.
abbrev pub NoFlow : ℕ → Type 0
NoFlow j = ⊥

-- Where both results write the records of one list, they agree on each.
one_list : {C : Case} {free L : ℕ → Type 0} {one two : Lent} {r s : Answer} → SameResult C free (Either L L) (Agree L L) one two r s
    → SameResult C free L Each one two r s
one_list {C} {free} {L} {one} {two} x = record {
  answers = x.answers;
  books = x.books;
  flows = x.flows;
  beyond = x.beyond;
  records = λ k l w.
      let a = x.records k l (λ m. m, λ m. m) in
      record { front = a.front; reroute = λ j n. a.reroute j (λ y. n (once k j y)); whole = λ n. a.whole (λ j y. n j (once k j y)) };
  refused_same = x.refused_same;
}
  where
    once : (k j : ℕ) → FreeBit C (Either L L) one two k j → FreeBit C L one two k j
    once k j y = record {
      anew = ⊎_elim (λ m. m) (λ m. m) y.anew;
      carrying = y.carrying;
      flowing = y.flowing;
      another = y.another;
      there = y.there;
      in_service = y.in_service;
    }

-- Two results of one return: the same but for free reroute bits, the same flow, and the same record of the branch itself.
pub record SameReturn (percent : ℕ) (before : Lent) (b : ℕ) (one two : Lent) (r s : Answer) : Type 0 where
  pub same : SameResult (back (lent_case percent before) b) NoFlow (Anew before.table b) Each one two r s
  pub same_flow : one.flow ≡ two.flow
  pub same_own : record_at one.table b ≡ record_at two.table b

-- From any table.
pub returns_same : {percent : ℕ} {before one two : Lent} {b : ℕ} {r s : Answer} → BackEnds percent b before one r → BackEnds percent b before two s
    → SameReturn percent before b one two r s
unfolding member
returns_same {percent} {before} {one} {two} {b} {r} {s} x y = record {
  same = all;
  same_flow = ext_get_or (pos 0) one.flow two.flow all.beyond.flow_long (λ j l. all.flows j (λ z. z));
  same_own = own (call-accepted? back_numbers refl refl (back_gives _ _ _ _ _) x);
}
  where
    all : SameResult (back (lent_case percent before) b) NoFlow (Anew before.table b) Each one two r s
    all = one_list
        (ends_same (lent_case percent before) (back (lent_case percent before) b) NoFlow (Anew before.table b) (Anew before.table b)
        (λ c. posed_status _ b _ (posed_passed (returnable _ _ _ b c).passes))
        (λ o. o.renewed) (λ o. o.renewed) (λ o u. o.book_is ∙ sym u.book_is)
        (λ o u j l n. ap (λ (f : List ℤ). on f j) (o.flow_is ∙ sym u.flow_is)) (anew? before.table b) x y)

    own : Dec (r ≡ Accepted) → record_at one.table b ≡ record_at two.table b
    own (yes a) = return_own x a ∙ sym (return_own y (sym all.answers ∙ a))
    own (no n) = ap (λ (l : Lent). record_at l.table b) (all.refused_same n)
