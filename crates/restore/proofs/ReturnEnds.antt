-- Each way in which a return ends meets its promise.
use mathlib.Core.Path.{◌≡◌, refl, ◌∙◌}
use mathlib.Core.Bool.{Bool, true}
use mathlib.Core.List.{List}
use Prim.Native.Nat.{ℕ, ◌*◌, ◌≤◌, ◌<◌}
use native.Mathlib.Omega.{arith}
use lib.IntN.{ℤ}
use lib.ListN.{length}
use Rattle.std.specs.Prelude.{None, Some}
use Rattle.rows.specs.Row.{member}
use Rattle.answer.specs.declared.Refusal.TheVariants.{FlowUnfit}
use Rattle.answer.specs.Answer.{Answer, Accepted, refused}
use Rattle.answer.proofs.Said.{said_accepted, said_refused}
use Rattle.answer.proofs.Numbers.{gives_said}
use Rattle.quantity.specs.Inside.{kw_at}
use Rattle.bits.specs.Field.{set_bit}
use Rattle.layout.specs.Layout.{status_bit}
use Rattle.search.specs.declared.Latent.{Latent}
use Rattle.verdict.specs.Case.{Case, back, on}
use Rattle.state.specs.Case.{case_in}
use Rattle.state.specs.Call.{lent, refuses, unfit, accepts}
use Rattle.state.specs.Inside.{State, Surveyed, Raisable, Raised, Poised, Listing, Rewritten}
use Rattle.state.specs.declared.Survey.{Survey}
use Rattle.state.proofs.Raising.{raisable, raised_state}
use Rattle.state.proofs.Rewriting.{renewed}
use Rattle.state.proofs.Surveying.{branch_there, sizes}
use Rattle.state.proofs.Status.{restates}
use Rattle.switch.specs.Inside.{With}
use Rattle.restore.specs.Inside.{anew_at}
use Rattle.restore.specs.Promise.{back_check, back_numbers, Anew, itself, BackEnds}
use Rattle.restore.proofs.Checking.{Returnable, returnable, back_gives}
use Rattle.restore.proofs.ToBeWritten.{anew_listed, anew_unlisted}
use Rattle.restore.proofs.StateBack as comeback

module _ (percent : ℕ) (bs : List ℕ) (flow : List ℤ) (table : List ℕ) (b : ℕ) where
  abbrev checks : Answer
  checks = back_check percent bs (length flow) (length table) b

  abbrev C : Case
  C = case_in percent bs

  -- Refused by its checks.
  pub ends_refused : {r : Answer} (o : Answer) → o ≡ checks → (o ≡ Accepted → ⊥) → r ≡ o
      → BackEnds percent b (lent bs flow table) (lent bs flow table) r
  unfolding member
  ends_refused o e n a = refuses (λ q. n (e ∙ q))
      (gives_said back_numbers checks refl (back_gives percent bs (length flow) (length table) b) (a ∙ e)) refl

  module _ (ok : checks ≡ Accepted) where
    pub may : Returnable percent bs (length flow) (length table) b
    may = returnable bs (length flow) (length table) b ok

    pub ends_unfit : {q : Survey} {r : Answer} → Surveyed percent bs flow q → q.latent ≡ None → r ≡ refused FlowUnfit
        → BackEnds percent b (lent bs flow table) (lent bs flow table) r
    ends_unfit p e a = unfit ok (p.unfit e) (rw a (said_refused FlowUnfit (λ z. omega arith))) refl

    module _ (q : Survey) (p : Surveyed percent bs flow q) (lat : Latent) (e : q.latent ≡ Some lat) where
      there : b < C.branches
      there = branch_there p may.there

      -- The sizes that the calls on the way ask for.
      pub below_here : b < 256
      below_here = let s = sizes p may.there in omega (arith, s.1, s.2)

      pub listed_here : (q.wires.branches ≤ 256) × (52 * q.wires.branches ≤ length table)
      listed_here = ((sizes p may.there).1, omega (arith, may.passes.table_room, p.branches_are))

      pub raisable_here : Raisable q.wires.branches q.live q.brief lat
      raisable_here = raisable C (on flow) q.wires q.served q.live q.brief lat (p.fitting lat e) p.held

      module _ (up : Latent)
          (raised : Raised q.wires.branches q.live q.brief lat up)
          {served : List Bool} {brief ahead back_row : List ℕ}
          (served_is : With q.served b true served) (brief-is : With q.brief b (kw_at q.loss b) brief)
          (ahead_is : With up.ahead b (kw_at q.loss b) ahead) (back_is : With up.back b (kw_at q.loss b) back_row) where
        state : State C (on flow) q.wires q.served q.brief up
        state = raised_state C (on flow) q.wires q.served q.live q.brief lat (p.fitting lat e) p.held raised

        abbrev left : Latent
        left = record { ahead = ahead; back = back_row }

        state_here : State (back C b) (on flow) q.wires served brief left
        state_here = rw (served_is.row_is, brief-is.row_is, ahead_is.row_is, back_is.row_is)
            (comeback.state_back C (on flow) q.wires q.served q.brief up state b there may.out_now (kw_at q.loss b) (p.loss_is b)
            served_is.long brief-is.long ahead_is.long back_is.long)

        pub poised_here : Poised q.wires served brief left
        poised_here = record { case = back C b; flow = on flow; state = state_here }

        pub ends_back : {bs' table' bits : List ℕ} {losses : ℕ} {r : Answer} → r ≡ Accepted → Listing q.wires.branches (anew_at table b) bits
            → bs' ≡ set_bit bs (status_bit bs b) 1
            → ((D : Case) (f : ℕ → ℤ) → State D f q.wires served brief left → Rewritten D f served bits table table' losses)
            → BackEnds percent b (lent bs flow table) (lent bs' flow table') r
        ends_back {bs'} {table'} {bits} a list book_is fresh =
            let c = restates percent bs b 1 may.passes.book may.there (omega arith) in
            let redone = (fresh (back C b) (on flow) state_here).table_is in
            let bit : (k : ℕ) → k < C.branches → k < q.wires.branches = λ k u. omega (arith, p.held.branches_are) in
            let anew = renewed (back C b) (Anew table b) state_here.fits redone
            (λ k u h. list.bit k (bit k u) ∙ anew_listed table b k h) (λ k u h. list.bit k (bit k u) ∙ anew_unlisted table b k h) refl
            (λ k u. refl) in
            accepts ok state.fits (rw a said_accepted) (record {
              book_is = book_is;
              book_accepted = rw book_is c.book;
              case_is = rw book_is c.case_is;
              flow_is = refl;
              own_is = comeback.own_back C (on flow) q.wires q.served q.brief up state b there may.out_now (kw_at q.loss b)
                  (p.loss_is b)
                  served_is.long brief-is.long ahead_is.long back_is.long _ (anew.rewritten b there (itself refl));
              renewed = anew;
            })
