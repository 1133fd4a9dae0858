-- A lent book and flow, surveyed: the rows are those of its case, and the test of the flow is whether it fits.
use mathlib.Core.Path.{◌≡◌, refl, ◌∙◌}
use mathlib.Core.List.{List}
use Prim.Native.Nat.{ℕ, ◌≤◌, ◌<◌}
use native.Mathlib.Omega.{arith}
use lib.IntN.{ℤ}
use lib.ListN.{length}
use Rattle.rows.specs.Row.{nth}
use Rattle.quantity.specs.Signed.{pos_part, neg_part}
use Rattle.layout.specs.Book.{WellFormed}
use Rattle.layout.specs.Layout.{branches_in, book_of}
use Rattle.layout.proofs.WellFormed.{accepted_well}
use Rattle.book.specs.Inside.{RowsRead}
use Rattle.book.specs.declared.cases.CaseRows.{CaseRows}
use Rattle.fit.specs.Inside.{Lendable, Fitted}
use Rattle.std.specs.Prelude.{Option}
use Rattle.search.specs.declared.Latent.{Latent}
use Rattle.quantity.specs.Inside.{kw_at}
use Rattle.quantity.proofs.Limits.{full_at_most}
use Rattle.verdict.proofs.Normal.{normal, fits_normal}
use Rattle.state.specs.Case.{case_of, case_in}
use Rattle.state.specs.Inside.{Held, Plannable, Planned, Surveyable, Surveyed}
use Rattle.state.specs.declared.Plan.{Plan}
use Rattle.state.specs.declared.Survey.{Survey}
use Rattle.state.proofs.Checked.{Passed}
use Rattle.state.proofs.Opening.{plannable, held, held_live, gain_is, load_is, small_injections}
use Rattle.state.proofs.Lending as lending
use Rattle.state.proofs.Status.{branches_of}

-- What passes the checks of every call can be surveyed.
pub surveyable : {percent : ℕ} {bs : List ℕ} {flows bytes : ℕ} → Passed percent bs flows bytes → Surveyable percent bs flows
surveyable h = record { full_at_most = full_at_most h.in_range; book = h.book; flow_room = h.flow_room }

-- A branch of the book surveyed.
module _ {percent : ℕ} {bs : List ℕ} {flow : List ℤ} {q : Survey} (p : Surveyed percent bs flow q) {b : ℕ} (there : b < branches_in bs) where
  pub branch_there : b < (case_in percent bs).branches
  branch_there = omega (arith, p.branches_are, p.held.branches_are)

  pub sizes : (q.wires.buses ≤ 128) × (q.wires.branches ≤ 256) × (b < q.wires.branches)
  sizes = (p.held.linked.wired.few, p.held.linked.wired.size, omega (arith, p.branches_are))

module _ {percent : ℕ} (bs : List ℕ) (flow : List ℤ) (ok : Surveyable percent bs (length flow)) (r : CaseRows)
    (h : RowsRead percent (book_of bs) r) where
  well : WellFormed (book_of bs)
  well = accepted_well bs ok.book

  pub plannable_here : Plannable r
  plannable_here = plannable (book_of bs) well r h

  losses_here : (k : ℕ) → kw_at r.loss k ≡ (case_in percent bs).loss_limit k
  unfolding case_of
  losses_here = h.loss_is

  module _ (q : Plan) (p : Planned r q) where
    held_here : Held (case_in percent bs) q.wires q.served q.brief
    held_here = held (book_of bs) well r h q p ok.full_at_most

    live_here : Held (normal (case_in percent bs)) q.wires q.served q.live
    live_here = held_live (book_of bs) well r h q p ok.full_at_most

    gains : nth q.gain ≡ (λ i. pos_part ((case_in percent bs).injection i))
    gains = gain_is (book_of bs) well r h q p

    loads : nth q.load ≡ (λ i. neg_part ((case_in percent bs).injection i))
    loads = load_is (book_of bs) well r h q p

    count_here : q.wires.branches ≡ branches_in bs
    count_here = held_here.branches_are ∙ branches_of percent bs

    pub lendable_here : Lendable q.wires q.live q.gain q.load (length flow)
    lendable_here =
        lending.lendable (normal (case_in percent bs)) refl q.wires q.served q.live q.gain q.load live_here gains loads (length flow)
        (omega (arith, ok.flow_room, count_here))
        (small_injections percent (book_of bs) well q.gain q.load gains loads)

    pub surveyed : (x : Option Latent) → Fitted q.wires flow q.live q.gain q.load x
        → Surveyed percent bs flow
        (record { wires = q.wires; served = q.served; loss = r.loss; live = q.live; brief = q.brief; latent = x })
    surveyed x d = record {
      held = held_here;
      branches_are = count_here;
      loss_is = losses_here;
      fitting = λ lat e. lending.fit_state (normal (case_in percent bs)) refl q.wires q.served q.live q.gain
          q.load live_here gains loads flow x d lat e;
      unfit = λ e F. lending.fit_not (normal (case_in percent bs)) refl q.wires q.served q.live q.gain
          q.load live_here gains loads flow x d e
          ((fits_normal (case_in percent bs) _ _).0 F);
    }
