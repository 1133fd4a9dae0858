-- The way of a screen past its checks, step by step: what each call on it asks for, and how it ends.
use mathlib.Core.Path.{◌≡◌, refl}
use mathlib.Core.List.{List}
use Prim.Native.Nat.{ℕ, ◌*◌, ◌≤◌}
use native.Mathlib.Omega.{arith}
use lib.IntN.{ℤ, pos, ◌-ℤ◌}
use lib.ListN.{length, replicate}
use Rattle.std.specs.Prelude.{Some, None}
use Rattle.rows.specs.Row.{nth, headed}
use Rattle.quantity.specs.Signed.{pos_part, neg_part}
use Rattle.quantity.proofs.Limits.{full_at_most}
use Rattle.answer.specs.Answer.{Accepted, overloaded}
use Rattle.layout.specs.Book.{WellFormed}
use Rattle.layout.specs.Layout.{book_of}
use Rattle.layout.specs.Check.{check_of}
use Rattle.layout.proofs.WellFormed.{accepted_well}
use Rattle.book.specs.Inside.{RowsRead}
use Rattle.book.specs.declared.cases.CaseRows.{CaseRows}
use Rattle.search.specs.declared.Latent.{Latent}
use Rattle.reroute.specs.InsideVerdicts.{Basic, Based}
use Rattle.reroute.specs.declared.Judgement.{Judgement}
use Rattle.reroute.specs.declared.Shortfall.{Shortfall}
use Rattle.verdict.specs.Case.{Case, on}
use Rattle.verdict.proofs.Normal.{normal}
use Rattle.state.specs.Case.{case_in}
use Rattle.state.specs.Call.{lent_check, lent}
use Rattle.state.specs.Inside.{Held, State, Poised, Plannable, Planned, Fillable, Raisable, Raised, Rewritten}
use Rattle.state.specs.declared.Plan.{Plan}
use Rattle.state.proofs.Checked.{Passed, passed}
use Rattle.state.proofs.Opening.{plannable, held, held_live, gain_is, load_is}
use Rattle.state.proofs.Raising.{overload_normal, raisable, raised_state}
use Rattle.state.proofs.Base.{Answered, basic, based_answer, overload, fillable, state_left}
use Rattle.state.proofs.Status.{branches_of}
use Rattle.screen.specs.Promise.{ScreenEnds}
use Rattle.screen.proofs.ScreenEnd.{by_overload, by_table}

module _ (percent : ℕ) (bs : List ℕ) (flow : List ℤ) (table : List ℕ) (ok : lent_check percent bs (length flow) (length table) ≡ Accepted) where
  abbrev C : Case
  C = case_in percent bs

  passes : Passed percent bs (length flow) (length table)
  passes = passed bs (length flow) (length table) ok

  full : percent ≤ 100
  full = full_at_most passes.in_range

  well : WellFormed (book_of bs)
  well = accepted_well bs passes.book

  pub readable : (check_of bs ≡ Accepted) × (percent ≤ 100)
  readable = (passes.book, full)

  module _ (rows : CaseRows) (r : RowsRead percent (book_of bs) rows) where
    pub plannable_here : Plannable rows
    plannable_here = plannable (book_of bs) well rows r

    module _ (made : Plan) (p : Planned rows made) where
      hold : Held (normal C) made.wires made.served made.live
      hold = held_live (book_of bs) well rows r made p full

      -- The same by the limits that a loss is judged by.
      hold_loss : Held C made.wires made.served made.brief
      hold_loss = held (book_of bs) well rows r made p full

      gains : nth made.gain ≡ (λ i. pos_part (C.injection i))
      gains = gain_is (book_of bs) well rows r made p

      loads : nth made.load ≡ (λ i. neg_part (C.injection i))
      loads = load_is (book_of bs) well rows r made p

      flow_room : made.wires.branches ≤ length flow
      flow_room = omega (arith, hold.branches_are, branches_of percent bs, passes.flow_room)

      pub basic_here : Basic made.wires made.live made.gain made.load
      basic_here = basic (normal C) refl _ _ _ _ _ hold gains loads

      module _ (base : Judgement) (b : Based made.wires made.live made.gain made.load base) where
        -- The base flow's word on the case.
        word : Answered (normal C) made.wires made.live base
        word = based_answer (normal C) refl _ _ _ _ _ hold gains loads base b

        pub ends_short : (x : Shortfall) → base.short ≡ Some x → ScreenEnds percent (lent bs flow table) (lent bs flow table) (overloaded x.excess x.group)
        ends_short x s = by_overload percent bs flow table ok (overload_normal C _ (overload (normal C) _ _ _ hold base word x s))

        pub fillable_here : Fillable made.wires.branches made.live base.latent.ahead (length flow)
        fillable_here = fillable (normal C) _ _ _ hold base word _ flow_room

        module _ (carried : base.short ≡ None) (flow' : List ℤ)
            (flow-left : flow' ≡ headed made.wires.branches (λ k. pos (nth made.live k) -ℤ pos (nth base.latent.ahead k)) flow) where
          -- The flow that is left, and the rows as its state.
          left : State (normal C) (on flow') made.wires made.served made.live base.latent
          left = state_left (normal C) _ _ _ hold base word _ _ carried flow-left

          pub raisable_here : Raisable made.wires.branches made.live made.brief base.latent
          raisable_here = raisable C _ _ _ _ _ _ left hold_loss

          module _ (raised : Latent) (up : Raised made.wires.branches made.live made.brief base.latent raised) where
            lifted : State C (on flow') made.wires made.served made.brief raised
            lifted = raised_state C _ _ _ _ _ _ left hold_loss up

            pub poised_here : Poised made.wires made.served made.brief raised × (52 * made.wires.branches ≤ length table)
            poised_here = (
              record { case = C; flow = on flow'; state = lifted },
              omega (arith, hold.branches_are, branches_of percent bs, passes.table_room),
            )

            pub ends_screened : {table' : List ℕ} {losses : ℕ}
                → ((D : Case) (f : ℕ → ℤ) → State D f made.wires made.served made.brief raised → Rewritten D f made.served (replicate 32 255) table table' losses)
                → ScreenEnds percent (lent bs flow table) (lent bs flow' table') Accepted
            ends_screened fresh =
                by_table percent bs flow table ok _ refl hold.branches_are flow_room flow-left lifted.fits
                (fresh C (on flow') lifted) lifted.held.posed.few_branches
