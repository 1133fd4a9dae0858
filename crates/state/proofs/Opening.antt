-- From an accepted book to the rows of its case, at any percentage.
use mathlib.Core.Path.{◌≡◌, refl, ap, ◌∙◌, fun_ext}
use mathlib.Core.Bool.{Bool, false}
use mathlib.Core.List.{List}
use Prim.Native.Nat.{ℕ, ◌≤◌, ◌<◌}
use native.Mathlib.Omega.{arith}
use lib.Dec.{eqb}
use lib.IntN.{pos}
use lib.ListN.{get_or, get_or-eq_default}
use Rattle.rows.specs.Row.{nth}
use Rattle.rows.specs.Sum.{pick}
use Rattle.rows.proofs.Sum.{side, below, equal, above}
use Rattle.quantity.specs.declared.Kw.{Kw}
use Rattle.quantity.specs.Inside.{kw_at}
use Rattle.quantity.specs.Rating.{limit_of}
use Rattle.quantity.specs.Signed.{pos_part, neg_part}
use Rattle.quantity.proofs.Parts.{size_parts}
use Rattle.quantity.proofs.Limits.{limit_within, limit_by_kva}
use Rattle.layout.specs.declared.Branch.{Branch}
use Rattle.layout.specs.Book.{Book, buses, count, injection, branch, no_branch, WellFormed}
use Rattle.book.specs.Inside.{RowsRead}
use Rattle.book.specs.declared.cases.CaseRows.{CaseRows}
use Rattle.verdict.specs.Case.{Posed}
use Rattle.state.specs.Case.{case_of}
use Rattle.verdict.proofs.Normal.{normal}
use Rattle.state.specs.Inside.{Live, Plannable, Planned, Held}
use Rattle.state.specs.declared.Plan.{Plan}
use Rattle.state.proofs.Raising.{held_normal}

-- A well-formed book makes a case that can be judged.
pub posed : {percent : ℕ} (b : Book) → percent ≤ 100 → WellFormed b → Posed (case_of percent b)
unfolding case_of
posed {percent} b full w = record {
  some_bus = w.some_bus;
  few_buses = w.few_buses;
  few_branches = w.few_branches;
  first_in = λ k u. (w.good k u).first_there;
  second_in = λ k u. (w.good k u).second_there;
  apart = λ k u. (w.good k u).apart;
  sized = λ i u. omega (arith, w.sizes i u, size_parts (injection b i));
  balanced = w.balanced;
  rated = λ k u. omega (arith, limit_within (branch b k).kva2.0 b.factor percent w.small_factor full, (w.good k u).second_rating);
  rising = λ k u. limit_by_kva b.factor percent (w.good k u).not_below;
}

module _ {percent : ℕ} (b : Book) (w : WellFormed b) (r : CaseRows) (h : RowsRead percent b r) where
  pub plannable : Plannable r
  plannable = record {
    wired = record {
      few = omega (arith, w.few_buses, h.buses_are);
      size = omega (arith, w.few_branches, h.branches_are);
      first_in = λ k u. omega (arith, h.first_is k, h.buses_are, (w.good k (omega (arith, h.branches_are))).first_there);
      second_in = λ k u. omega (arith, h.second_is k, h.buses_are, (w.good k (omega (arith, h.branches_are))).second_there);
    };
  }

  module _ (q : Plan) (p : Planned r q) where
    -- Past the last branch nothing is in service.
    past : (k : ℕ) → count b ≤ k → branch b k ≡ no_branch
    past k u = get_or-eq_default b.branches no_branch {n = k} u

    -- A row of live limits, by either figure of a branch.
    row_at_lem : (g : Branch → ℕ) (limit : List Kw) (row : List ℕ) → Live r.branches r.served limit row
        → ((k : ℕ) → kw_at limit k ≡ limit_of (g (branch b k)) b.factor percent)
        → (k : ℕ) → nth row k ≡ pick (eqb (branch b k).status 1) (limit_of (g (branch b k)) b.factor percent)
    row_at_lem g limit row live is k = elim (side k (count b)) [
      | below l ↦ within l
      | equal l ↦ beyond (omega arith)
      | above l ↦ beyond (omega arith)
    ]
      where
        within : k < count b → nth row k ≡ pick (eqb (branch b k).status 1) (limit_of (g (branch b k)) b.factor percent)
        within l = live.in_service k (omega (arith, h.branches_are)) ∙ rw (h.served_is k, is k) refl

        beyond : count b ≤ k → nth row k ≡ pick (eqb (branch b k).status 1) (limit_of (g (branch b k)) b.factor percent)
        beyond l = live.elsewhere k (omega (arith, h.branches_are)) ∙ rw (past k l) refl

    pub held : percent ≤ 100 → Held (case_of percent b) q.wires q.served q.brief
    unfolding case_of
    held full = record {
      posed = posed b full w;
      linked = p.wiring.linked;
      buses_are = p.wiring.same_buses ∙ h.buses_are;
      branches_are = p.wiring.same_branches ∙ h.branches_are;
      first_is = ap nth p.wiring.same_first ∙ fun_ext h.first_is;
      second_is = ap nth p.wiring.same_second ∙ fun_ext h.second_is;
      served_is = λ k. ap (λ (l : List Bool). get_or l k false) p.same_served ∙ h.served_is k;
      live_is = fun_ext (row_at_lem (λ x. x.kva2.0) r.loss q.brief p.brief_row h.loss_is);
    }

    pub held_live : percent ≤ 100 → Held (normal (case_of percent b)) q.wires q.served q.live
    unfolding case_of
    held_live full = held_normal (case_of percent b) q.wires q.served q.brief q.live (held full)
        (fun_ext (row_at_lem (λ x. x.kva.0) r.limit q.live p.live_row h.limit_is))

    pub gain_is : nth q.gain ≡ (λ i. pos_part ((case_of percent b).injection i))
    unfolding case_of
    gain_is = ap nth p.same_gain ∙ fun_ext h.gain_is

    pub load_is : nth q.load ≡ (λ i. neg_part ((case_of percent b).injection i))
    unfolding case_of
    load_is = ap nth p.same_load ∙ fun_ext h.load_is

-- Gains and loads are small at every bus, and past the last one.
pub small_injections : (percent : ℕ) (b : Book) → WellFormed b → (gain load : List ℕ) → nth gain ≡ (λ i. pos_part ((case_of percent b).injection i))
    → nth load ≡ (λ i. neg_part ((case_of percent b).injection i))
    → (i : ℕ) → (nth gain i ≤ 2000000) × (nth load i ≤ 2000000)
unfolding case_of
small_injections percent b w gain load g l i =
    let gi : nth gain i ≡ pos_part (injection b i) = ap (λ (m : ℕ → ℕ). m i) g in
    let li : nth load i ≡ neg_part (injection b i) = ap (λ (m : ℕ → ℕ). m i) l in
    elim (side i (buses b)) [
      | below u ↦ (omega (arith, gi, w.sizes i u, size_parts (injection b i)), omega (arith, li, w.sizes i u, size_parts (injection b i)))
      | equal u ↦ none (omega arith) gi li
      | above u ↦ none (omega arith) gi li
    ]
  where
    none : buses b ≤ i → nth gain i ≡ pos_part (injection b i) → nth load i ≡ neg_part (injection b i) → (nth gain i ≤ 2000000) × (nth load i ≤ 2000000)
    none u gi li =
        let e : injection b i ≡ pos 0 = get_or-eq_default b.injections (pos 0) {n = i} u in
        (omega (arith, gi, ap pos_part e), omega (arith, li, ap neg_part e))
