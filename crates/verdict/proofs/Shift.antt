-- Load moved between two buses: what their injections become, that the other way it is taken back, and that a true table stays true.
use mathlib.Core.Path.{◌≡◌, refl, sym, fun_ext}
use Prim.Native.Nat.{ℕ, ◌+◌}
use native.Mathlib.Omega.{arith}
use native.Mathlib.Decide.{ℕ_discrete}
use borrow.Author.Tests.{eq-eqb, ne_eqb}
use lib.Dec.{eqb}
use lib.IntN.{ℤ, pos, ◌+ℤ◌, ◌-ℤ◌, ℤ_discrete}
use Rattle.rows.specs.Sum.{pick}
use Rattle.quantity.specs.Signed.{pos_part, neg_part}
use Rattle.quantity.proofs.Parts.{by_parts, add_parts, minus_parts}
use Rattle.verdict.specs.Case.{Case, Posed, shifted, on}
use Rattle.verdict.specs.Record.{TrueTable}
use Rattle.verdict.specs.Update.{Lent, FlowChanged, Shortlisted, Updated}
use Rattle.verdict.proofs.Keep.{Wired, stable}
use Rattle.verdict.proofs.Updates.{stays_true, shortlisted?, keep}

-- ---- The injections.
module _ (C : Case) (up down kw : ℕ) (apart : up ≡ down → ⊥) where
  pub shift_up : (shifted C up down kw).injection up ≡ C.injection up +ℤ pos kw
  shift_up = rw (eq-eqb up up refl) refl

  pub shift_down : (shifted C up down kw).injection down ≡ C.injection down -ℤ pos kw
  shift_down = rw (ne_eqb down up (λ e. apart (sym e)), eq-eqb down down refl) refl

  pub shift_other : (i : ℕ) → (i ≡ up → ⊥) → (i ≡ down → ⊥) → (shifted C up down kw).injection i ≡ C.injection i
  shift_other i n m = rw (ne_eqb i up n, ne_eqb i down m) refl

  -- By parts: kw more at the one bus, and less at the other.
  pub shift_parts : (i : ℕ) → pos_part ((shifted C up down kw).injection i) + neg_part (C.injection i) + pick (eqb down i) kw
      ≡ pos_part (C.injection i) + neg_part ((shifted C up down kw).injection i) + pick (eqb up i) kw
  shift_parts i = go (ℕ_discrete i up) (ℕ_discrete i down)
    where
      go : Dec (i ≡ up) → Dec (i ≡ down) → pos_part ((shifted C up down kw).injection i) + neg_part (C.injection i) + pick (eqb down i) kw
          ≡ pos_part (C.injection i) + neg_part ((shifted C up down kw).injection i) + pick (eqb up i) kw
      go (yes e) d = rw (e, shift_up, eq-eqb up up refl, ne_eqb down up (λ q. apart (sym q))) (omega (arith, add_parts (C.injection up) (pos kw)))
      go (no n) (yes e) = rw (e, shift_down, eq-eqb down down refl, ne_eqb up down apart) (omega (arith, minus_parts (C.injection down) (pos kw)))
      go (no n) (no m) = rw (shift_other i n m, ne_eqb up i (λ q. n (sym q)), ne_eqb down i (λ q. m (sym q))) (omega arith)

-- There and back is the case as it was.
pub shift_back : (C : Case) (up down kw : ℕ) → (up ≡ down → ⊥) → shifted (shifted C up down kw) down up kw ≡ C
shift_back C up down kw apart =
    let D = shifted C up down kw in
    let s : (shifted D down up kw).injection ≡ C.injection = fun_ext (λ i. by_parts _ _ (omega (
      arith,
      shift_parts C up down kw apart i,
      shift_parts D down up kw (λ e. apart (sym e)) i,
    ))) in
    λ i. record {
      buses = C.buses;
      branches = C.branches;
      first = C.first;
      second = C.second;
      served = C.served;
      injection = s i;
      limit = C.limit;
      loss_limit = C.loss_limit;
    }

-- ---- What may be kept.
pub wired_shift : (C : Case) (up down kw : ℕ) → Wired C (shifted C up down kw)
wired_shift C up down kw = record { same_buses = refl; same_branches = refl; same_first = refl; same_second = refl; same_limit = refl }

pub flow_changed? : (f g : ℕ → ℤ) (j : ℕ) → Dec (FlowChanged f g j)
flow_changed? f g j = elim (ℤ_discrete (f j) (g j)) [ yes e ↦ no (λ n. n e) | no n ↦ yes n ]

-- A true table stays true with changed injections.
pub shift_true : (C : Case) (up down kw : ℕ) (before after : Lent) → Posed (shifted C up down kw) → TrueTable C before.flow before.table
    → Updated (shifted C up down kw) (FlowChanged (on before.flow) (on after.flow)) before after
    → TrueTable (shifted C up down kw) after.flow after.table
shift_true C up down kw before after p t o =
    let D = shifted C up down kw in
    let touched = FlowChanged (on before.flow) (on after.flow) in
    stays_true C D (Shortlisted D before.table touched) before after refl
    (shortlisted? D before.table touched (flow_changed? (on before.flow) (on after.flow)))
    (λ k u n r. keep C D touched before.flow after.flow before.table k (wired_shift C up down kw) p t.fits o.fits u
    (λ j l h. (sym (stable _ _ h), refl)) n r) t o
