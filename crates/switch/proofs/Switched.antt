-- The rows of a case with one branch's status switched are the rows of the case so switched.
use mathlib.Core.Path.{◌≡◌, refl, ◌∙◌, fun_ext}
use mathlib.Core.Bool.{Bool, false, cond}
use mathlib.Core.List.{List}
use Prim.Native.Nat.{ℕ, ◌<◌}
use native.Mathlib.Omega.{arith}
use native.Mathlib.Decide.{ℕ_discrete}
use borrow.Author.Tests.{eq-eqb, ne_eqb}
use lib.Dec.{eqb}
use lib.ListN.{length, get_or, set}
use lib.Seq.{get_or-set_same, get_or-set_other}
use Rattle.rows.specs.Row.{nth}
use Rattle.rows.specs.Sum.{pick}
use Rattle.search.specs.declared.Wires.{Wires}
use Rattle.verdict.specs.Case.{Case, with_status}
use Rattle.verdict.proofs.Fitting.{posed_status}
use Rattle.state.specs.Inside.{Held}
use Rattle.state.proofs.TrueRecords.{held_limit}

module _ (C : Case) (W : Wires) (served : List Bool) (live : List ℕ) (h : Held C W served live) (long-served : length served ≡ 256) (long-live : length live ≡ 256)
    (k : ℕ) (few : k < 256) (s : Bool) (x : ℕ) (limit : x ≡ pick s (C.loss_limit k)) where
  served_at : (j : ℕ) → get_or (set served k s) j false ≡ cond (eqb j k) s (C.served j)
  served_at j = go (ℕ_discrete j k)
    where
      go : Dec (j ≡ k) → get_or (set served k s) j false ≡ cond (eqb j k) s (C.served j)
      go (yes e) = rw (e, eq-eqb k k refl) (get_or-set_same served k s false (omega arith))
      go (no n) = rw (ne_eqb j k n) (get_or-set_other served k j s false n ∙ h.served_is j)

  live_at : (j : ℕ) → nth (set live k x) j ≡ pick (cond (eqb j k) s (C.served j)) (C.loss_limit j)
  live_at j = go (ℕ_discrete j k)
    where
      go : Dec (j ≡ k) → nth (set live k x) j ≡ pick (cond (eqb j k) s (C.served j)) (C.loss_limit j)
      go (yes e) = rw (e, eq-eqb k k refl) (get_or-set_same live k x 0 (omega arith) ∙ limit)
      go (no n) = rw (ne_eqb j k n) (get_or-set_other live k j x 0 n ∙ held_limit C W served live h j)

  pub held_switched : Held (with_status C k s) W (set served k s) (set live k x)
  held_switched = record {
    posed = posed_status C k s h.posed;
    linked = h.linked;
    buses_are = h.buses_are;
    branches_are = h.branches_are;
    first_is = h.first_is;
    second_is = h.second_is;
    served_is = served_at;
    live_is = fun_ext live_at;
  }
