-- The verdict of a branch that is short, by each way that tells whether its loss would island.
use mathlib.Core.Path.{◌≡◌, refl, sym, ap, ◌∙◌, subst}
use mathlib.Core.Bool.{Bool, true, false, not, ◌&&◌, cond}
use mathlib.Core.List.{List}
use Prim.Native.Nat.{ℕ, ◌+◌, ◌-◌, ◌≤◌, ◌<◌}
use native.Mathlib.Omega.{arith}
use borrow.Author.Tests.{ne_eqb}
use lib.Dec.{eqb, ltb}
use lib.IntN.{ℤ, nat_abs}
use lib.ListN.{get_or, replicate, get_or-replicate}
use Rattle.rows.specs.Row.{nth, some}
use Rattle.rows.specs.Bit.{has}
use Rattle.rows.specs.Sum.{differ, pick}
use Rattle.rows.proofs.Row.{no_some}
use Rattle.rows.proofs.Sum.{pick_part}
use Rattle.quantity.proofs.Parts.{one_side, size_parts}
use Rattle.quantity.specs.Inside.{in_kw}
use Rattle.grid.specs.Reach.{OnIsland}
use Rattle.grid.proofs.Islands.{island_as}
use Rattle.search.specs.declared.Wires.{Wires}
use Rattle.search.specs.declared.Latent.{Latent}
use Rattle.island.specs.Inside.{opened, JoinedBy, Joining, leaves_at}
use Rattle.verdict.specs.Case.{Case, out}
use Rattle.verdict.specs.Excess.{Short}
use Rattle.verdict.specs.Island.{Joined, ShortNumber, joined, islands}
use Rattle.verdict.proofs.Islanding.{shut_islands, less_joined}
use Rattle.state.specs.Inside.{State, Live}
use Rattle.state.proofs.TrueRecords.{limit_at}

-- In the row of ones a branch in service is open, whatever its limit.
pub record Open (n : ℕ) (served : List Bool) (ways : List ℕ) : Type 0 where
  pub way : (k : ℕ) → k < n → opened ways k ≡ get_or served k false

pub all_open : {n : ℕ} {served : List Bool} {ways : List ℕ} → n ≤ 256 → Live n served (replicate 256 (in_kw 1)) ways → Open n served ways
all_open {n} {served} {ways} few l = record {
  way = λ k u. rw (l.in_service k u, get_or-replicate 256 k (in_kw 1) (in_kw 0) (omega arith)) (one (get_or served k false));
}
  where
    one : (s : Bool) → ltb 0 (pick s 1) ≡ s
    one true = refl
    one false = refl

pub at_most_one : {n : ℕ} {served : List Bool} {ways : List ℕ} → n ≤ 256 → Live n served (replicate 256 (in_kw 1)) ways
    → (k : ℕ) → k < n → nth ways k ≤ 1
at_most_one {n} {served} {ways} few l k u =
    rw (l.in_service k u, get_or-replicate 256 k (in_kw 1) (in_kw 0) (omega arith)) (pick_part (get_or served k false) 1)

module _ (C : Case) (f : ℕ → ℤ) (W : Wires) (served : List Bool) (live : List ℕ) (lat : Latent) (s : State C f W served live lat)
    (k : ℕ) (there : k < W.branches) where
  in_case : k < C.branches
  in_case = rw (← s.held.branches_are) there

  first_at : (j : ℕ) → nth W.first j ≡ C.first j
  first_at j = ap (λ (l : ℕ → ℕ). l j) s.held.first_is

  second_at : (j : ℕ) → nth W.second j ≡ C.second j
  second_at j = ap (λ (l : ℕ → ℕ). l j) s.held.second_is

  flow_size : nat_abs (f k) ≡ (nth live k - nth lat.ahead k) + (nth lat.ahead k - nth live k)
  flow_size = omega (arith, s.latents.ahead_is k in_case, limit_at C f W served live lat s k, one_side (f k), size_parts (f k))

  -- Short by less than its flow.
  pub number_less : (e : ℕ) (g : List ℕ) → Short C k e (has g) → (e ≡ (nth live k - nth lat.ahead k) + (nth lat.ahead k - nth live k) → ⊥)
      → ShortNumber C k 2
  number_less e g h n =
      joined (less_joined C f k s.held.posed s.fits e (has g) in_case h (λ q. n (q ∙ flow_size))) refl

  -- No other branch in service leaves the group.
  pub number_shut : (e : ℕ) (g : List ℕ) → Short C k e (has g) → some W.branches (leaves_at W served k g) ≡ false → ShortNumber C k 3
  unfolding leaves_at
  number_shut e g h none = islands (shut_islands C k (has g) h.admitted (record { whole = whole })) refl
    where
      stays : (a b t : Bool) → a ≡ true → b ≡ false → (a && not b) && t ≡ false → t ≡ false
      stays a b t p q r = rw (p, q) at r

      whole : (j : ℕ) → j < C.branches → (j ≡ k → ⊥) → C.served j ≡ true → differ (has g (C.first j)) (has g (C.second j)) ≡ false
      whole j u n o =
          rw (← first_at j, ← second_at j)
          (stays (get_or served j false) (eqb j k) _ (s.held.served_is j ∙ o) (ne_eqb j k n)
          (no_some (leaves_at W served k g) W.branches none j (rw s.held.branches_are u)))

  -- ---- By the search.
  serves : (ways : List ℕ) → Open W.branches served ways → (j : ℕ) → j < W.branches
      → cond (eqb j k) false (opened ways j) ≡ (out C k).served j
  serves ways o j u = ap (cond (eqb j k) false) (o.way j u ∙ s.held.served_is j)

  to_case : (ways : List ℕ) → Open W.branches served ways → JoinedBy W ways k → Joined C k
  to_case ways o p =
      subst (λ (v : ℕ). OnIsland C.branches C.first C.second (out C k).served (C.first k) v) (second_at k)
      (subst (λ (u : ℕ). OnIsland C.branches C.first C.second (out C k).served u (nth W.second k)) (first_at k)
      (island_as s.held.branches_are first_at second_at (λ j u e. sym (serves ways o j u) ∙ e) p))

  from_case : (ways : List ℕ) → Open W.branches served ways → Joined C k → JoinedBy W ways k
  from_case ways o p =
      let on : ℕ → Bool = λ j. cond (eqb j k) false (opened ways j) in
      subst (λ (v : ℕ). OnIsland W.branches (nth W.first) (nth W.second) on (nth W.first k) v) (sym (second_at k))
      (subst (λ (u : ℕ). OnIsland W.branches (nth W.first) (nth W.second) on u (C.second k)) (sym (first_at k))
      (island_as (sym s.held.branches_are) (λ j. sym (first_at j)) (λ j. sym (second_at j))
      (λ j u e. serves ways o j (rw s.held.branches_are u) ∙ e) p))

  pub number_path : {ways : List ℕ} {r : Bool} → Open W.branches served ways → Joining W ways k r → r ≡ true → ShortNumber C k 2
  number_path {ways} o j e = joined (to_case ways o (j.path e)) refl

  pub number_none : {ways : List ℕ} {r : Bool} → Open W.branches served ways → Joining W ways k r → r ≡ false → ShortNumber C k 3
  number_none {ways} o j e = islands (λ p. j.no_path e (from_case ways o p)) refl
