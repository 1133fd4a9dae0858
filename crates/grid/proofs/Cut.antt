-- Laws of cuts: what a flow with leftovers says of every group, and the smallest group with the largest excess.
use mathlib.Core.Path.{◌≡◌, refl, sym, ap, ◌∙◌}
use mathlib.Core.Bool.{Bool, true, false, true≢false, false≢true}
use Prim.Native.Nat.{ℕ, zero, suc, ◌+◌, ◌≤◌, ◌<◌}
use native.Mathlib.Omega.{arith}
use Rattle.rows.specs.Sum.{Group, all, pick, over, differ}
use Rattle.rows.proofs.Sum.{over_zero, over_add, over_same, over_ends, pick_part, over_all, over_term, over_tight, below, equal, above, side}
use Rattle.grid.proofs.Net.{Net, EndsThere, crosses, gains, loads}
use Rattle.grid.proofs.Flow.{Flow, Within, at_end, leaves, arrives, Balanced, Closed}
use Rattle.grid.specs.Reach.{here, onward}
use Rattle.grid.proofs.ReachBySteps.{Reached, Roomy, along, against, Surplus}
use Rattle.grid.proofs.Excess.{Exceeds, AtMost, Smallest}
use Rattle.grid.proofs.ReachWithin.{reach_within}

-- What leaves the buses of S, and what arrives there, summed over branches.
abbrev pub outward : Net → Flow → Group → ℕ
outward N f S = over N.branches (λ k. S (N.first k)) f.ahead + over N.branches (λ k. S (N.second k)) f.back

abbrev pub inward : Net → Flow → Group → ℕ
inward N f S = over N.branches (λ k. S (N.second k)) f.ahead + over N.branches (λ k. S (N.first k)) f.back

-- The balance of a group.
pub whole : (N : Net) (f : Flow) (l d : ℕ → ℕ) → EndsThere N → Balanced N f l d → (S : Group) → gains N S + inward N f S + over N.buses S d ≡ loads N S + outward N f S + over N.buses S l
whole N f l d e b S =
    let n = N.buses in
    let at : over n S (λ i. N.gain i + arrives N f i + d i) ≡ over n S (λ i. N.load i + leaves N f i + l i) = over_same n S S _ _ (λ i u. ap (pick (S i)) (b.bus i u)) in
    omega (
      arith,
      at,
      over_add n S (λ i. N.gain i + arrives N f i) d,
      over_add n S N.gain (arrives N f),
      over_add n S (at_end N N.second f.ahead) (at_end N N.first f.back),
      over_add n S (λ i. N.load i + leaves N f i) l,
      over_add n S N.load (leaves N f),
      over_add n S (at_end N N.first f.ahead) (at_end N N.second f.back),
      over_ends n N.branches S N.first f.ahead e.first_in,
      over_ends n N.branches S N.second f.ahead e.second_in,
      over_ends n N.branches S N.first f.back e.first_in,
      over_ends n N.branches S N.second f.back e.second_in,
    )

-- One branch.
step : (s t : Bool) (a b c : ℕ) → a ≤ b + c → b ≤ a + c → pick s a + pick t b ≤ pick t a + pick s b + pick (differ s t) c
step true true a b c h g = omega arith
step true false a b c h g = omega arith
step false true a b c h g = omega arith
step false false a b c h g = omega arith

step_full : (s t : Bool) (a b c : ℕ) → (s ≡ true → t ≡ false → a ≡ b + c) → (s ≡ false → t ≡ true → b ≡ a + c) → pick s a + pick t b ≡ pick t a + pick s b + pick (differ s t) c
step_full true true a b c h g = omega arith
step_full true false a b c h g = omega (arith, h refl refl)
step_full false true a b c h g = omega (arith, g refl refl)
step_full false false a b c h g = omega arith

full_step : (s t : Bool) (a b c : ℕ) → pick s a + pick t b ≡ pick t a + pick s b + pick (differ s t) c → (s ≡ true → t ≡ false → a ≡ b + c) × (s ≡ false → t ≡ true → b ≡ a + c)
full_step true true a b c h = (λ p q. absurd (true≢false q), λ p q. absurd (true≢false p))
full_step true false a b c h = (λ p q. omega arith, λ p q. absurd (true≢false p))
full_step false true a b c h = (λ p q. absurd (true≢false q), λ p q. omega arith)
full_step false false a b c h = (λ p q. absurd (false≢true p), λ p q. absurd (false≢true q))

-- The same for the first m branches.
module _ (N : Net) (f : Flow) (S : Group) where
  out_to : ℕ → ℕ
  out_to m = over m (λ k. S (N.first k)) f.ahead + over m (λ k. S (N.second k)) f.back

  in_to : ℕ → ℕ
  in_to m = over m (λ k. S (N.second k)) f.ahead + over m (λ k. S (N.first k)) f.back + over m (crosses N S) N.limit

  at_most : Within N f → (m : ℕ) → m ≤ N.branches → out_to m ≤ in_to m
  unfolding over out_to in_to
  at_most w zero h = omega arith
  at_most w (suc m) h = omega (arith, at_most w m (omega arith), step (S (N.first m)) (S (N.second m)) (f.ahead m) (f.back m) (N.limit m) (w.ahead_fits m h) (w.back_fits m h))

  exactly : Closed N f S → (m : ℕ) → m ≤ N.branches → out_to m ≡ in_to m
  unfolding over out_to in_to
  exactly w zero h = refl
  exactly w (suc m) h = omega (arith, exactly w m (omega arith), step_full (S (N.first m)) (S (N.second m)) (f.ahead m) (f.back m) (N.limit m) (w.out_ahead m h) (w.out_back m h))

  each : Within N f → (m : ℕ) → m ≤ N.branches → out_to m ≡ in_to m → (k : ℕ) → k < m → pick (S (N.first k)) (f.ahead k) + pick (S (N.second k)) (f.back k) ≡ pick (S (N.second k)) (f.ahead k) + pick (S (N.first k)) (f.back k) + pick (crosses N S k) (N.limit k)
  unfolding over out_to in_to
  each w zero h e k u = absurd (omega arith)
  each w (suc m) h e k u =
      let rest = at_most w m (omega arith) in
      let last = step (S (N.first m)) (S (N.second m)) (f.ahead m) (f.back m) (N.limit m) (w.ahead_fits m h) (w.back_fits m h) in
      elim (side k m) [
        | below l ↦ each w m (omega arith) (omega arith) k l
        | equal l ↦ rw l (omega arith)
        | above l ↦ absurd (omega arith)
      ]

-- What the theorems assume of a flow.
pub record Settled (N : Net) (f : Flow) (l d : ℕ → ℕ) : Type 0 where
  pub ends : EndsThere N
  pub within : Within N f
  pub balanced : Balanced N f l d

-- What a group with the whole surplus for its excess is like.
pub record Tight (N : Net) (f : Flow) (l d : ℕ → ℕ) (R : Group) : Type 0 where
  pub closed : Closed N f R
  pub surplus : (i : ℕ) → i < N.buses → 0 < l i → R i ≡ true
  pub served : (i : ℕ) → i < N.buses → R i ≡ true → d i ≡ 0

-- No step over spare capacity leaves a closed group.
closed_keeps : (N : Net) (f : Flow) (R : Group) → Closed N f R → (u v : ℕ) → Roomy N f u v → R u ≡ true → R v ≡ true
closed_keeps N f R c u v (along k b p q g) r = go (R v) refl
  where
    go : (t : Bool) → R v ≡ t → R v ≡ true
    go true e = e
    go false e = absurd (omega (arith, c.out_ahead k b (rw p r) (rw q e)))
closed_keeps N f R c u v (against k b p q g) r = go (R v) refl
  where
    go : (t : Bool) → R v ≡ t → R v ≡ true
    go true e = e
    go false e = absurd (omega (arith, c.out_back k b (rw q e) (rw p r)))

-- A group with the reached buses and no others is closed.
pub reached_closed : (N : Net) (f : Flow) (start : ℕ → Type 0) (R : Group) → EndsThere N → Within N f → Reached (Roomy N f) start N.buses R → Closed N f R
reached_closed N f start R e w r = record {
  out_ahead = λ k u p q. elim (side (f.ahead k) (f.back k + N.limit k)) [
    | below g ↦ absurd (true≢false (sym (r.complete _ (onward (r.sound _ (e.first_in k u) p) (along k u refl refl g))) ∙ q))
    | equal g ↦ g
    | above g ↦ omega (arith, w.ahead_fits k u)
  ];
  out_back = λ k u p q. elim (side (f.back k) (f.ahead k + N.limit k)) [
    | below g ↦ absurd (true≢false (sym (r.complete _ (onward (r.sound _ (e.second_in k u) q) (against k u refl refl g))) ∙ p))
    | equal g ↦ g
    | above g ↦ omega (arith, w.back_fits k u)
  ];
}

module _ (N : Net) (f : Flow) (l d : ℕ → ℕ) (w : Settled N f l d) where
  -- No group has a larger excess than the surplus left on it.
  pub upper : (S : Group) → AtMost N S (over N.buses S l)
  unfolding out_to in_to
  upper S = omega (arith, whole N f l d w.ends w.balanced S, at_most N f S w.within N.branches (omega arith))

  -- A closed group without a deficit left has exactly that.
  pub exact : (S : Group) → Closed N f S → ((i : ℕ) → i < N.buses → S i ≡ true → d i ≡ 0) → Exceeds N S (over N.buses S l)
  unfolding out_to in_to
  exact S c z =
      let none : over N.buses S d ≡ over N.buses S (λ i. 0) = over_same N.buses S S d (λ i. 0) (λ i u. off (S i) (d i) (z i u)) in
      omega (arith, none, over_zero N.buses S, whole N f l d w.ends w.balanced S, exactly N f S c N.branches (omega arith))
    where
      off : (s : Bool) (x : ℕ) → (s ≡ true → x ≡ 0) → pick s x ≡ pick s 0
      off true x h = h refl
      off false x h = refl

  -- A group whose excess is the whole surplus is closed, has all the surplus and no deficit.
  pub tight : (R : Group) → Exceeds N R (over N.buses all l) → Tight N f l d R
  unfolding out_to in_to
  tight R e =
      let n = N.buses in
      let b = whole N f l d w.ends w.balanced R in
      let m = at_most N f R w.within N.branches (omega arith) in
      let a = over_all n R l in
      let full = each N f R w.within N.branches (omega arith) (omega arith) in
      let same : over n R l ≡ over n all l = omega arith in
      let zero : over n R d ≡ 0 = omega arith in
      record {
        closed = record {
          out_ahead = λ k u. (full_step _ _ _ _ _ (full k u)).0;
          out_back = λ k u. (full_step _ _ _ _ _ (full k u)).1;
        };
        surplus = λ i u p. on (R i) (l i) (over_tight n R all l l (λ i u. pick_part (R i) (l i)) same i u) p;
        served = λ i u p. none (R i) (d i) (omega (arith, over_term n R d i u)) p;
      }
    where
      on : (s : Bool) (x : ℕ) → pick s x ≡ x → 0 < x → s ≡ true
      on true x h p = refl
      on false x h p = absurd (omega arith)

      none : (s : Bool) (x : ℕ) → pick s x ≤ 0 → s ≡ true → x ≡ 0
      none true x h p = omega arith
      none false x h p = absurd (false≢true p)

  -- The group that is reached from the surplus, if no bus in it has a deficit left, is the smallest of those with the largest excess.
  pub smallest : (R : Group) → Reached (Roomy N f) (Surplus N.buses l) N.buses R → ((i : ℕ) → i < N.buses → R i ≡ true → d i ≡ 0) → Smallest N R (over N.buses all l)
  smallest R r z =
      let n = N.buses in
      let c = reached_closed N f (Surplus N.buses l) R w.ends w.within r in
      let whole_surplus : over n R l ≡ over n all l = over_same n R all l l (λ i u. on (R i) (l i) (λ p. r.complete i (here (record { bus = u; some = p })))) in
      record {
        listed = refl;
        reaches = omega (arith, exact R c z);
        largest = λ S m. omega (arith, upper S, over_all n S l);
        least = λ S m e i u p. let t = tight S e in reach_within S (λ j s. t.surplus j s.bus s.some) (closed_keeps N f S t.closed) (r.sound i u p);
      }
    where
      on : (s : Bool) (x : ℕ) → (0 < x → s ≡ true) → pick s x ≡ x
      on true x h = refl
      on false zero h = refl
      on false (suc x) h = absurd (false≢true (h (omega arith)))
