-- A branch whose loss would island: no other branch in service leaves one of its sides, so it is short by its whole flow under every fitting flow.
use mathlib.Core.Path.{◌≡◌, refl, sym, ap, ◌∙◌}
use mathlib.Core.Bool.{Bool, true, false, cond, true≢false, false≢true}
use Prim.Native.Nat.{ℕ, ◌+◌, ◌≤◌, ◌<◌}
use native.Mathlib.Omega.{arith}
use native.Mathlib.Decide.{ℕ_discrete}
use borrow.Author.Tests.{eq-eqb, ne_eqb}
use lib.Dec.{eqb}
use lib.IntN.{ℤ, nat_abs}
use Rattle.rows.specs.Sum.{Group, differ, pick}
use Rattle.rows.proofs.Sum.{over_same, over_zero, pick_part}
use Rattle.quantity.specs.Signed.{pos_part, neg_part}
use Rattle.quantity.proofs.Parts.{one_side, size_parts}
use Rattle.grid.proofs.Net.{crosses, gains, loads, ratings, without}
use Rattle.grid.proofs.Islands.{island_within, together, together_self, together_sound, together_whole, on-island?}
use Rattle.grid.proofs.OneCrossing.{one_crossing}
use Rattle.grid.proofs.Without.{at_most_without}
use Rattle.verdict.specs.Case.{Case, Posed, out, Fits}
use Rattle.verdict.specs.Excess.{one_end, Short}
use Rattle.verdict.specs.Island.{Joined, ShortNumber, joined, islands}
use Rattle.verdict.proofs.Plain.{net_of, flow_of, loss_net, short_plain}
use Rattle.verdict.proofs.Fitting.{ends, fits_balanced, none_above, served_other}
use Rattle.verdict.proofs.Rest.{rest, rest_one_end}

-- ---- The number of a short branch is one of two, and one alone.
pub number_above : {C : Case} {b n : ℕ} → ShortNumber C b n → 2 ≤ n
number_above (joined j e) = omega arith
number_above (islands j e) = omega arith

pub number_most : {C : Case} {b n : ℕ} → ShortNumber C b n → n ≤ 3
number_most (joined j e) = omega arith
number_most (islands j e) = omega arith

pub number_same : {C : Case} {b n m : ℕ} → ShortNumber C b n → ShortNumber C b m → n ≡ m
number_same (joined j e) (joined k h) = e ∙ sym h
number_same (joined j e) (islands k h) = absurd (k j)
number_same (islands j e) (joined k h) = absurd (j k)
number_same (islands j e) (islands k h) = e ∙ sym h

pub number_joined : {C : Case} {b n : ℕ} → ShortNumber C b n → n ≡ 2 → Joined C b
number_joined (joined j e) h = j
number_joined (islands j e) h = absurd (omega arith)

pub number_islands : {C : Case} {b n : ℕ} → ShortNumber C b n → n ≡ 3 → Joined C b → ⊥
number_islands (joined j e) h = absurd (omega arith)
number_islands (islands j e) h = j

-- ---- No branch in service other than b has exactly one end in S.
pub record Shut (C : Case) (b : ℕ) (S : Group) : Type 0 where
  pub whole : (k : ℕ) → k < C.branches → (k ≡ b → ⊥) → C.served k ≡ true → one_end C k S ≡ false

differ_false : (s t : Bool) → differ s t ≡ false → s ≡ t
differ_false true true e = refl
differ_false true false e = absurd (true≢false e)
differ_false false true e = absurd (true≢false e)
differ_false false false e = refl

same_differ : (s t : Bool) → s ≡ t → differ s t ≡ false
same_differ true t e = rw (← e) refl
same_differ false t e = rw (← e) refl

-- Which end a group holds that holds exactly one.
data Holds (C : Case) (b : ℕ) (S : Group) : Type 0 where
  holds_first : S (C.first b) ≡ true → S (C.second b) ≡ false → Holds C b S
  holds_second : S (C.first b) ≡ false → S (C.second b) ≡ true → Holds C b S

holds : (C : Case) (b : ℕ) (S : Group) → one_end C b S ≡ true → Holds C b S
holds C b S o = go (S (C.first b)) (S (C.second b)) refl refl o
  where
    go : (s t : Bool) → S (C.first b) ≡ s → S (C.second b) ≡ t → differ s t ≡ true → Holds C b S
    go true true p q e = absurd (false≢true e)
    go true false p q e = holds_first p q
    go false true p q e = holds_second p q
    go false false p q e = absurd (false≢true e)

module _ (C : Case) (b : ℕ) where
  -- A branch of the case without b is another one.
  another : (k : ℕ) → (out C b).served k ≡ true → (k ≡ b → ⊥) × (C.served k ≡ true)
  another k o = elim (ℕ_discrete k b) [
    | yes e ↦ absurd (false≢true (sym (rw (e, eq-eqb b b refl) refl) ∙ o))
    | no n ↦ (n, sym (served_other C b false k n) ∙ o)
  ]

  shut_rest : (S : Group) → Shut C b S → Shut C b (rest S)
  shut_rest S h = record { whole = λ k u n o. rest_one_end C S k ∙ h.whole k u n o }

  no_path : (S : Group) → Shut C b S → S (C.first b) ≡ true → S (C.second b) ≡ false → Joined C b → ⊥
  no_path S h p q j =
      let whole : (k : ℕ) → k < C.branches → (out C b).served k ≡ true → S (C.first k) ≡ S (C.second k) =
      λ k u o. let x = another k o in differ_false _ _ (h.whole k u x.0 x.1) in
      true≢false (sym (island_within C.branches C.first C.second (out C b).served S whole j p) ∙ q)

  -- Where no other branch in service leaves a group that holds exactly one end of b, there is no path.
  pub shut_islands : (S : Group) → one_end C b S ≡ true → Shut C b S → Joined C b → ⊥
  shut_islands S o h = elim (holds C b S o) [
    | holds_first p q ↦ no_path S h p q
    | holds_second p q ↦ no_path (rest S) (shut_rest S h) (rw p refl) (rw q refl)
  ]

  pub joined? : Dec (Joined C b)
  joined? = on-island? C.first C.second (out C b).served C.branches (C.first b) (C.second b)

  -- The side of the first end.
  near : Group
  near = together C.first C.second (out C b).served C.branches (C.first b)

  near_shut : Shut C b near
  unfolding near
  near_shut = record {
    whole = λ k u n o. same_differ _ _
        (together_whole C.first C.second (out C b).served C.branches (C.first b) k u (served_other C b false k n ∙ o));
  }

  near_first : near (C.first b) ≡ true
  unfolding near
  near_first = together_self C.first C.second (out C b).served C.branches (C.first b)

  near_second : (Joined C b → ⊥) → near (C.second b) ≡ false
  unfolding near
  near_second n = go (together C.first C.second (out C b).served C.branches (C.first b) (C.second b)) refl
    where
      go : (t : Bool) → together C.first C.second (out C b).served C.branches (C.first b) (C.second b) ≡ t
          → together C.first C.second (out C b).served C.branches (C.first b) (C.second b) ≡ false
      go true e = absurd (n (together_sound C.first C.second (out C b).served C.branches (C.first b) (C.second b) e))
      go false e = e

-- ---- A branch is short by no more than its flow.
module _ (C : Case) (f : ℕ → ℤ) (b : ℕ) (p : Posed C) (fits : Fits C C.limit f) where
  -- The limits of a loss, and on b its flow.
  narrowed : ℕ → ℕ
  narrowed k = cond (eqb k b) (nat_abs (f b)) (C.loss_limit k)

  narrowed_fits : Fits C narrowed f
  unfolding narrowed
  narrowed_fits = record { still = fits.still; within = λ k u o. at k u o (ℕ_discrete k b); bus = fits.bus }
    where
      at : (k : ℕ) → k < C.branches → C.served k ≡ true → Dec (k ≡ b) → nat_abs (f k) ≤ cond (eqb k b) (nat_abs (f b)) (C.loss_limit k)
      at k u o (yes e) = rw (e, eq-eqb b b refl) (omega arith)
      at k u o (no n) = rw (ne_eqb k b n) (omega (arith, fits.within k u o, p.rising k u))

  narrowed_ratings : (S : Group) → ratings (without (net_of C narrowed) b) S ≡ ratings (loss_net C b) S
  unfolding narrowed
  narrowed_ratings S =
      over_same _ _ _ _ _ (λ k u. ap (pick (crosses (net_of C narrowed) S k)) (one (eqb k b) (C.served k) (nat_abs (f b)) (C.loss_limit k)))
    where
      one : (t s : Bool) (x y : ℕ) → cond t 0 (pick s (cond t x y)) ≡ cond t 0 (pick s y)
      one true s x y = refl
      one false s x y = refl

  pub short_by_flow : (v : ℕ) (S : Group) → b < C.branches → Short C b v S → v ≤ nat_abs (f b)
  unfolding narrowed
  short_by_flow v S u s =
      let most = at_most_without (net_of C narrowed) b S 0 u (none_above C narrowed f p narrowed_fits S) in
      let own : narrowed b ≡ nat_abs (f b) = rw (eq-eqb b b refl) refl in
      omega (
        arith,
        most,
        narrowed_ratings S,
        own,
        ((short_plain C b v S).0 s).smallest.reaches,
        pick_part (C.served b) (narrowed b),
      )

  -- ---- And by no less, where the loss would island.
  -- A side that no other branch in service leaves brings by the flow of b more than it takes, and what the others may carry out of it is 0.
  module _ (l : b < C.branches) (U : Group) (shut : Shut C b U) where
    still : (k : ℕ) → k < C.branches → (k ≡ b → ⊥) → one_end C k U ≡ true → C.served k ≡ false
    still k u n o = go (C.served k) refl
      where
        go : (t : Bool) → C.served k ≡ t → C.served k ≡ false
        go true i = absurd (true≢false (sym o ∙ shut.whole k u n i))
        go false i = i

    crossed :
        gains (loss_net C b) U + (pick (U (C.first b)) (neg_part (f b)) + pick (U (C.second b)) (pos_part (f b)))
        ≡ loads (loss_net C b) U + (pick (U (C.first b)) (pos_part (f b)) + pick (U (C.second b)) (neg_part (f b)))
    crossed =
        one_crossing (net_of C C.limit) (flow_of f) U b
        (λ k u n o. let z = fits.still k u (still k u n o) in ap pos_part z ∙ sym (ap neg_part z)) l (ends C C.limit p)
        (fits_balanced C C.limit f fits)

    none_leaves : ratings (loss_net C b) U ≡ 0
    none_leaves = over_same _ _ (crosses (loss_net C b) U) _ (λ k. 0) (λ k u. at k u (ℕ_discrete k b) (C.served k) refl) ∙ over_zero _ _
      where
        at : (k : ℕ) → k < C.branches → Dec (k ≡ b) → (s : Bool) → C.served k ≡ s
            → pick (crosses (loss_net C b) U k) ((loss_net C b).limit k) ≡ pick (crosses (loss_net C b) U k) 0
        at k u (yes e) s i = rw (e, eq-eqb b b refl) refl
        at k u (no n) true i = rw (shut.whole k u n i) refl
        at k u (no n) false i = rw (ne_eqb k b n, i) refl

  pub island_flow : (v : ℕ) (S : Group) → b < C.branches → (Joined C b → ⊥) → Short C b v S → nat_abs (f b) ≤ v
  island_flow v S l n s =
      let U = near C b in
      let shut = near_shut C b in
      let far = shut_rest C b U shut in
      let h = near_first C b in
      let g = near_second C b n in
      let most = ((short_plain C b v S).0 s).smallest.largest in
      omega (
        arith,
        size_parts (f b),
        one_side (f b),
        rw (h, g) at (crossed l U shut),
        none_leaves l U shut,
        most U (rw (h, g) refl),
        rw (h, g) at (crossed l (rest U) far),
        none_leaves l (rest U) far,
        most (rest U) (rw (h, g) refl),
      )

  -- An islanding branch is short by its whole flow, whichever flow fits.
  pub islands_by_flow : (v : ℕ) (S : Group) → b < C.branches → (Joined C b → ⊥) → Short C b v S → v ≡ nat_abs (f b)
  islands_by_flow v S l n s = omega (arith, short_by_flow v S l s, island_flow v S l n s)

  -- So one that is short by less is joined.
  pub less_joined : (v : ℕ) (S : Group) → b < C.branches → Short C b v S → (v ≡ nat_abs (f b) → ⊥) → Joined C b
  less_joined v S l s n = elim (joined? C b) [ yes j ↦ j | no m ↦ absurd (n (islands_by_flow v S l m s)) ]
