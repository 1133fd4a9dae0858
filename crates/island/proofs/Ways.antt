-- One unit that is left at a bus and wanted at another stays exactly if no path of open branches leads there; with one branch shut; and the scan for
-- a branch that leaves a group.
use mathlib.Core.Path.{◌≡◌, refl, sym, ap, subst, ◌∙◌, fun_ext}
use mathlib.Core.Bool.{Bool, true, false, cond, ◌&&◌}
use mathlib.Core.List.{List}
use Prim.Native.Nat.{ℕ, zero, suc, ◌≤◌, ◌<◌}
use native.Mathlib.Omega.{arith}
use borrow.Author.Tests.{ltb-true, ltb-false, eqb-true, eqb-false}
use lib.Dec.{eqb, ltb}
use lib.ListN.{length, get_or, set}
use Rattle.std.proofs.lemmas.List.FromFn.{length-range_with_len, get_or-range_with_len}
use Rattle.std.specs.Bool.{MatchBool}
use Rattle.std.specs.List.{AllWithin, HoldsAt, range_with_len}
use Rattle.rows.specs.Row.{nth, some}
use Rattle.rows.specs.Bit.{has}
use Rattle.rows.specs.Sum.{Group, differ, pick}
use Rattle.rows.proofs.Row.{some_at}
use Rattle.rows.proofs.Sum.{over_same, over_term, over_zero, pick_part}
use Rattle.grid.specs.Reach.{OnIsland}
use Rattle.grid.proofs.Net.{Net, crosses, gains, loads, ratings}
use Rattle.grid.proofs.Excess.{Smallest}
use Rattle.grid.proofs.Islands.{island_within, together, together_sound, together_self, together_whole}
use Rattle.search.specs.declared.Wires.{Wires}
use Rattle.search.specs.declared.Latent.{Latent}
use Rattle.reroute.specs.InsideMoves.{network, Reroutes}
use Rattle.reroute.specs.InsideVerdicts.{Deliverable}
use Rattle.reroute.specs.Inside.{rest_between}
use Rattle.reroute.specs.declared.Moved.{Moved}
use Rattle.reroute.proofs.OnePlace.{set_zero}
use Rattle.reroute.proofs.Delivering.{surplus_of, deficit_of}
use Rattle.island.specs.Inside.{opened, Openable, Apart, Leading, Joining}

-- ---- One unit left at u and wanted at v.
abbrev both : List ℕ → Latent
both ways = record { ahead = ways; back = ways }

shut_way : (ways : List ℕ) (k : ℕ) → opened ways k ≡ false → nth ways k ≡ 0
shut_way ways k e = omega (arith, ltb-false 0 (nth ways k) e)

module _ (W : Wires) (ways : List ℕ) (u v : ℕ) (open-to : Openable W ways) (apart : Apart W u v) where
  pub unit_ready : Deliverable W (both ways) u v 1
  unit_ready = record {
    linked = open-to.linked;
    sums = record { fit = λ k l. omega (arith, open-to.small k l) };
    from_in = apart.from_in;
    to_in = apart.to_in;
    different = apart.different;
    small = omega arith;
  }

  abbrev N : Net
  N = network W (nth ways) (nth (rest_between u v 1).surplus) (nth (rest_between u v 1).deficit)

  gain_is : (S : Group) → gains N S ≡ pick (S u) 1
  gain_is = surplus_of unit_ready

  load_is : (S : Group) → loads N S ≡ pick (S v) 1
  load_is = deficit_of unit_ready

  -- What may leave a group that no open branch leaves is 0, and the other way round.
  none_out : (S : Group) → ((k : ℕ) → k < W.branches → opened ways k ≡ true → S (nth W.first k) ≡ S (nth W.second k)) → ratings N S ≡ 0
  none_out S whole =
      over_same W.branches (crosses N S) (crosses N S) (nth ways) (λ k. 0) (λ k l. at k l (opened ways k) refl)
      ∙ over_zero W.branches (crosses N S)
    where
      stays : (s t : Bool) (x : ℕ) → s ≡ t → pick (differ s t) x ≡ pick (differ s t) 0
      stays true t x e = rw (← e) refl
      stays false t x e = rw (← e) refl

      at : (k : ℕ) → k < W.branches → (t : Bool) → opened ways k ≡ t → pick (crosses N S k) (nth ways k) ≡ pick (crosses N S k) 0
      at k l true e = stays (S (nth W.first k)) (S (nth W.second k)) (nth ways k) (whole k l e)
      at k l false e = ap (pick (crosses N S k)) (shut_way ways k e)

  whole_of : (S : Group) → ratings N S ≡ 0 → (k : ℕ) → k < W.branches → opened ways k ≡ true → S (nth W.first k) ≡ S (nth W.second k)
  whole_of S z k l o =
      stays (S (nth W.first k)) (S (nth W.second k)) (nth ways k) (ltb-true 0 (nth ways k) o)
      (omega (arith, over_term W.branches (crosses N S) (nth ways) k l))
    where
      stays : (s t : Bool) (x : ℕ) → 0 < x → pick (differ s t) x ≤ 0 → s ≡ t
      stays true true x p h = refl
      stays true false x p h = absurd (omega arith)
      stays false true x p h = absurd (omega arith)
      stays false false x p h = refl

  holds : (t : Bool) → 0 < pick t 1 → t ≡ true
  holds true h = refl
  holds false h = absurd (omega arith)

  -- Nothing stays: else the island of u would have an excess of 1.
  all_moved : (R : Group) → Smallest N R 0 → OnIsland W.branches (nth W.first) (nth W.second) (opened ways) u v
  all_moved R s = go (together (nth W.first) (nth W.second) (opened ways) W.branches u v) refl
    where
      near : Group
      near = together (nth W.first) (nth W.second) (opened ways) W.branches u

      go : (t : Bool) → near v ≡ t → OnIsland W.branches (nth W.first) (nth W.second) (opened ways) u v
      go true e = together_sound (nth W.first) (nth W.second) (opened ways) W.branches u v e
      go false e = absurd (omega (
        arith,
        s.largest near refl,
        gain_is near,
        load_is near,
        none_out near (together_whole (nth W.first) (nth W.second) (opened ways) W.branches u),
        ap (λ (t : Bool). pick t 1) (together_self (nth W.first) (nth W.second) (opened ways) W.branches u),
        ap (λ (t : Bool). pick t 1) e,
      ))

  -- Something stays: no open branch leaves the group that it reached, which has u and not v.
  some_stays : (R : Group) (left : ℕ) → Smallest N R left → 0 < left → OnIsland W.branches (nth W.first) (nth W.second) (opened ways) u v → ⊥
  some_stays R left s h p =
      let has_first : 0 < pick (R u) 1 = omega (arith, s.reaches, gain_is R) in
      let none : ratings N R ≡ 0 = omega (arith, s.reaches, gain_is R, pick_part (R u) 1) in
      let there = island_within W.branches (nth W.first) (nth W.second) (opened ways) R (whole_of R none) p (holds (R u) has_first) in
      omega (arith, s.reaches, gain_is R, load_is R, pick_part (R u) 1, ap (λ (t : Bool). pick t 1) there)

  pub leading : {r : Moved} {t : Bool} → Reroutes W (both ways) (rest_between u v 1) r → t ≡ eqb r.left 0 → Leading W ways u v t
  leading {r} {t} m e =
      let s =
      m.smallest (nth ways) (nth (rest_between u v 1).surplus) (nth (rest_between u v 1).deficit) (record { twice = λ k l. refl })
      (record { bus = λ i l. omega arith }) in
      record {
        path = λ h. all_moved (has r.group) (subst (Smallest N (has r.group)) (eqb-true r.left 0 (sym e ∙ h)) s);
        no_path = λ h. some_stays (has r.group) r.left s (omega (arith, eqb-false r.left 0 (sym e ∙ h)));
      }

-- ---- With branch k shut.
shut_opened : (ways : List ℕ) (k : ℕ) → k < length ways → opened (set ways k 0) ≡ (λ j. cond (eqb j k) false (opened ways j))
shut_opened ways k l = fun_ext (λ j. ap (ltb 0) (set_zero ways k j l) ∙ one (eqb j k) (nth ways j))
  where
    one : (t : Bool) (x : ℕ) → ltb 0 (cond t 0 x) ≡ cond t false (ltb 0 x)
    one true x = refl
    one false x = refl

module _ {W : Wires} {ways : List ℕ} {k : ℕ} (o : Openable W ways) (l : k < W.branches) (long : length ways ≡ 256) where
  in_row : k < length ways
  in_row = omega (arith, o.linked.wired.size)

  pub joining : {r : Bool} → Leading W (set ways k 0) (nth W.first k) (nth W.second k) r → Joining W ways k r
  joining {r} h = record { path = λ e. subst Ends others (h.path e); no_path = λ e p. h.no_path e (subst Ends (sym others) p) }
    where
      Ends : Group → Type 0
      Ends s = OnIsland W.branches (nth W.first) (nth W.second) s (nth W.first k) (nth W.second k)

      others : opened (set ways k 0) ≡ (λ j. cond (eqb j k) false (opened ways j))
      others = shut_opened ways k in_row

-- ---- The scan for a branch that leaves the group.
-- What `any` answers over the numbers below n.
module _ (p : ℕ → Bool) where
  none_below : (n : ℕ) → ((k : ℕ) → k < n → p k ≡ false) → some n p ≡ false
  unfolding some
  none_below zero h = refl
  none_below (suc n) h = rw (none_below n (λ k l. h k (omega arith)), h n (omega arith)) refl

  at_place : (n k : ℕ) → k < n → get_or (range_with_len 0 n) k 0 ≡ k
  at_place n k h = omega (arith, get_or-range_with_len 0 n k 0 h)

  abbrev pub Yes : ℕ → Type 0
  Yes j = p j ≡ true

  abbrev pub No : ℕ → Type 0
  No j = p j ≡ false

  pub by_any : (n : ℕ) (r : Bool)
      → MatchBool r ((k : ℕ) × (k < length (range_with_len 0 n)) × HoldsAt Yes (range_with_len 0 n) k) (AllWithin No (range_with_len 0 n) 0 (length (range_with_len 0 n)))
      → r ≡ some n p
  by_any n true (k, h, f) =
      let u : k < n = omega (arith, length-range_with_len 0 n) in
      sym (some_at p n k u (rw (at_place n k u) at (f 0)))
  by_any n false f =
      sym (none_below n (λ k l. rw (at_place n k l) at (f k 0 (omega arith) (omega (arith, length-range_with_len 0 n)))))

-- A truth value that is t where s holds, and else s, is both.
pub counted : (s t : Bool) {x : Bool} → s ≡ true → x ≡ t → x ≡ s && t
counted s t e h = rw e h

pub uncounted : (s t : Bool) {x : Bool} → s ≡ false → x ≡ s → x ≡ s && t
uncounted s t e h = rw e (h ∙ e)
