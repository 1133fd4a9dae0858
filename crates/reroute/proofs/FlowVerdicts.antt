-- From the rerouted flow to the verdict: of the base flow, and after the loss of a branch.
use mathlib.Core.Path.{◌≡◌, refl, sym, ◌∙◌}
use mathlib.Core.Bool.{Bool, true, false, cond}
use mathlib.Core.List.{List}
use Prim.Native.Nat.{ℕ, zero, suc, ◌+◌, ◌-◌, ◌<◌, ◌≤◌, min}
use native.Mathlib.Omega.{arith}
use borrow.Author.Tests.{eqb-true}
use lib.Dec.{eqb}
use lib.ListN.{length, set, replicate}
use Rattle.rows.specs.Row.{nth}
use Rattle.rows.specs.Sum.{all, pick}
use Rattle.rows.proofs.Sum.{pick_zero, over_set, over_term}
use Rattle.grid.proofs.Net.{EndsThere, gains, loads}
use Rattle.grid.proofs.Flow.{Balanced}
use Rattle.grid.proofs.Cut.{whole}
use Rattle.grid.proofs.Without.{over_without}
use Rattle.search.specs.InsideLinks.{Linked}
use Rattle.search.specs.declared.Wires.{Wires}
use Rattle.search.specs.declared.Latent.{Latent}
use Rattle.reroute.specs.InsideMoves.{network, carried, TwiceLimit, total, Reroutable, Settles, Reroutes}
use Rattle.reroute.specs.InsideVerdicts.{Carrying, Says, Grouped, Basic, Based, Losable, Lost}
use Rattle.reroute.specs.Inside.{short_by, Judged, cut_at, Opened}
use Rattle.reroute.specs.declared.Rest.{Rest}
use Rattle.reroute.specs.declared.Moved.{Moved}
use Rattle.std.specs.Prelude.{Some}
use Rattle.reroute.specs.declared.Shortfall.{Shortfall}
use Rattle.reroute.specs.declared.Judgement.{Judgement}
use Rattle.reroute.proofs.OnePlace.{pick_sub, one_at, set_zero, cut_same, cut_none}

short_group : (n : ℕ) (g : List ℕ) (s : Shortfall) → short_by n g ≡ Some s → s.group ≡ g
short_group zero g s e = cc
short_group (suc n) g s e = cc

pub linked_ends : (W : Wires) → Linked W → (limit gain load : ℕ → ℕ) → EndsThere (network W limit gain load)
linked_ends W K limit gain load = record { first_in = K.wired.first_in; second_in = K.wired.second_in }

-- What a rerouted flow says of the network.
module _ (W : Wires) (K : Linked W) (latent : Latent) (rest : Rest) (r : Moved) (R : Reroutes W latent rest r) (limit gain load : ℕ → ℕ)
    (e : TwiceLimit W.branches latent limit)
    (B : Settles W limit gain load latent rest) where
  pub carrying : r.left ≡ 0 → Carrying (network W limit gain load) (carried limit r.latent.ahead)
  carrying z =
      record {
        within = R.within limit gain load e;
        balanced = λ g. record {
          bus = λ i h. omega (arith, bal.bus i h, over_term W.buses all (nth r.rest.surplus) i h, over_term W.buses all (nth r.rest.deficit) i h, R.left_over, none g);
        };
        groups = λ S. omega (arith, (R.smallest limit gain load e B).largest S refl);
      }
    where
      bal : Settles W limit gain load r.latent r.rest
      bal = R.balanced limit gain load B

      none : gains (network W limit gain load) all ≡ loads (network W limit gain load) all → total W.buses r.rest.deficit ≡ 0
      none g = omega (
        arith,
        z,
        R.left_over,
        whole (network W limit gain load) (carried limit r.latent.ahead) (nth r.rest.surplus) (nth r.rest.deficit) (linked_ends W K limit gain load) bal all,
      )

  says : (n : ℕ) → r.left ≡ n → Says (network W limit gain load) (carried limit r.latent.ahead) (short_by n r.group)
  says zero z = carrying z
  says (suc n) z = record { some = omega arith; smallest = rw z at (R.smallest limit gain load e B) }

  pub judged_says : (j : Judgement) → Judged r j → Says (network W limit gain load) (carried limit j.latent.ahead) j.short
  judged_says j J = rw (J.short, J.latent) (says r.left refl)

-- The group that is short is the one of the reroute.
pub judged_grouped : {W : Wires} {latent : Latent} {rest : Rest} {r : Moved} {j : Judgement} → Reroutes W latent rest r → Judged r j
    → (s : Shortfall) → j.short ≡ Some s → Grouped W.buses s.group
judged_grouped {r = r} R J s e =
    let g : s.group ≡ r.group = short_group r.left r.group s (sym J.short ∙ e) in
    rw g (record { long = J.long; beyond = R.beyond; bytes = R.bytes })

pub based : {W : Wires} {limit gain load : List ℕ} → Basic W limit gain load → {m : Moved}
    → Reroutes W (record { ahead = limit; back = limit }) (record { surplus = gain; deficit = load }) m → {j : Judgement} → Judged m j
    → Based W limit gain load j
based {W} {limit} {gain} {load} P {m} R {j} J =
    record {
      kept = λ k. rw J.latent (R.kept k);
      unlisted = λ k h. rw J.latent (R.unlisted k h).0;
      says = judged_says W P.linked (record { ahead = limit; back = limit }) (record { surplus = gain; deficit = load }) m R (nth limit) (nth gain) (nth load) (record { twice = λ k h. refl }) (record { bus = λ i h. omega arith }) j J;
      grouped = judged_grouped R J;
    }

-- What is left at the ends of a lost branch: x at one of them, and a lack of x at the other.
pub pick_apart : (u v x i : ℕ) → (u ≡ v → ⊥) → min (pick (eqb u i) x) (pick (eqb v i) x) ≡ 0
pick_apart u v x i n = go (eqb u i) (eqb v i) (λ p q. n (eqb-true u i p ∙ sym (eqb-true v i q)))
  where
    go : (s t : Bool) → (s ≡ true → t ≡ true → ⊥) → min (pick s x) (pick t x) ≡ 0
    go true true g = absurd (g refl refl)
    go true false g = omega arith
    go false t g = omega arith

pick_most : (s : Bool) (x y : ℕ) → x ≤ y → pick s x ≤ y
pick_most true x y h = h
pick_most false x y h = omega arith

-- The loss of branch k.
module _ {W : Wires} {limit : List ℕ} {latent : Latent} {k : ℕ} (P : Losable W limit latent k) where
  pub lost_row : k < 256
  lost_row = omega (arith, P.below, P.linked.wired.size)

  pub end_rows : (nth W.first k < 128) × (nth W.second k < 128)
  end_rows = omega (arith, P.linked.wired.first_in k P.below, P.linked.wired.second_in k P.below, P.linked.wired.few)

  abbrev l : ℕ
  l = nth limit k

  abbrev p : ℕ
  p = nth latent.ahead k

  -- Its ends as numbers, each with its equation.
  module _ {near far : ℕ} (a : nth W.first k ≡ near) (b : nth W.second k ≡ far) where
    at_near : (x i : ℕ) → nth (set (replicate 128 0) near x) i ≡ pick (eqb (nth W.first k) i) x
    at_near x i = rw (sym a) (one_at 128 (nth W.first k) x i end_rows.0)

    at_far : (x i : ℕ) → nth (set (replicate 128 0) far x) i ≡ pick (eqb (nth W.second k) i) x
    at_far x i = rw (sym b) (one_at 128 (nth W.second k) x i end_rows.1)

    pub opened_ahead : p < l
        → Opened W limit latent k (record { surplus = set (replicate 128 0) near (l - p); deficit = set (replicate 128 0) far (l - p) })
    opened_ahead h =
        record {
          differ = λ i. omega (arith, at_near (l - p) i, at_far (l - p) i, pick_sub (eqb (nth W.first k) i) p l (omega arith), pick_sub (eqb (nth W.second k) i) p l (omega arith));
          small = λ i. rw (at_near (l - p) i) (pick_most (eqb (nth W.first k) i) (l - p) 1000000 (omega (arith, P.limits k P.below)));
          apart = λ i. rw (at_near (l - p) i, at_far (l - p) i) (pick_apart (nth W.first k) (nth W.second k) (l - p) i P.different);
        }

    pub opened_back : l ≤ p
        → Opened W limit latent k (record { surplus = set (replicate 128 0) far (p - l); deficit = set (replicate 128 0) near (p - l) })
    opened_back h =
        record {
          differ = λ i. omega (arith, at_near (p - l) i, at_far (p - l) i, pick_sub (eqb (nth W.first k) i) l p (omega arith), pick_sub (eqb (nth W.second k) i) l p (omega arith));
          small = λ i. rw (at_far (p - l) i) (pick_most (eqb (nth W.second k) i) (p - l) 1000000 (omega (arith, P.limits k P.below, P.even.twice k P.below)));
          apart = λ i. rw (at_near (p - l) i, at_far (p - l) i) (pick_apart (nth W.second k) (nth W.first k) (p - l) i (λ e. P.different (sym e)));
        }

  module _ (la : length latent.ahead ≡ 256) (lb : length latent.back ≡ 256) where
    cut_a : (j : ℕ) → nth (set latent.ahead k 0) j ≡ cond (eqb j k) 0 (nth latent.ahead j)
    cut_a j = set_zero latent.ahead k j (omega (arith, lost_row))

    cut_b : (j : ℕ) → nth (set latent.back k 0) j ≡ cond (eqb j k) 0 (nth latent.back j)
    cut_b j = set_zero latent.back k j (omega (arith, lost_row))

    -- the limit without k, twice
    cut_even : TwiceLimit W.branches (cut_at latent k) (λ j. cond (eqb j k) 0 (nth limit j))
    cut_even = record {
      twice = λ j h. rw (cut_a j, cut_b j) (go (eqb j k) (nth latent.ahead j) (nth latent.back j) (nth limit j) (P.even.twice j h));
    }
      where
        go : (t : Bool) (x y z : ℕ) → x + y ≡ z + z → cond t 0 x + cond t 0 y ≡ cond t 0 z + cond t 0 z
        go true x y z e = refl
        go false x y z e = e

    module _ {rest : Rest} (O : Opened W limit latent k rest) where
      pub lost_ready : Reroutable W (cut_at latent k) rest
      lost_ready =
          record {
            linked = P.linked;
            sums = record { fit = λ j h. omega (arith, cut_even.twice j h, most (eqb j k) (nth limit j) (P.limits j h)) };
            small = λ i h. omega (arith, O.small i);
            apart = λ i h. O.apart i;
          }
        where
          most : (t : Bool) (x : ℕ) → x ≤ 1000000 → cond t 0 x ≤ 1000000
          most true x h = omega arith
          most false x h = h

      -- the flow of k goes over into what is left at its ends
      cut_balanced : (gain load : ℕ → ℕ) → Balanced (network W (nth limit) gain load) (carried (nth limit) latent.ahead) (λ i. 0) (λ i. 0)
          → Settles W (λ j. cond (eqb j k) 0 (nth limit j)) gain load (cut_at latent k) rest
      cut_balanced gain load B =
          record {
            bus = λ i h. omega (
              arith,
              B.bus i h,
              O.differ i,
              over_set W.branches (λ j. eqb (nth W.first j) i) latent.ahead k 0 P.below (omega (arith, lost_row)),
              over_set W.branches (λ j. eqb (nth W.second j) i) latent.ahead k 0 P.below (omega (arith, lost_row)),
              over_without W.branches (λ j. eqb (nth W.first j) i) (nth limit) k P.below,
              over_without W.branches (λ j. eqb (nth W.second j) i) (nth limit) k P.below,
              pick_zero (eqb (nth W.first k) i),
              pick_zero (eqb (nth W.second k) i),
            );
          }

      pub lost_of : {m : Moved} → Reroutes W (cut_at latent k) rest m → {j : Judgement} → Judged m j → Lost W limit latent k j
      lost_of {m} R {j} J =
          record {
            gone = rw J.latent (R.idle k (cut_none latent k lost_row la lb));
            kept = λ i g. rw J.latent (omega (arith, R.kept i, cut_same latent k i g));
            unlisted = λ i h. rw J.latent ((R.unlisted i h).0 ∙ (cut_same latent k i (omega (arith, P.below))).0);
            says = λ gain load B. judged_says W P.linked (cut_at latent k) rest m R (λ i. cond (eqb i k) 0 (nth limit i)) gain load cut_even (cut_balanced gain load B) j J;
            grouped = judged_grouped R J;
          }
