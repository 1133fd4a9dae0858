-- Seeding: the starts below v are marked and queued.
use mathlib.Core.Path.{◌≡◌, refl, ◌∙◌}
use mathlib.Core.List.{List}
use mathlib.Core.Logic.{⊎_elim}
use Prim.Native.Nat.{ℕ, ◌+◌, ◌<◌, ◌≤◌}
use native.Mathlib.Omega.{arith}
use borrow.Author.Count.{below_more}
use lib.ListN.{length, set, replicate, length-set, get_or-replicate}
use lib.Seq.{get_or-set_same, get_or-set_other}
use Rattle.rows.specs.Row.{nth}
use Rattle.search.specs.InsideSearch.{Scene}
use Rattle.search.specs.Inside.{Tree, Blank, Seeded}
use Rattle.search.proofs.Marking.{blank, either_place, still_positive}
use Rattle.search.proofs.Tree.{seed, grow}

pub record Sow (n : ℕ) (roles m q o : List ℕ) (t v : ℕ) : Type 0 where
  pub few : n ≤ 128
  pub within : v ≤ n
  pub long : length m ≡ 128
  pub slots : length q ≡ 128
  pub whole : length o ≡ 128
  pub less : t ≤ v
  pub tree : (N : Scene) (w : List ℕ) → N.buses ≡ n → N.roles ≡ roles → length w ≡ 128 → ((u : ℕ) → u < 128 → nth w u ≡ 4294967295)
      → Tree N m q w o t
  pub rest : (u : ℕ) → v ≤ u → nth m u ≡ 0
  pub seeds : (u : ℕ) → u < v → nth roles u ≡ 1 → 0 < nth m u
  pub apart : (u : ℕ) → 0 < nth m u → nth roles u ≡ 2 → ⊥

pub sow_none : {n : ℕ} {roles m q : List ℕ} → Blank n m → length q ≡ 128 → Sow n roles m q (replicate 128 0) 0 0
sow_none B slots = rw B.blank (record {
  few = B.few;
  within = omega arith;
  long = refl;
  slots = slots;
  whole = refl;
  less = omega arith;
  tree = λ N w same roled wide full. record {
    long = refl;
    slots = slots;
    wide = wide;
    whole = refl;
    small = omega (arith, B.few);
    count = refl;
    bus = λ p h. absurd (omega arith);
    place = λ p h. absurd (omega arith);
    held = λ v g. absurd (omega (arith, blank 128 v));
    once = λ i j l h g. absurd (omega arith);
  };
  rest = λ u l. blank 128 u;
  seeds = λ u l. absurd (omega arith);
  apart = λ u g. absurd (omega (arith, blank 128 u));
})

module _ {n : ℕ} {roles m q o : List ℕ} {t v : ℕ} (S : Sow n roles m q o t v) (b : v < n) where
  pub sow_skip : (nth roles v ≡ 1 → ⊥) → Sow n roles m q o t (v + 1)
  sow_skip f =
      record {
        few = S.few;
        within = omega arith;
        long = S.long;
        slots = S.slots;
        whole = S.whole;
        less = omega (arith, S.less);
        tree = S.tree;
        rest = λ u l. S.rest u (omega arith);
        seeds = below_more (λ (u : ℕ). nth roles u ≡ 1 → 0 < nth m u) v S.seeds (λ e. absurd (f e));
        apart = S.apart;
      }

  module _ (s : nth roles v ≡ 1) where
    v_in : v < length m
    v_in = omega (arith, S.long, S.few)

    v_marked : 0 < nth (set m v 1) v
    v_marked = rw (get_or-set_same m v 1 0 v_in) (omega arith)

    pub sow_mark : Sow n roles (set m v 1) (set q t v) (set o v v) (t + 1) (v + 1)
    sow_mark =
        record {
          few = S.few;
          within = omega arith;
          long = length-set m v 1 ∙ S.long;
          slots = length-set q t v ∙ S.slots;
          whole = length-set o v v ∙ S.whole;
          less = omega (arith, S.less);
          tree =
              λ N w same roled wide full. grow
              N
              m
              q
              w
              w
              o
              (set o v v)
              t
              v
              1
              (S.tree N w same roled wide full)
              (omega arith)
              (S.rest v (omega arith))
              (omega arith)
              wide
              (λ u d. refl)
              (length-set o v v ∙ S.whole)
              (λ u d. get_or-set_other o v u v 0 d)
              (seed (rw roled s) refl (full v (omega (arith, S.few))) (get_or-set_same o v v 0 (omega (arith, S.whole, S.few))));
          rest = λ u l. rw (get_or-set_other m v u 1 0 (omega arith)) (S.rest u (omega arith));
          seeds = below_more (λ (u : ℕ). nth roles u ≡ 1 → 0 < nth (set m v 1) u) v (λ u l e. still_positive m v 1 u v_in (omega arith) (S.seeds u l e)) (λ e. v_marked);
          apart = λ u g r. ⊎_elim (λ e. no_goal (rw e at r)) (λ g'. S.apart u g' r) (either_place m v 1 u g);
        }
      where
        no_goal : nth roles v ≡ 2 → ⊥
        no_goal r = omega arith

pub sow_end : {n : ℕ} {roles m q o : List ℕ} {t v : ℕ} → Sow n roles m q o t v → n ≤ v
    → Seeded n roles (record { marks = m; queue = q; room = replicate 128 4294967295; origin = o; count = t })
sow_end S l =
    record {
      tree = λ N same roled. S.tree N (replicate 128 4294967295) same roled refl (λ v h. get_or-replicate 128 v 4294967295 0 h);
      seeds = λ u b e. S.seeds u (omega arith) e;
      apart = S.apart;
    }
