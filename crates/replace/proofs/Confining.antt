-- The network of the named branches alone, every other branch's flow moved into the injections.
use mathlib.Core.Path.{◌≡◌, refl, ap, sym, ◌∙◌}
use mathlib.Core.Bool.{Bool, true, false, not, ◌&&◌}
use mathlib.Core.List.{List}
use Prim.Native.Nat.{ℕ, ◌+◌, ◌≤◌, ◌<◌}
use native.Mathlib.Omega.{arith}
use borrow.Author.Tests.{eq-eqb, ne_eqb}
use lib.Dec.{eqb}
use lib.ListN.{length}
use Rattle.rows.specs.Row.{nth}
use Rattle.rows.specs.Bit.{has}
use Rattle.rows.specs.Sum.{Group, all, pick, over}
use Rattle.rows.proofs.Sum.{over_add, over_same, over_zero, over_all, over_term}
use Rattle.grid.proofs.Net.{Net, gains, loads, without}
use Rattle.grid.proofs.Flow.{Flow, Within, Balanced, at_end}
use Rattle.grid.proofs.Cut.{Settled, upper, whole}
use Rattle.grid.proofs.Without.{ends_without}
use Rattle.search.specs.declared.Wires.{Wires}
use Rattle.search.specs.declared.Latent.{Latent}
use Rattle.reroute.specs.InsideMoves.{network, carried, NoneAt, TwiceLimit, Reroutable, Settles, Reroutes}
use Rattle.reroute.specs.Inside.{cut_at, Opened}
use Rattle.reroute.specs.InsideVerdicts.{Carrying, Losable}
use Rattle.reroute.specs.declared.Rest.{Rest}
use Rattle.reroute.specs.declared.Moved.{Moved}
use Rattle.reroute.proofs.FlowVerdicts.{linked_ends}
use Rattle.replace.specs.Inside.{Chosen, NamedOnly}
use Rattle.replace.proofs.Split.{rest, only, split}
use Rattle.replace.proofs.MergedRows.{nothing, merged_outside, merged_lost}
use Rattle.replace.proofs.AttemptRows.{kept_same, lost_none, ahead_is, back_is}
use Rattle.replace.proofs.KeptBranches.{keep_of, keep_k, kept, lost, other, kind}

-- q: what the first attempt may use.
module _ (W : Wires) (live : List ℕ) (latent : Latent) (named : List ℕ) (k : ℕ) (P : Losable W live latent k) (la : length latent.ahead ≡ 256)
    (lb : length latent.back ≡ 256) (q : Latent) (Q : Chosen W.branches named (cut_at latent k) nothing q) where
  abbrev keep : Group
  keep = keep_of named k

  abbrev lim : ℕ → ℕ
  lim = only keep (nth live)

  even° : TwiceLimit W.branches q lim
  even° = record {
    twice = λ j u. rw (ahead_is W live latent named k P la lb q Q j u, back_is W live latent named k P la lb q Q j u) (go (keep j) (nth latent.ahead j) (nth latent.back j) (nth live j) (P.even.twice j u));
  }
    where
      go : (t : Bool) (x y z : ℕ) → x + y ≡ z + z → pick t x + pick t y ≡ pick t z + pick t z
      go true x y z e = e
      go false x y z e = refl

  low : (t : Bool) (x : ℕ) → x ≤ 1000000 → pick t x ≤ 1000000
  low true x h = h
  low false x h = omega arith

  module _ (spill : Rest) (O : Opened W live latent k spill) where
    pub ready : Reroutable W q spill
    ready = record {
      linked = P.linked;
      sums = record { fit = λ j u. omega (arith, even°.twice j u, low (keep j) (nth live j) (P.limits j u)) };
      small = λ i h. omega (arith, O.small i);
      apart = λ i h. O.apart i;
    }

    module _ (gain load : ℕ → ℕ) (B : Balanced (network W (nth live) gain load) (carried (nth live) latent.ahead) (λ i. 0) (λ i. 0)) where
      abbrev N : Net
      N = network W (nth live) gain load

      abbrev at_first : (ℕ → ℕ) → ℕ → ℕ
      at_first x i = at_end N N.first x i

      abbrev at_second : (ℕ → ℕ) → ℕ → ℕ
      at_second x i = at_end N N.second x i

      -- What the other branches bring and take.
      abbrev gain° : ℕ → ℕ
      gain° i = gain i + (at_second (only (rest keep k) (nth live)) i + at_first (only (rest keep k) (nth latent.ahead)) i)

      abbrev load° : ℕ → ℕ
      load° i = load i + (at_first (only (rest keep k) (nth live)) i + at_second (only (rest keep k) (nth latent.ahead)) i)

      abbrev N° : Net
      N° = network W lim gain° load°

      parts : (p x : ℕ → ℕ) (i : ℕ) → at_end N p x i ≡ at_end N p (only keep x) i + at_end N p (only (rest keep k) x) i + pick (eqb (p k) i) (x k)
      parts p x i = split keep k (keep_k named k) W.branches (λ j. eqb (p j) i) x P.below

      row_same : (p x y : ℕ → ℕ) (i : ℕ) → ((j : ℕ) → j < W.branches → x j ≡ y j) → at_end N p x i ≡ at_end N p y i
      row_same p x y i h = over_same W.branches (λ j. eqb (p j) i) (λ j. eqb (p j) i) x y (λ j u. ap (pick (eqb (p j) i)) (h j u))

      balanced° : Settles W lim gain° load° q spill
      balanced° = record {
        bus = λ i h. omega (
          arith,
          B.bus i h,
          O.differ i,
          parts N.first (nth live) i,
          parts N.second (nth live) i,
          parts N.first (nth latent.ahead) i,
          parts N.second (nth latent.ahead) i,
          row_same N.first (nth q.ahead) (only keep (nth latent.ahead)) i (ahead_is W live latent named k P la lb q Q),
          row_same N.second (nth q.ahead) (only keep (nth latent.ahead)) i (ahead_is W live latent named k P la lb q Q),
        );
      }

      abbrev M : Net
      M = without N k

      -- The limits without k, taken apart.
      limit_kept : (j : ℕ) → only keep M.limit j ≡ lim j
      limit_kept j = elim (kind named k j) [
        | kept n e y z ↦ rw (y, ne_eqb j k n) refl
        | lost e ↦ rw (e, keep_k named k) refl
        | other n e y z ↦ rw y refl
      ]

      limit_rest : (j : ℕ) → only (rest keep k) M.limit j ≡ only (rest keep k) (nth live) j
      limit_rest j = elim (kind named k j) [
        | kept n e y z ↦ rw z refl
        | lost e ↦ rw (e, eq-eqb k k refl) (go (has named k))
        | other n e y z ↦ rw (z, ne_eqb j k n) refl
      ]
        where
          go : (t : Bool) → pick (not (t && false) && false) 0 ≡ pick (not (t && false) && false) (nth live k)
          go true = refl
          go false = refl

      limit_lost : M.limit k ≡ 0
      limit_lost = rw (eq-eqb k k refl) refl

      module _ (m : Moved) (R : Reroutes W q spill m) where
        idle_at : (j : ℕ) → j < W.branches → keep j ≡ false → NoneAt m.latent j
        idle_at j u e = R.idle j (ahead_is W live latent named k P la lb q Q j u ∙ rw e refl, back_is W live latent named k P la lb q Q j u ∙ rw e refl)

        -- ---- The named branches took the whole flow.
        module _ (r : Latent) (G : Chosen W.branches named m.latent (cut_at latent k) r) where
          gone : NoneAt r k
          gone = merged_lost W live latent named k P la lb G (R.idle k (lost_none W live latent named k P la lb q Q))

          merged_kept : (j : ℕ) → j < W.branches → only keep (nth r.ahead) j ≡ nth m.latent.ahead j
          merged_kept j u = elim (kind named k j) [
            | kept n e y z ↦ rw y (G.inside j u e).0
            | lost e ↦ rw (e, keep_k named k) (sym (idle_at k P.below (keep_k named k)).0)
            | other n e y z ↦ rw y (sym (idle_at j u y).0)
          ]

          merged_rest : (j : ℕ) → only (rest keep k) (nth r.ahead) j ≡ only (rest keep k) (nth latent.ahead) j
          merged_rest j = elim (kind named k j) [
            | kept n e y z ↦ rw z refl
            | lost e ↦ rw (e, eq-eqb k k refl) (go (has named k))
            | other n e y z ↦ rw z (merged_outside W live latent named k P la lb G j n e).0
          ]
            where
              go : (t : Bool) → pick (not (t && false) && false) (nth r.ahead k) ≡ pick (not (t && false) && false) (nth latent.ahead k)
              go true = refl
              go false = refl

          merged_balanced : Balanced M (carried M.limit r.ahead) (nth m.rest.surplus) (nth m.rest.deficit)
          merged_balanced = record {
            bus = λ i h. omega (
              arith,
              (R.balanced lim gain° load° balanced°).bus i h,
              parts N.first M.limit i,
              parts N.second M.limit i,
              parts N.first (nth r.ahead) i,
              parts N.second (nth r.ahead) i,
              row_same N.first (only keep M.limit) lim i (λ j u. limit_kept j),
              row_same N.second (only keep M.limit) lim i (λ j u. limit_kept j),
              row_same N.first (only (rest keep k) M.limit) (only (rest keep k) (nth live)) i (λ j u. limit_rest j),
              row_same N.second (only (rest keep k) M.limit) (only (rest keep k) (nth live)) i (λ j u. limit_rest j),
              row_same N.first (only keep (nth r.ahead)) (nth m.latent.ahead) i merged_kept,
              row_same N.second (only keep (nth r.ahead)) (nth m.latent.ahead) i merged_kept,
              row_same N.first (only (rest keep k) (nth r.ahead)) (only (rest keep k) (nth latent.ahead)) i (λ j u. merged_rest j),
              row_same N.second (only (rest keep k) (nth r.ahead)) (only (rest keep k) (nth latent.ahead)) i (λ j u. merged_rest j),
              ap (pick (eqb (N.first k) i)) limit_lost,
              ap (pick (eqb (N.second k) i)) limit_lost,
              ap (pick (eqb (N.first k) i)) gone.0,
              ap (pick (eqb (N.second k) i)) gone.0,
            );
          }

          merged_within : Within M (carried M.limit r.ahead)
          merged_within = record { ahead_fits = λ j u. omega arith; back_fits = back_fits }
            where
              back_fits : (j : ℕ) → j < W.branches → nth r.ahead j ≤ M.limit j + M.limit j
              back_fits j u = elim (kind named k j) [
                | kept n e y z ↦ rw (ne_eqb j k n) (omega (arith, (G.inside j u e).0, R.kept j, (kept_same W live latent named k P la lb q Q j u n e).0, (kept_same W live latent named k P la lb q Q j u n e).1, P.even.twice j u))
                | lost e ↦ rw e (omega (arith, gone.0))
                | other n e y z ↦ rw (ne_eqb j k n) (omega (arith, (merged_outside W live latent named k P la lb G j n e).0, P.even.twice j u))
              ]

          pub confined_carries : m.left ≡ 0 → Carrying M (carried M.limit r.ahead)
          confined_carries z = record {
            within = merged_within;
            balanced = λ g. record {
              bus = λ i h. omega (arith, merged_balanced.bus i h, over_term W.buses all (nth m.rest.surplus) i h, over_term W.buses all (nth m.rest.deficit) i h, R.left_over, none g);
            };
            groups = λ S. omega (arith, upper M (carried M.limit r.ahead) (nth m.rest.surplus) (nth m.rest.deficit) settled S, over_all W.buses S (nth m.rest.surplus), R.left_over);
          }
            where
              settled : Settled M (carried M.limit r.ahead) (nth m.rest.surplus) (nth m.rest.deficit)
              settled = record {
                ends = ends_without N k (linked_ends W P.linked (nth live) gain load);
                within = merged_within;
                balanced = merged_balanced;
              }

              none : gains M all ≡ loads M all → over W.buses all (nth m.rest.deficit) ≡ 0
              none g = omega (
                arith,
                z,
                R.left_over,
                whole M (carried M.limit r.ahead) (nth m.rest.surplus) (nth m.rest.deficit) settled.ends merged_balanced all,
              )

        -- ---- They could not: then no flow confined to them fits.
        module _ (h : Flow) (F : NamedOnly W live latent.ahead named k gain load h) where
          held : Flow
          held = record { ahead = only keep h.ahead; back = only keep h.back }

          held_within : Within N° held
          unfolding held
          held_within = record { ahead_fits = λ j u. (fits j u).0; back_fits = λ j u. (fits j u).1 }
            where
              fits : (j : ℕ) → j < W.branches
                  → (only keep h.ahead j ≤ only keep h.back j + lim j) × (only keep h.back j ≤ only keep h.ahead j + lim j)
              fits j u = elim (kind named k j) [
                | kept n e y z ↦ rw y (rw (ne_eqb j k n) at (F.within.ahead_fits j u), rw (ne_eqb j k n) at (F.within.back_fits j u))
                | lost e ↦ rw (e, keep_k named k) (omega arith, omega arith)
                | other n e y z ↦ rw y (omega arith, omega arith)
              ]

          lost_same : h.ahead k ≡ h.back k
          lost_same = omega (arith, F.within.ahead_fits k P.below, F.within.back_fits k P.below, limit_lost)

          -- On the branches that are neither kept nor k, the flow is the present one.
          rest_same : (p : ℕ → ℕ) (i : ℕ)
              → at_end N p (only (rest keep k) h.ahead) i + at_end N p (only (rest keep k) (nth latent.ahead)) i ≡ at_end N p (only (rest keep k) (nth live)) i + at_end N p (only (rest keep k) h.back) i
          rest_same p i =
              let S : Group = λ j. eqb (p j) i in
              omega (
                arith,
                over_add W.branches S (only (rest keep k) h.ahead) (only (rest keep k) (nth latent.ahead)),
                over_add W.branches S (only (rest keep k) (nth live)) (only (rest keep k) h.back),
                over_same W.branches S S (λ j. only (rest keep k) h.ahead j + only (rest keep k) (nth latent.ahead) j) (λ j. only (rest keep k) (nth live) j + only (rest keep k) h.back j) (λ j u. ap (pick (S j)) (at j u)),
              )
            where
              at : (j : ℕ) → j < W.branches
                  → only (rest keep k) h.ahead j + only (rest keep k) (nth latent.ahead) j ≡ only (rest keep k) (nth live) j + only (rest keep k) h.back j
              at j u = elim (kind named k j) [
                | kept n e y z ↦ rw z refl
                | lost e ↦ rw (e, eq-eqb k k refl) (none (has named k))
                | other n e y z ↦ rw z (F.same j u n e)
              ]
                where
                  none : (t : Bool)
                      → pick (not (t && false) && false) (h.ahead k) + pick (not (t && false) && false) (nth latent.ahead k) ≡ pick (not (t && false) && false) (nth live k) + pick (not (t && false) && false) (h.back k)
                  none true = refl
                  none false = refl

          held_balanced : Balanced N° held (λ i. 0) (λ i. 0)
          unfolding held
          held_balanced = record {
            bus = λ i u. omega (
              arith,
              F.balanced.bus i u,
              parts N.first h.ahead i,
              parts N.second h.ahead i,
              parts N.first h.back i,
              parts N.second h.back i,
              rest_same N.first i,
              rest_same N.second i,
              ap (pick (eqb (N.first k) i)) lost_same,
              ap (pick (eqb (N.second k) i)) lost_same,
            );
          }

          pub none_confined : 0 < m.left → ⊥
          none_confined p =
              omega (
                arith,
                upper N° held (λ i. 0) (λ i. 0) (record { ends = linked_ends W P.linked lim gain° load°; within = held_within; balanced = held_balanced }) (has m.group),
                over_zero W.buses (has m.group),
                (R.smallest lim gain° load° even° balanced°).reaches,
              )
