-- With every queued bus done, the marked buses are those reached.
use mathlib.Core.Path.{◌≡◌}
use mathlib.Core.List.{List}
use Prim.Native.Nat.{ℕ, ◌<◌, ◌≤◌}
use native.Mathlib.Omega.{arith}
use borrow.Author.Tests.{lt-ltb, ltb-true}
use Rattle.rows.specs.Row.{nth}
use Rattle.grid.specs.Reach.{Reach, here as begun, onward as led}
use Rattle.grid.proofs.ReachBySteps.{Reached}
use Rattle.search.specs.InsideSearch.{scene, Step, Start, marked}
use Rattle.search.specs.declared.Wires.{Wires}
use Rattle.search.specs.declared.Latent.{Latent}
use Rattle.search.proofs.Tree.{marked_reached}
use Rattle.search.proofs.Scan.{Scan}

pub scan_reached : {W : Wires} {latent : Latent} {roles m q w o : List ℕ} {h t : ℕ} → Scan W latent roles m q w o h t → t ≤ h
    → Reached (Step (scene W latent roles)) (Start (scene W latent roles)) W.buses (marked m)
scan_reached {W} {latent} {roles} {m} {q} {w} {o} {h} {t} S l =
    record {
      sound = λ v d g. marked_reached (scene W latent roles) m q w o t S.tree v (ltb-true 0 (nth m v) g);
      complete = λ v r. lt-ltb 0 (nth m v) (all_marked r);
    }
  where
    shut : (u v : ℕ) → 0 < nth m u → Step (scene W latent roles) u v → 0 < nth m v
    shut u v g s =
        let r : (p : ℕ) × (p < t) × (nth q p ≡ u) = S.tree.held u g in
        S.closed r.0 s.branch s.capacity v (omega (arith, r.1)) (rw r.2 s.arc)

    all_marked : {v : ℕ} → Reach (Step (scene W latent roles)) (Start (scene W latent roles)) v → 0 < nth m v
    all_marked (begun s) = S.seeds _ s.bus s.role
    all_marked (led {u} {v} r s) = shut u v (all_marked r) s
