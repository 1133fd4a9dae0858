-- From the scan's end to the answer, and from the answer to what a caller that took it apart has.
use mathlib.Core.Path.{◌≡◌, refl, subst}
use mathlib.Core.List.{List}
use mathlib.Core.Logic.{⊎_elim}
use Prim.Native.Nat.{ℕ, ◌+◌, ◌-◌, ◌<◌, ◌≤◌}
use native.Mathlib.Omega.{arith}
use lib.ListN.{set}
use lib.Seq.{get_or-set_same}
use Rattle.rows.specs.Row.{nth}
use Rattle.search.specs.InsideSearch.{scene, Grouped, Routed, Queued, Stopped, RouteOrGroup, Searched}
use Rattle.search.specs.Inside.{Tree, Packed}
use Rattle.search.specs.declared.Wires.{Wires}
use Rattle.search.specs.declared.Latent.{Latent}
use Rattle.search.specs.declared.Work.{Work}
use Rattle.search.specs.declared.Search.{Search}
use Rattle.search.specs.declared.Search.TheVariants.{Route, Group}
use Rattle.search.specs.declared.Found.{Found}
use Rattle.search.specs.declared.Grown.{Grown}
use Rattle.search.proofs.Marking.{either_place}
use Rattle.search.proofs.Tree.{tree_queued}
use Rattle.search.proofs.Scan.{Scan}
use Rattle.search.proofs.MarkedReached.{scan_reached}

-- A goal that is marked where none was is the only one, and the last of the queue.
pub stopped : {W : Wires} {latent : Latent} {roles m q w o : List ℕ} {h t : ℕ} (to mark : ℕ) → Scan W latent roles m q w o h t → t < 128
    → Stopped (scene W latent roles) (set m to mark) (set q t to) (t + 1) to
stopped {m = m} {q} {t = t} to mark S l =
    let e : t + 1 - 1 ≡ t = omega arith in
    record {
      some = omega arith;
      last = rw e (get_or-set_same q t to 0 (omega (arith, S.tree.slots)));
      only = λ u g r. ⊎_elim (λ e. e) (λ g'. absurd (S.apart u g' r)) (either_place m to mark u g);
    }

module _ {W : Wires} {w : Work} {roles : List ℕ} {T : Grown} where
  searched : (answer : Search) (r : Found) → Tree (scene W w.latent roles) T.marks T.queue T.room T.origin T.count
      → Packed answer w T r → RouteOrGroup (scene W w.latent roles) T.marks T.queue T.count r.group answer → Searched W w roles r
  searched answer r t P said =
      record {
        same_latent = rw P.same_work refl;
        queued =
            rw (P.same_work, P.same_taken)
            (tree_queued (scene W w.latent roles) T.marks T.queue T.room T.origin T.count t);
        said = rw (P.same_work, P.same_taken, P.same_answer) said;
      }

  pub searched_group : {h : ℕ} → Scan W w.latent roles T.marks T.queue T.room T.origin h T.count → T.count ≤ h
      → {T₁ : Grown} {answer : Search} {r : Found} → Packed answer w T₁ r → T₁ ≡ T → answer ≡ Group → Searched W w roles r
  searched_group S l {r = r} P i j =
      let P' : Packed Group w T r = rw (i, j) at P in
      searched Group r S.tree P' (record { reached = scan_reached S l; apart = λ v b. S.apart v; bits = P'.shown })

  pub searched_route : {v x s : ℕ} → Tree (scene W w.latent roles) T.marks T.queue T.room T.origin T.count
      → Routed (scene W w.latent roles) T.marks v x s → Stopped (scene W w.latent roles) T.marks T.queue T.count v
      → {T₁ : Grown} {answer : Search} {r : Found} → Packed answer w T₁ r → T₁ ≡ T → answer ≡ Route v x s → Searched W w roles r
  searched_route {v} {x} {s} t R Z {r = r} P i j =
      let P' : Packed (Route v x s) w T r = rw (i, j) at P in
      searched (Route v x s) r t P' (R, Z, P'.shown)

module _ {W : Wires} {w : Work} {roles : List ℕ} {r : Found} (S : Searched W w roles r) where
  pub route_of : {v x s : ℕ} → r.answer ≡ Route v x s → Routed (scene W w.latent roles) r.work.marks v x s
  route_of e = (subst (RouteOrGroup (scene W w.latent roles) r.work.marks r.work.queue r.taken r.group) e S.said).0

  pub group_of : r.answer ≡ Group → Grouped (scene W w.latent roles) r.work.marks r.group
  group_of e = subst (RouteOrGroup (scene W w.latent roles) r.work.marks r.work.queue r.taken r.group) e S.said

-- Only buses of the network are marked.
pub marked_bus : {n t : ℕ} {m q : List ℕ} → Queued n m q t → (v : ℕ) → 0 < nth m v → v < n
marked_bus {n} Q v h = let p = Q.held v h in subst (λ (u : ℕ). u < n) p.2 (Q.bus p.0 p.1)
