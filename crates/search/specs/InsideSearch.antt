-- What one search says: a route with its smallest latent capacity and its start, or the group reached.
use Rattle.std.specs.Prelude.{◌≡◌, Bool, cond, List, [], ◌∷◌, ℕ, ◌+◌, ◌-◌, ◌<◌, ◌≤◌, min, eqb, ltb, length, replicate}
use Rattle.rows.specs.Row.{nth}
use Rattle.rows.specs.Bit.{has}
use Rattle.grid.proofs.ReachBySteps.{Reached}
use Rattle.search.specs.InsideLinks.{Linked}
use Rattle.search.specs.declared.Wires.{Wires}
use Rattle.search.specs.declared.Latent.{Latent}
use Rattle.search.specs.declared.Work.{Work}
use Rattle.search.specs.declared.Search.{Search}
use Rattle.search.specs.declared.Search.TheVariants.{Route, Group}
use Rattle.search.specs.declared.Found.{Found}

-- What a search looks at: latent capacities of the branches, and the roles of the buses (1 start, 2 goal).
pub record Scene : Type 0 where
  pub buses : ℕ
  pub branches : ℕ
  pub first : List ℕ
  pub second : List ℕ
  pub ahead : List ℕ
  pub back : List ℕ
  pub roles : List ℕ

abbrev pub scene : Wires → Latent → List ℕ → Scene
scene W latent roles = record {
  buses = W.buses;
  branches = W.branches;
  first = W.first;
  second = W.second;
  ahead = latent.ahead;
  back = latent.back;
  roles = roles;
}

-- A branch with ends a and b and latent x ahead and y back leads from bus u to bus v, with the latent capacity c.
pub data Way (c u a b x y v : ℕ) : Type 0 where
  forth : a ≡ u → b ≡ v → x ≡ c → Way c u a b x y v
  back : b ≡ u → a ≡ v → y ≡ c → Way c u a b x y v

-- Branch k leads from bus u to bus v with the latent capacity c, above 0.
pub record Arc (N : Scene) (k c u v : ℕ) : Type 0 where
  pub below : k < N.branches
  pub some : 0 < c
  pub way : Way c u (nth N.first k) (nth N.second k) (nth N.ahead k) (nth N.back k) v

-- One step of a search: over some branch with latent capacity that way.
pub record Step (N : Scene) (u v : ℕ) : Type 0 where
  pub branch : ℕ
  pub capacity : ℕ
  pub arc : Arc N branch capacity u v

pub record Start (N : Scene) (v : ℕ) : Type 0 where
  pub bus : v < N.buses
  pub role : nth N.roles v ≡ 1

abbrev pub marked : List ℕ → ℕ → Bool
marked m v = ltb 0 (nth m v)

-- The bytes g hold the marked buses.
pub record Bits (m g : List ℕ) : Type 0 where
  pub bit : (v : ℕ) → v < 128 → has g v ≡ marked m v
  pub byte : (j : ℕ) → j < 16 → nth g j < 256

-- The marks are on the reached buses and no others, and on no goal.
pub record Grouped (N : Scene) (m g : List ℕ) : Type 0 where
  pub reached : Reached (Step N) (Start N) N.buses (marked m)
  pub apart : (v : ℕ) → v < N.buses → 0 < nth m v → nth N.roles v ≡ 2 → ⊥
  pub bits : Bits m g

-- A branch with ends a and b joins u to v.
pub data Joins (u a b v : ℕ) : Type 0 where
  forth : a ≡ u → b ≡ v → Joins u a b v
  back : b ≡ u → a ≡ v → Joins u a b v

-- The marks lead from bus v back to bus `from`, over the branches ks: 1 marks a start, k + 2 a bus that branch k led to.
pub data Path (n : ℕ) (f s m : List ℕ) (from : ℕ) : ℕ → List ℕ → Type 0 where
  stop : (v : ℕ) → from ≡ v → v < 128 → nth m v ≡ 1 → Path n f s m from v []
  via : (k u v : ℕ) (ks : List ℕ) → v < 128 → k < n → Joins u (nth f k) (nth s k) v → (u ≡ v → ⊥) → nth m v ≡ k + 2 → Path n f s m from u ks
      → Path n f s m from v (k ∷ ks)

-- The smallest latent capacity towards v on the way back from v over ks; the largest number of 32 bits where ks is empty.
abbrev pub narrow : List ℕ → List ℕ → List ℕ → List ℕ → ℕ → List ℕ → ℕ
narrow f s a b v [] = 4294967295
narrow f s a b v (k ∷ ks) =
    min
    (narrow f s a b (cond (eqb (nth s k) v) (nth f k) (nth s k)) ks)
    (cond (eqb (nth s k) v) (nth a k) (nth b k))

-- The buses on the way back from v over ks.
abbrev pub stops : List ℕ → List ℕ → ℕ → List ℕ → List ℕ
stops f s v [] = v ∷ []
stops f s v (k ∷ ks) = v ∷ stops f s (cond (eqb (nth s k) v) (nth f k) (nth s k)) ks

-- No number stands in xs twice.
pub record Distinct (xs : List ℕ) : Type 0 where
  pub once : (i j : ℕ) → i < j → j < length xs → nth xs i ≡ nth xs j → ⊥

-- A way from a start to bus v, of which r is exactly the smallest latent capacity.
pub record Trail (n : ℕ) (f s a b m : List ℕ) (v r : ℕ) : Type 0 where
  pub from : ℕ
  pub ks : List ℕ
  pub path : Path n f s m from v ks
  pub least : r ≡ narrow f s a b v ks
  pub short : length ks < 128
  pub branches_once : Distinct ks
  pub buses_once : Distinct (stops f s v ks)

-- A route from the start s to the goal v.
pub record Routed (N : Scene) (m : List ℕ) (v r s : ℕ) : Type 0 where
  pub bus : v < N.buses
  pub goal : nth N.roles v ≡ 2
  pub some : 0 < r
  pub trail : Trail N.branches N.first N.second N.ahead N.back m v r
  pub starts : trail.from ≡ s
  pub origin : Start N s

-- The first t places of the queue hold each marked bus once, and no other.
pub record Queued (n : ℕ) (m q : List ℕ) (t : ℕ) : Type 0 where
  pub few : t ≤ 128
  pub bus : (p : ℕ) → p < t → nth q p < n
  pub mark : (p : ℕ) → p < t → 0 < nth m (nth q p)
  pub held : (v : ℕ) → 0 < nth m v → (p : ℕ) × (p < t) × (nth q p ≡ v)
  pub once : (p p' : ℕ) → p < p' → p' < t → nth q p ≡ nth q p' → ⊥

-- The scan stopped the moment it reached the goal v: v is the last of the t buses queued, and no other goal is marked.
pub record Stopped (N : Scene) (m q : List ℕ) (t v : ℕ) : Type 0 where
  pub some : 0 < t
  pub last : nth q (t - 1) ≡ v
  pub only : (u : ℕ) → 0 < nth m u → nth N.roles u ≡ 2 → u ≡ v

-- Of t buses queued in q and marked in m.
abbrev pub RouteOrGroup : Scene → List ℕ → List ℕ → ℕ → List ℕ → Search → Type 0
RouteOrGroup N m q t g (Route v r s) = Routed N m v r s × Stopped N m q t v × (g ≡ replicate 16 0)
RouteOrGroup N m q t g Group = Grouped N m g

-- What a search asks for: links, and no mark yet.
pub record Searchable (W : Wires) (w : Work) : Type 0 where
  pub linked : Linked W
  pub blank : w.marks ≡ replicate 128 0

pub record Searched (W : Wires) (w : Work) (roles : List ℕ) (r : Found) : Type 0 where
  pub same_latent : r.work.latent ≡ w.latent
  pub queued : Queued W.buses r.work.marks r.work.queue r.taken
  pub said : RouteOrGroup (scene W w.latent roles) r.work.marks r.work.queue r.taken r.group r.answer
