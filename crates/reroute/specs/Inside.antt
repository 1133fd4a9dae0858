-- What the inner functions of rerouting promise.
use Rattle.std.specs.Prelude.{◌≡◌, List, ℕ, zero, suc, ◌+◌, ◌<◌, ◌≤◌, min, eqb, set, replicate, length, Option, None, Some}
use Rattle.rows.specs.Row.{nth}
use Rattle.rows.specs.Sum.{pick, over}
use Rattle.search.specs.InsideSearch.{Path, Trail}
use Rattle.search.specs.declared.Wires.{Wires}
use Rattle.search.specs.declared.Latent.{Latent}
use Rattle.reroute.specs.InsideMoves.{both_ways, Sums}
use Rattle.reroute.specs.declared.Rest.{Rest}
use Rattle.reroute.specs.declared.Moved.{Moved}
use Rattle.reroute.specs.declared.Shortfall.{Shortfall}
use Rattle.reroute.specs.declared.Judgement.{Judgement}

-- 1 where there is a surplus, 2 where there is a deficit alone, else 0.
abbrev pub role_of : ℕ → ℕ → ℕ
role_of (suc l) d = 1
role_of zero (suc d) = 2
role_of zero zero = 0

pub record Roles (n : ℕ) (rest : Rest) (r : List ℕ) : Type 0 where
  pub role : (i : ℕ) → i < n → nth r i ≡ role_of (nth rest.surplus i) (nth rest.deficit i)

-- The marks m lead back from v, over branches that each have x or more.
pub record Movable (W : Wires) (m : List ℕ) (latent : Latent) (v x : ℕ) : Type 0 where
  pub few : W.branches ≤ 256
  pub room : ℕ
  pub trail : Trail W.branches W.first W.second latent.ahead latent.back m v room
  pub fits : x ≤ room
  pub sums : Sums W.branches latent

-- The sum of the row a over the n branches with bus i at the end f.
abbrev pub ends : ℕ → List ℕ → List ℕ → ℕ → ℕ
ends n f a i = over n (λ k. eqb (nth f k) i) (nth a)

-- x is moved from the start of the way to v: at every bus, what leaves it less what arrives grows by x at the start and falls by x at v.
pub record Moves (W : Wires) (m : List ℕ) (latent : Latent) (v x : ℕ) (r : Latent) : Type 0 where
  pub same : (k : ℕ) → both_ways r k ≡ both_ways latent k
  pub beyond : (k : ℕ) → W.branches ≤ k → nth r.ahead k ≡ nth latent.ahead k
  -- the way takes a branch once at most
  pub rises : (k : ℕ) → nth r.ahead k ≤ nth latent.ahead k + x
  pub falls : (k : ℕ) → nth latent.ahead k ≤ nth r.ahead k + x
  pub drift :
      (from : ℕ) (ks : List ℕ) → Path W.branches W.first W.second m from v ks
      → (i : ℕ) → ends W.branches W.first r.ahead i + ends W.branches W.second latent.ahead i + pick (eqb from i) x
      ≡ ends W.branches W.first latent.ahead i + ends W.branches W.second r.ahead i + pick (eqb v i) x

-- The first n numbers of a row, few and small enough to be summed.
pub record Summable (n : ℕ) (row : List ℕ) : Type 0 where
  pub few : n ≤ 128
  pub small : (i : ℕ) → i < n → nth row i ≤ 2000000

-- Nothing is short where nothing is left, and the group g is short by what is left where some is.
abbrev pub short_by : ℕ → List ℕ → Option Shortfall
short_by zero g = None
short_by (suc n) g = Some (record { excess = suc n; group = g })

pub record Judged (m : Moved) (r : Judgement) : Type 0 where
  pub short : r.short ≡ short_by m.left m.group
  pub latent : r.latent ≡ m.latent
  pub long : length m.group ≡ 16

-- The latent capacities with none on branch k.
abbrev pub cut_at : Latent → ℕ → Latent
cut_at latent k = record { ahead = set latent.ahead k 0; back = set latent.back k 0 }

-- What is left at the ends of branch k makes up for its flow.
pub record Opened (W : Wires) (limit : List ℕ) (latent : Latent) (k : ℕ) (rest : Rest) : Type 0 where
  pub differ :
      (i : ℕ) → nth rest.deficit i + pick (eqb (nth W.first k) i) (nth limit k) + pick (eqb (nth W.second k) i) (nth latent.ahead k)
      ≡ nth rest.surplus i + pick (eqb (nth W.first k) i) (nth latent.ahead k) + pick (eqb (nth W.second k) i) (nth limit k)
  pub small : (i : ℕ) → nth rest.surplus i ≤ 1000000
  pub apart : (i : ℕ) → min (nth rest.surplus i) (nth rest.deficit i) ≡ 0

-- x left at bus u, and wanted at bus v.
abbrev pub rest_between : ℕ → ℕ → ℕ → Rest
rest_between u v x = record { surplus = set (replicate 128 0) u x; deficit = set (replicate 128 0) v x }
