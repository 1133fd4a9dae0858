-- What the search over open branches promises, on the rows of a network.
use Rattle.std.specs.Prelude.{◌≡◌, Bool, true, false, not, ◌&&◌, cond, List, ℕ, ◌≤◌, ◌<◌, eqb, ltb, get_or}
use Rattle.rows.specs.Row.{nth}
use Rattle.rows.specs.Bit.{has}
use Rattle.rows.specs.Sum.{Group, differ}
use Rattle.grid.specs.Reach.{OnIsland}
use Rattle.search.specs.InsideLinks.{Linked}
use Rattle.search.specs.declared.Wires.{Wires}

-- The open branches of a row.
abbrev pub opened : List ℕ → Group
opened ways k = ltb 0 (nth ways k)

-- What the search asks for: links, and ways that are no more than limits are.
pub record Openable (W : Wires) (ways : List ℕ) : Type 0 where
  pub linked : Linked W
  pub small : (k : ℕ) → k < W.branches → nth ways k ≤ 1000000

-- Two buses that are not the same.
pub record Apart (W : Wires) (u v : ℕ) : Type 0 where
  pub from_in : u < W.buses
  pub to_in : v < W.buses
  pub different : u ≡ v → ⊥

-- `leads`: whether a path of open branches leads from one bus to the other.
pub record Leading (W : Wires) (ways : List ℕ) (u v : ℕ) (r : Bool) : Type 0 where
  pub path : r ≡ true → OnIsland W.branches (nth W.first) (nth W.second) (opened ways) u v
  pub no_path : r ≡ false → OnIsland W.branches (nth W.first) (nth W.second) (opened ways) u v → ⊥

-- A path of open branches other than k leads from its first end to its second.
abbrev pub JoinedBy : Wires → List ℕ → ℕ → Type 0
JoinedBy W ways k =
    OnIsland W.branches (nth W.first) (nth W.second) (λ j. cond (eqb j k) false (opened ways j)) (nth W.first k) (nth W.second k)

-- `joined`: whether there is one.
pub record Joining (W : Wires) (ways : List ℕ) (k : ℕ) (r : Bool) : Type 0 where
  pub path : r ≡ true → JoinedBy W ways k
  pub no_path : r ≡ false → JoinedBy W ways k → ⊥

-- Branch j is in service, isn't k, and has exactly one end in the group.
unfoldable pub leaves_at : Wires → List Bool → ℕ → List ℕ → ℕ → Bool
leaves_at W served k group j = (get_or served j false && not (eqb j k)) && differ (has group (nth W.first j)) (has group (nth W.second j))
