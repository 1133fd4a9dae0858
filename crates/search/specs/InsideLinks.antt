-- The rows of a network, and the links that give a bus's branches in rising number.
use Rattle.std.specs.Prelude.{◌≡◌, List, ◌⊎◌, ℕ, ◌+◌, ◌*◌, ◌/◌, ◌%◌, ◌<◌, ◌≤◌}
use Rattle.rows.specs.Row.{nth}
use Rattle.search.specs.declared.Wires.{Wires}

-- At most 128 buses and 256 branches, and both ends of every branch are buses.
pub record Linkable (buses branches : ℕ) (f s : List ℕ) : Type 0 where
  pub few : buses ≤ 128
  pub size : branches ≤ 256
  pub first_in : (k : ℕ) → k < branches → nth f k < buses
  pub second_in : (k : ℕ) → k < branches → nth s k < buses

-- Bus v is an end of branch k.
abbrev pub Touches : List ℕ → List ℕ → ℕ → ℕ → Type 0
Touches f s k v = (nth f k ≡ v) ⊎ (nth s k ≡ v)

-- Branch k is met at bus v by a side: k itself at its first end, k + 256 at its second.
pub data Met (f s : List ℕ) (v k side : ℕ) : Type 0 where
  at_first : side ≡ k → nth f k ≡ v → Met f s v k side
  at_second : side ≡ k + 256 → nth s k ≡ v → Met f s v k side

-- The branch of a side; of 512, which is none, 256.
abbrev pub branch_of : ℕ → ℕ
branch_of side = side % 256 + 256 * (side / 512)

-- `side` meets at v the least branch from `low` to below n that touches v, or is 512 with none.
pub record Least (n : ℕ) (f s : List ℕ) (low v side : ℕ) : Type 0 where
  pub top : side ≤ 512
  pub above : low ≤ branch_of side
  pub under : side < 512 → side % 256 < n
  pub met : side < 512 → Met f s v (side % 256) side
  pub none : (j : ℕ) → low ≤ j → j < branch_of side → j < n → Touches f s j v → ⊥

-- `head` of a bus is the side of its lowest branch; after each side of a branch stands the next one at the same bus,
-- and `far` has the bus at the other end.
pub record Linked (W : Wires) : Type 0 where
  pub wired : Linkable W.buses W.branches W.first W.second
  pub lowest : (v : ℕ) → v < W.buses → Least W.branches W.first W.second 0 v (nth W.head v)
  pub next_first : (k : ℕ) → k < W.branches → Least W.branches W.first W.second (k + 1) (nth W.first k) (nth W.after k)
  pub next_second : (k : ℕ) → k < W.branches → Least W.branches W.first W.second (k + 1) (nth W.second k) (nth W.after (k + 256))
  pub far_first : (k : ℕ) → k < W.branches → nth W.far k ≡ nth W.second k
  pub far_second : (k : ℕ) → k < W.branches → nth W.far (k + 256) ≡ nth W.first k

-- What `link` gives: the rows as they were, linked.
pub record Wiring (buses branches : ℕ) (f s : List ℕ) (W : Wires) : Type 0 where
  pub same_buses : W.buses ≡ buses
  pub same_branches : W.branches ≡ branches
  pub same_first : W.first ≡ f
  pub same_second : W.second ≡ s
  pub linked : Linked W
