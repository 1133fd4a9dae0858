-- What the inner functions of the search promise.
use Rattle.std.specs.Prelude.{◌≡◌, List, [], ◌∷◌, ℕ, zero, suc, ◌+◌, ◌-◌, ◌/◌, ◌%◌, ◌^◌, ◌<◌, ◌≤◌, min, length, replicate}
use Rattle.rows.specs.Row.{nth}
use Rattle.search.specs.InsideSearch.{Scene, Arc, Bits}
use Rattle.search.specs.declared.Work.{Work}
use Rattle.search.specs.declared.Grown.{Grown}
use Rattle.search.specs.declared.Search.{Search}
use Rattle.search.specs.declared.Search.TheVariants.{Route, Group}
use Rattle.search.specs.declared.Found.{Found}

-- The bus at place p of the queue is a start, or is joined by the branch of its mark to a bus at an earlier place.
-- w has the room of each bus and o its origin, the start of its way.
pub data Placed (N : Scene) (m q w o : List ℕ) (p : ℕ) : Type 0 where
  root : nth N.roles (nth q p) ≡ 1 → nth m (nth q p) ≡ 1 → nth w (nth q p) ≡ 4294967295 → nth o (nth q p) ≡ nth q p → Placed N m q w o p
  joined : (j k c : ℕ) → j < p → Arc N k c (nth q j) (nth q p) → nth m (nth q p) ≡ k + 2 → nth w (nth q p) ≡ min (nth w (nth q j)) c
      → nth o (nth q p) ≡ nth o (nth q j) → Placed N m q w o p

abbrev pub none : ℕ → ℕ
none zero = 1
none (suc n) = 0

-- How many of a row are 0.
abbrev pub zeros : List ℕ → ℕ
zeros [] = 0
zeros (x ∷ xs) = none x + zeros xs

-- What the marks, the queue, the rooms and the origins hold after t buses were queued.
pub record Tree (N : Scene) (m q w o : List ℕ) (t : ℕ) : Type 0 where
  pub long : length m ≡ 128
  pub slots : length q ≡ 128
  pub wide : length w ≡ 128
  pub whole : length o ≡ 128
  pub small : N.buses ≤ 128
  pub count : zeros m + t ≡ 128
  pub bus : (p : ℕ) → p < t → nth q p < N.buses
  pub place : (p : ℕ) → p < t → Placed N m q w o p
  pub held : (v : ℕ) → 0 < nth m v → (p : ℕ) × (p < t) × (nth q p ≡ v)
  pub once : (p p' : ℕ) → p < p' → p' < t → nth q p ≡ nth q p' → ⊥

-- `seed`: it asks for marks of 0, and gives a tree of starts alone, whatever the branches are, in which every start is marked and no goal.
pub record Blank (n : ℕ) (m : List ℕ) : Type 0 where
  pub few : n ≤ 128
  pub blank : m ≡ replicate 128 0

pub record Seeded (n : ℕ) (roles : List ℕ) (T : Grown) : Type 0 where
  pub tree : (N : Scene) → N.buses ≡ n → N.roles ≡ roles → Tree N T.marks T.queue T.room T.origin T.count
  pub seeds : (v : ℕ) → v < n → nth roles v ≡ 1 → 0 < nth T.marks v
  pub apart : (v : ℕ) → 0 < nth T.marks v → nth roles v ≡ 2 → ⊥

-- 1 for a number above 0.
abbrev pub flag_of : ℕ → ℕ
flag_of zero = 0
flag_of (suc n) = 1

-- `byte`: bit 7 - i of r is the flag of the mark at i from `at`.
pub record Byte (m : List ℕ) (at r : ℕ) : Type 0 where
  pub low : r < 256
  pub bit : (i : ℕ) → i < 8 → r / 2 ^ (7 - i) % 2 ≡ flag_of (nth m (at + i))

-- The group's bits beside an answer.
abbrev pub GroupBeside : Search → List ℕ → List ℕ → Type 0
GroupBeside (Route v r s) m g = g ≡ replicate 16 0
GroupBeside Group m g = Bits m g

-- `packed`: the parts of an answer, with the group's bits beside it.
pub record Packed (answer : Search) (w : Work) (T : Grown) (r : Found) : Type 0 where
  pub same_answer : r.answer ≡ answer
  pub same_taken : r.taken ≡ T.count
  pub same_work : r.work ≡ record { marks = T.marks; queue = T.queue; latent = w.latent }
  pub shown : GroupBeside answer T.marks r.group
