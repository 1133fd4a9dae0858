-- Branches that would island. Document 02, W7: 'A branch that document 01 calls short and whose ends are joined by no path of other in-service
-- branches gets verdict 3'.
use Rattle.std.specs.Prelude.{◌≡◌, ℕ}
use Rattle.grid.specs.Reach.{OnIsland}
use Rattle.verdict.specs.Case.{Case, out}

-- The ends of branch b are joined by a path of other in-service branches: of those of the case without b, whatever their limits.
abbrev pub Joined : Case → ℕ → Type 0
Joined C b = OnIsland C.branches C.first C.second (out C b).served (C.first b) (C.second b)

-- The verdict n of a branch b that is short: 2 where its ends are joined so, 3 where they are not.
pub data ShortNumber (C : Case) (b n : ℕ) : Type 0 where
  joined : Joined C b → n ≡ 2 → ShortNumber C b n
  islands : (Joined C b → ⊥) → n ≡ 3 → ShortNumber C b n
