-- Branches that would island, over the screen and over runs: 3 is shown exactly if a branch is short and no path of other branches in service joins
-- its ends, 2 exactly if it is short and one does; and one that would island is short by its whole flow, whichever flow fits.
use mathlib.Core.Path.{◌≡◌}
use mathlib.Core.Bool.{true}
use mathlib.Core.List.{List}
use mathlib.Core.Logic.{◌↔◌}
use Prim.Native.Nat.{ℕ, ◌<◌}
use native.Mathlib.Omega.{arith}
use lib.IntN.{ℤ, nat_abs}
use Rattle.answer.specs.Answer.{Answer, Accepted}
use Rattle.layout.specs.Layout.{branches_in}
use Rattle.verdict.specs.Case.{Case, on, Fits}
use Rattle.verdict.specs.Island.{Joined}
use Rattle.verdict.specs.Record.{record_at, verdict_in, shortage_in, TrueRecord}
use Rattle.verdict.specs.Update.{Lent}
use Rattle.verdict.proofs.Shown as told
use Rattle.verdict.proofs.Shown.{Overrun}
use Rattle.state.specs.Case.{case_in}
use Rattle.state.proofs.Status.{branches_of}
use Rattle.screen.specs.Promise.{ScreenEnds}
use Rattle.demands.specs.Run.{Run}
use Rattle.demands.proofs.Demand2.{is_true, posed_case}
use Rattle.demands.proofs.Demand3.{run_true, run_posed}

-- ---- After an accepted screen.
module _ {percent : ℕ} {before after : Lent} {r : Answer} (e : ScreenEnds percent before after r) (a : r ≡ Accepted) (k : ℕ)
    (there : k < (case_in percent before.book).branches) where
  abbrev C : Case
  C = case_in percent before.book

  abbrev rec : List ℕ
  rec = record_at after.table k

  pub screen_joined : C.served k ≡ true → (verdict_in rec ≡ 2) ↔ (Overrun C k × Joined C k)
  screen_joined = told.joined_exactly C (posed_case e a k there) (on after.flow) k rec (is_true e a k there)

  pub screen_islands : C.served k ≡ true → (verdict_in rec ≡ 3) ↔ (Overrun C k × (Joined C k → ⊥))
  screen_islands = told.islands_exactly C (posed_case e a k there) (on after.flow) k rec (is_true e a k there)

  pub screen_island_flow : verdict_in rec ≡ 3 → (g : ℕ → ℤ) → Fits C C.limit g → shortage_in rec ≡ nat_abs (g k)
  screen_island_flow v = told.island_shows C (posed_case e a k there) (on after.flow) k rec (is_true e a k there) v there

-- ---- After any run of outages and returns.
module _ {percent : ℕ} {now : Lent} (run : Run percent now) (k : ℕ) (there : k < branches_in now.book) where
  abbrev D : Case
  D = case_in percent now.book

  abbrev row : List ℕ
  row = record_at now.table k

  in_case : k < D.branches
  in_case = omega (arith, branches_of percent now.book)

  shown : TrueRecord D (on now.flow) k row
  shown = (run_true run).each k in_case

  pub run_joined : D.served k ≡ true → (verdict_in row ≡ 2) ↔ (Overrun D k × Joined D k)
  run_joined = told.joined_exactly D (run_posed run) (on now.flow) k row shown

  pub run_islands : D.served k ≡ true → (verdict_in row ≡ 3) ↔ (Overrun D k × (Joined D k → ⊥))
  run_islands = told.islands_exactly D (run_posed run) (on now.flow) k row shown

  pub run_island_flow : verdict_in row ≡ 3 → (g : ℕ → ℤ) → Fits D D.limit g → shortage_in row ≡ nat_abs (g k)
  run_island_flow v = told.island_shows D (run_posed run) (on now.flow) k row shown v in_case
