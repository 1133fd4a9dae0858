-- The checks before an outage: what they say once passed, when they pass, and which numbers they give.
use Rattle.answer.specs.declared.Refusal.TheVariants.{AlreadyOut}
use mathlib.Core.Path.{◌≡◌, refl}
use mathlib.Core.Bool.{true}
use mathlib.Core.List.{List}
use Prim.Native.Nat.{ℕ, ◌<◌}
use Rattle.rows.specs.Row.{member}
use Rattle.answer.specs.Answer.{Accepted}
use Rattle.answer.proofs.Giving.{Gives}
use Rattle.answer.proofs.Numbers.{inside, gives_more}
use Rattle.layout.specs.Layout.{branches_in}
use Rattle.state.specs.Case.{case_in}
use Rattle.state.specs.Call.{lent_check, lent_numbers}
use Rattle.state.proofs.Checked.{Passed, lent_gives}
use Rattle.switch.proofs.Checking as switch
use Rattle.switch.proofs.Checking.{switchable, switching, branch_gives, not_out}
use Rattle.outage.specs.Promise.{take_check, take_numbers}

-- The checks passed: those of every call, and a branch in service.
pub record Takeable (percent : ℕ) (bs : List ℕ) (flows bytes b : ℕ) : Type 0 where
  pub passes : Passed percent bs flows bytes
  pub there : b < branches_in bs
  pub in_service : (case_in percent bs).served b ≡ true

module _ {percent : ℕ} (bs : List ℕ) (flows bytes b : ℕ) where
  pub takeable : take_check percent bs flows bytes b ≡ Accepted → Takeable percent bs flows bytes b
  takeable e =
      let s = switchable bs flows bytes b 0 AlreadyOut e in
      record { passes = s.passes; there = s.there; in_service = switch.in_service percent bs b s.passes.book s.there s.other }

  pub taking : Takeable percent bs flows bytes b → take_check percent bs flows bytes b ≡ Accepted
  taking t = switching bs flows bytes b 0 AlreadyOut (record { passes = t.passes; there = t.there; other = not_out percent bs b t.in_service })

-- Which numbers they give.
module _ (percent : ℕ) (bs : List ℕ) (flows bytes b : ℕ) where
  pub take_gives : Gives take_numbers (take_check percent bs flows bytes b)
  unfolding member inside
  take_gives = branch_gives percent bs flows bytes b 0 AlreadyOut take_numbers
      (gives_more lent_numbers take_numbers (lent_check percent bs flows bytes) refl (lent_gives percent bs flows bytes)) refl refl
