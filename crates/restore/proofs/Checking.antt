-- The checks before a return: what they say once passed, when they pass, and which numbers they give.
use Rattle.answer.specs.declared.Refusal.TheVariants.{AlreadyIn}
use mathlib.Core.Path.{◌≡◌, refl}
use mathlib.Core.Bool.{false}
use mathlib.Core.List.{List}
use Prim.Native.Nat.{ℕ, ◌<◌}
use Rattle.rows.specs.Row.{member}
use Rattle.answer.specs.Answer.{Accepted}
use Rattle.answer.proofs.Giving.{Gives}
use Rattle.answer.proofs.Numbers.{inside, gives_more}
use Rattle.layout.specs.Layout.{branches_in}
use Rattle.state.specs.Case.{case_in}
use Rattle.state.specs.Call.{lent_check, lent_numbers}
use Rattle.state.proofs.Checked.{Passed, lent_gives}
use Rattle.switch.proofs.Checking.{switchable, switching, branch_gives, out_of_service, not_in}
use Rattle.restore.specs.Promise.{back_check, back_numbers}

-- The checks passed: those of every call, and a branch out of service.
pub record Returnable (percent : ℕ) (bs : List ℕ) (flows bytes b : ℕ) : Type 0 where
  pub passes : Passed percent bs flows bytes
  pub there : b < branches_in bs
  pub out_now : (case_in percent bs).served b ≡ false

module _ {percent : ℕ} (bs : List ℕ) (flows bytes b : ℕ) where
  pub returnable : back_check percent bs flows bytes b ≡ Accepted → Returnable percent bs flows bytes b
  returnable e =
      let s = switchable bs flows bytes b 1 AlreadyIn e in
      record { passes = s.passes; there = s.there; out_now = out_of_service percent bs b s.other }

  pub returning : Returnable percent bs flows bytes b → back_check percent bs flows bytes b ≡ Accepted
  returning t = switching bs flows bytes b 1 AlreadyIn (record { passes = t.passes; there = t.there; other = not_in percent bs b t.out_now })

-- Which numbers they give.
module _ (percent : ℕ) (bs : List ℕ) (flows bytes b : ℕ) where
  pub back_gives : Gives back_numbers (back_check percent bs flows bytes b)
  unfolding member inside
  back_gives = branch_gives percent bs flows bytes b 1 AlreadyIn back_numbers
      (gives_more lent_numbers back_numbers (lent_check percent bs flows bytes) refl (lent_gives percent bs flows bytes)) refl refl
