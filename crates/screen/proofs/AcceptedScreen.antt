-- A screen whose answer is accepted passed its check and left a true table, and a book with such a table has no base excess.
use mathlib.Core.Path.{◌≡◌, refl, sym, ap, ◌∙◌}
use Prim.Native.Nat.{ℕ}
use native.Mathlib.Omega.{arith}
use lib.ListN.{length}
use Rattle.rows.specs.Row.{member}
use Rattle.rows.specs.Sum.{Group}
use Rattle.answer.specs.Answer.{Answer, Accepted, number_of}
use Rattle.answer.proofs.Numbers.{said_is}
use Rattle.verdict.specs.Case.{Posed, on}
use Rattle.verdict.specs.Excess.{Overload}
use Rattle.verdict.specs.Update.{Lent}
use Rattle.verdict.proofs.Fitting.{fits_none}
use Rattle.verdict.proofs.Loss.{never_overload}
use Rattle.state.specs.Case.{case_in}
use Rattle.state.specs.Call.{lent_numbers}
use Rattle.state.proofs.Checked.{Passed, passed, posed_passed, lent_gives}
use Rattle.screen.specs.Promise.{Screened, screen_check, ScreenEnds, refuses, overloads, accepts}

pub record Done (percent : ℕ) (before after : Lent) : Type 0 where
  pub passes : Passed percent before.book (length before.flow) (length before.table)
  pub posed_case : Posed (case_in percent before.book)
  pub screened : Screened (case_in percent before.book) before after

-- A flow that fits was left, so no group is overloaded.
pub never_over : (percent : ℕ) {before after : Lent} → screen_check percent before ≡ Accepted → Screened (case_in percent before.book) before after
    → (v : ℕ) (S : Group) → Overload (case_in percent before.book) v S → ⊥
never_over percent {before} {after} c x v S o =
    let posed = posed_passed (passed _ _ _ c) in
    never_overload (case_in percent before.book) v S (fits_none (case_in percent before.book) (on after.flow) posed x.table_true.fits) o

pub number_zero : {o : Answer} → o ≡ Accepted → number_of o ≡ 0
number_zero e = ap number_of e

pub accepted_screen : {percent : ℕ} {before after : Lent} {r : Answer} → ScreenEnds percent before after r → r ≡ Accepted
    → Done percent before after
unfolding member
accepted_screen {percent} {before} (refuses n a k) e =
    let is = said_is lent_numbers (screen_check percent before) refl (lent_gives _ _ _ _) a in
    absurd (n (sym (ap (λ (x : Answer). x) is) ∙ e))
accepted_screen (overloads c o k) e = absurd (omega (arith, o.answer.number_is, number_zero e))
accepted_screen {before = before} (accepts c a s) e =
    let p = passed before.book (length before.flow) (length before.table) c in
    record { passes = p; posed_case = posed_passed p; screened = s }
