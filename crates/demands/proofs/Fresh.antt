-- A call that makes the case D, past its checks and lent a flow that fits, answers as any fresh screen of a book with that case.
use mathlib.Core.Path.{◌≡◌, subst}
use Prim.Native.Nat.{ℕ}
use Rattle.answer.specs.Answer.{Answer, Accepted}
use Rattle.answer.proofs.Said.{said_same}
use Rattle.verdict.specs.Case.{Case, Posed, on, Fits}
use Rattle.verdict.specs.Update.{Lent}
use Rattle.state.specs.Case.{case_in}
use Rattle.state.specs.Call as call
use Rattle.state.specs.Call.{OverloadSaid, Ends}
use Rattle.state.proofs.OneOverload.{overloaded_same, fits_not_over}
use Rattle.screen.specs.Promise.{screen_check, ScreenEnds, refuses, overloads, accepts}

pub ends_fresh : {percent : ℕ} {check : Answer} {C D : Case} {done : Type 0} {now after fresh left : Lent} {r s : Answer}
    → check ≡ Accepted → Fits C C.limit (on now.flow) → Posed D → (done → Fits D D.limit (on after.flow))
    → case_in percent fresh.book ≡ D → screen_check percent fresh ≡ Accepted
    → Ends check C D done now after r → ScreenEnds percent fresh left s → r ≡ s
ends_fresh {percent} {check} {C} {D} {done} {now} {after} {fresh} {left} {r} {s} checked fits posed settled same screened e f = go e f
  where
    over : OverloadSaid (case_in percent fresh.book) s → OverloadSaid D s
    over o = subst (λ (E : Case). OverloadSaid E s) same o

    go : Ends check C D done now after r → ScreenEnds percent fresh left s → r ≡ s
    go (call.refuses n a k) y = absurd (n checked)
    go (call.unfit c n a k) y = absurd (n fits)
    go (call.overloads c h o k) (refuses n a k') = absurd (n screened)
    go (call.overloads c h o k) (overloads c' o' k') = overloaded_same D r s o (over o')
    go (call.overloads c h o k) (accepts c' a x) =
        absurd (fits_not_over D (on left.flow) r posed (subst (λ (E : Case). Fits E E.limit (on left.flow)) same x.table_true.fits) o)
    go (call.accepts c h a o) (refuses n a' k) = absurd (n screened)
    go (call.accepts c h a o) (overloads c' o' k') = absurd (fits_not_over D (on after.flow) s posed (settled o) (over o'))
    go (call.accepts c h a o) (accepts c' a' x) = said_same a a'
