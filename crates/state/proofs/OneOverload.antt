-- An overload is told in one way, and a case that a flow fits has none.
use mathlib.Core.Path.{◌≡◌, sym, ◌∙◌, subst}
use mathlib.Core.List.{List}
use Prim.Native.Nat.{ℕ}
use lib.IntN.{ℤ}
use Rattle.rows.specs.Bit.{has}
use Rattle.answer.specs.Answer.{Answer, Nowhere, Said}
use Rattle.answer.proofs.Said.{said_same}
use Rattle.verdict.specs.Case.{Case, Posed, Fits}
use Rattle.verdict.proofs.Fitting.{fits_none}
use Rattle.verdict.proofs.Loss.{never_overload}
use Rattle.verdict.proofs.VerdictByCase.{same_names, largest_unique}
use Rattle.state.specs.Call.{OverloadSaid}

pub overloaded_same : (C : Case) (r s : Answer) → OverloadSaid C r → OverloadSaid C s → r ≡ s
overloaded_same C r s o p =
    let u = largest_unique o.overload p.overload in
    let g = same_names o.group p.group (o.long ∙ sym p.long) o.bytes p.bytes u.1 in
    said_same o.answer
    (subst (λ (v : ℕ). Said s 12 v o.group Nowhere) (sym u.0) (subst (λ (b : List ℕ). Said s 12 p.shortage b Nowhere) (sym g) p.answer))

-- A case with a fitting flow is not overloaded.
pub fits_not_over : (C : Case) (f : ℕ → ℤ) (r : Answer) → Posed C → Fits C C.limit f → OverloadSaid C r → ⊥
fits_not_over C f r p h o = never_overload C o.shortage (has o.group) (fits_none C f p h) o.overload
