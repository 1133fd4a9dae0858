-- However a call ends, its answer says document 01's number by its own case.
use Rattle.answer.specs.Answer.{Answer}
use Rattle.answer.proofs.Numbers.{Proper, proper}
use Rattle.verdict.specs.Case.{Case}
use Rattle.verdict.specs.Update.{Lent}
use Rattle.state.specs.Call.{Ends}

-- As every answer does.
pub ends_proper : {check : Answer} {C D : Case} {done : Type 0} {before after : Lent} {r : Answer} → Ends check C D done before after r → Proper r
ends_proper {r = r} e = proper r
