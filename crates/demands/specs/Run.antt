-- A run under one percentage: a book is screened, and then outages, returns and moves of load are accepted in any order, each lent what the one
-- before left.
use Rattle.std.specs.Prelude.{◌≡◌, ℕ}
use Rattle.answer.specs.Answer.{Answer, Accepted}
use Rattle.verdict.specs.Update.{Lent}
use Rattle.screen.specs.Promise.{ScreenEnds}
use Rattle.outage.specs.Promise.{TakeEnds}
use Rattle.restore.specs.Promise.{BackEnds}
use Rattle.transfer.specs.Promise.{TransferEnds}

-- What then stands. No step changes the percentage: a change of it calls for a new screen. A later call joins as a further constructor.
pub data Run (percent : ℕ) : Lent → Type 0 where
  screened : {before after : Lent} {r : Answer} → ScreenEnds percent before after r → r ≡ Accepted → Run percent after
  taken : {before after : Lent} {r : Answer} (b : ℕ) → Run percent before → TakeEnds percent b before after r → r ≡ Accepted → Run percent after
  returned : {before after : Lent} {r : Answer} (b : ℕ) → Run percent before → BackEnds percent b before after r → r ≡ Accepted → Run percent after
  moved : {before after : Lent} {r : Answer} (up down kw : ℕ) → Run percent before → TransferEnds percent up down kw before after r → r ≡ Accepted
      → Run percent after
