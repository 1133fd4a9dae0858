-- `put_answer` adds the text of an answer.
use Rattle.line.proofs.Adding.{adds_then}
use Rattle.line.proofs.Line.put_answer.Goals as goal

pub returns : goal.returns
returns g c =
    rw (← c.to_reply-reply.ensures)
    (adds_then (rw c.from.ensures at c.put_next.ensures) (adds_then (rw c.from-2.ensures at c.put_next-2.ensures) (adds_then c.put_group.ensures c.put_place.ensures)))
