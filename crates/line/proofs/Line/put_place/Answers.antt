-- `put_place` adds the item and the field of a place, and nothing where there is none.
use native.Mathlib.Omega.{arith}
use mathlib.Core.Path.{sym, ap}
use Rattle.line.specs.AnswerText.{place_text}
use Rattle.line.proofs.Adding.{adds_as, adds_then}
use Rattle.line.proofs.Line.put_place.Goals as goal

pub returns-in-Some : goal.returns-in-Some
returns-in-Some c = adds_as (sym (ap place_text c.in-Some.is)) (omega arith) (adds_then c.put_next.ensures (rw c.from.ensures at c.put_next-in-Some.ensures))
