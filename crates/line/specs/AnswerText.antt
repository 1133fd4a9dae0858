-- The text of a group, of a place, of what is told of an answer, and of an answer.
use Rattle.std.specs.Prelude.{cond, List, [], ◌++◌, ℕ, Option, Some, None}
use Rattle.answer.specs.declared.Place.{Place}
use Rattle.answer.specs.declared.Reply.{Reply}
use Rattle.answer.specs.Answer.{Answer, reply}
use Rattle.rows.specs.Bit.{has}
use Rattle.rows.specs.Sum.{Group, size}
use Rattle.line.specs.Text.{next_of, joined}

-- How many of the buses below n are in S, and these in rising order.
abbrev pub members_text : ℕ → Group → List ℕ
members_text n S = next_of (size n S) ++ joined n (λ i. cond (S i) (next_of i) [])

-- The same of a group in 16 bytes, which name no bus past 128.
abbrev pub group_text : List ℕ → List ℕ
group_text group = members_text 128 (has group)

-- The item and the field of a place, and nothing where there is none.
abbrev pub place_text : Option Place → List ℕ
place_text None = []
place_text (Some at) = next_of at.item ++ next_of at.field

-- The number, the shortage, the group, the place.
abbrev pub reply_text : Reply → List ℕ
reply_text t = next_of t.number ++ (next_of t.shortage ++ (group_text t.group ++ place_text t.place))

abbrev pub answer_text : Answer → List ℕ
answer_text r = reply_text (reply r)
