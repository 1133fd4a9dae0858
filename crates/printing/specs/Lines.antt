-- The text of each line of document 01's list, without its newline.
use Rattle.std.specs.Prelude.{cond, List, [], ◌∷◌, ◌++◌, ℕ, eqb, take, drop}
use Rattle.answer.specs.declared.Reply.{Reply}
use Rattle.answer.specs.Answer.{Answer, reply}
use Rattle.layout.specs.Layout.{buses_in, branches_in}
use Rattle.verdict.specs.Record.{record_at, verdict_in, shortage_in}
use Rattle.line.specs.Text.{decimal_of, next_of}
use Rattle.line.specs.AnswerText.{group_text, place_text}

-- Bus count, branch count of the book.
abbrev pub head_text : List ℕ → List ℕ
head_text bs = decimal_of (buses_in bs) ++ next_of (branches_in bs)

-- The bytes of ` out`, ` carries`, ` short`, ` islands` and `refused`.
abbrev pub out_word : List ℕ
out_word = 32 ∷ 111 ∷ 117 ∷ 116 ∷ []

abbrev pub carries_word : List ℕ
carries_word = 32 ∷ 99 ∷ 97 ∷ 114 ∷ 114 ∷ 105 ∷ 101 ∷ 115 ∷ []

abbrev pub short_word : List ℕ
short_word = 32 ∷ 115 ∷ 104 ∷ 111 ∷ 114 ∷ 116 ∷ []

abbrev pub islands_word : List ℕ
islands_word = 32 ∷ 105 ∷ 115 ∷ 108 ∷ 97 ∷ 110 ∷ 100 ∷ 115 ∷ []

abbrev pub refused_word : List ℕ
refused_word = 114 ∷ 101 ∷ 102 ∷ 117 ∷ 115 ∷ 101 ∷ 100 ∷ []

-- Shortage, number of buses in the group, and these in rising order.
abbrev pub short_text : ℕ → List ℕ → List ℕ
short_text shortage group = next_of shortage ++ group_text group

-- The word of a branch that is short: verdict 2 is `short`, any other `islands`.
abbrev pub missing_word : ℕ → List ℕ
missing_word verdict = cond (eqb verdict 2) short_word islands_word

-- What a record shows: verdict 0 is out, 1 carries, and any other is short or islands, with the shortage and the group of bytes 4 to 19.
abbrev pub shown_text : List ℕ → List ℕ
shown_text rec =
    cond (eqb (verdict_in rec) 0) out_word
    (cond (eqb (verdict_in rec) 1) carries_word
    (missing_word (verdict_in rec) ++ short_text (shortage_in rec) (take 16 (drop 4 rec))))

-- The branch's number, then what its record in the table shows.
abbrev pub branch_text : List ℕ → ℕ → List ℕ
branch_text table k = decimal_of k ++ shown_text (record_at table k)

-- The number of the refusal; for 12 also shortage and group, for any other the place if it has one, as 4 and 5 have.
abbrev pub reason_text : Reply → List ℕ
reason_text t = next_of t.number ++ cond (eqb t.number 12) (short_text t.shortage t.group) (place_text t.place)

abbrev pub refused_text : Answer → List ℕ
refused_text r = refused_word ++ reason_text (reply r)
