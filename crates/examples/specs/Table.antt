-- Document 01's marked examples (a) to (l), as document 02 amends (b) and (i), and four of our own, in either form; books of two figures a branch,
-- which the new form alone holds; the order of two switchings; and books in summer.
use Rattle.std.specs.Prelude.{List, [], ◌∷◌, ℕ, ℤ, pos, neg_ℤ}
use Rattle.quantity.specs.Rating.{in_kva}
use Rattle.layout.specs.declared.Form.{Form}
use Rattle.layout.specs.declared.Form.TheVariants.{Old, New}
use Rattle.layout.specs.declared.Branch.{Branch}
use Rattle.layout.specs.Book.{Book}
use Rattle.meters.specs.Registers.{registers}
use Rattle.examples.specs.Row.{out, carries, short, islands, Row, shows, refuses, takes, keeps, meters}

abbrev pub minus : ℕ → ℤ
minus n = neg_ℤ (pos n)

-- Both ratings are equal, so that the book can be in either form.
abbrev pub joins : ℕ → ℕ → ℕ → ℕ → Branch
joins first second kva status = record { first = first; second = second; kva = in_kva kva; kva2 = in_kva kva; status = status }

-- The triangle: its power factor, the kVA of 1-2, the status of branches 0 and 1.
abbrev pub triangle : Form → ℕ → ℕ → ℕ → ℕ → Book
triangle f factor kva s₀ s₁ = record {
  form = f;
  factor = factor;
  injections = pos 30 ∷ minus 10 ∷ minus 20 ∷ [];
  branches = joins 0 1 40 s₀ ∷ joins 0 2 40 s₁ ∷ joins 1 2 kva 1 ∷ [];
}

-- The second book, with the kVA of 1-2.
abbrev pub second : Form → ℕ → Book
second f kva = record {
  form = f;
  factor = 1000;
  injections = pos 60 ∷ pos 0 ∷ minus 40 ∷ minus 20 ∷ [];
  branches = joins 0 1 40 1 ∷ joins 0 2 40 1 ∷ joins 1 2 kva 1 ∷ joins 2 3 30 1 ∷ [];
}

abbrev single : Form → Book
single f = record { form = f; factor = 1000; injections = pos 0 ∷ []; branches = [] }

abbrev tie : Form → Book
tie f = record {
  form = f;
  factor = 1000;
  injections = pos 5 ∷ pos 0 ∷ minus 5 ∷ [];
  branches = joins 0 2 5 1 ∷ joins 0 1 3 1 ∷ joins 1 2 3 1 ∷ [];
}

-- A branch that carries all, one of limit 0 beside it with its status, and a spur without flow.
abbrev pub spur : Form → ℕ → Book
spur f status = record {
  form = f;
  factor = 1000;
  injections = pos 20 ∷ minus 20 ∷ pos 0 ∷ [];
  branches = joins 0 1 30 1 ∷ joins 0 1 0 status ∷ joins 1 2 10 1 ∷ [];
}

-- Three branches side by side, with the status of the last.
abbrev pub trio : Form → ℕ → Book
trio f status = record {
  form = f;
  factor = 1000;
  injections = pos 50 ∷ minus 50 ∷ [];
  branches = joins 0 1 30 1 ∷ joins 0 1 30 1 ∷ joins 0 1 10 status ∷ [];
}

-- Two figures a branch.
abbrev pub rated : ℕ → ℕ → ℕ → ℕ → Branch
rated first second kva kva2 = record { first = first; second = second; kva = in_kva kva; kva2 = in_kva kva2; status = 1 }

-- Two branches side by side, each of 20 kVA and for a short time of 30.
abbrev pub pair : Book
pair = record { form = New; factor = 1000; injections = pos 30 ∷ minus 30 ∷ []; branches = rated 0 1 20 30 ∷ rated 0 1 20 30 ∷ [] }

-- One branch of 20 kVA, for a short time of 30, that would have to carry 30 for good.
abbrev pub feeder : Book
feeder = record { form = New; factor = 1000; injections = pos 30 ∷ minus 30 ∷ []; branches = rated 0 1 20 30 ∷ [] }

-- A branch beside a way of two: by the second figures the second part of the way is the narrow one, by the normal figures the first.
abbrev pub way : Book
way = record {
  form = New;
  factor = 1000;
  injections = pos 30 ∷ pos 0 ∷ minus 30 ∷ [];
  branches = rated 0 2 30 30 ∷ rated 0 1 10 25 ∷ rated 1 2 20 20 ∷ [];
}

abbrev pub marked_rows : Form → List Row
marked_rows f =
    -- (a) all carry
    shows (triangle f 1000 30 1 1) (carries ∷ carries ∷ carries ∷ [])
    -- (b) branch 0 out, screened and through the call, which leaves the book that (c) starts from
    ∷ shows (triangle f 1000 30 0 1) (out ∷ islands 30 (0 ∷ []) ∷ islands 10 (0 ∷ 2 ∷ []) ∷ [])
    ∷ takes (triangle f 1000 30 1 1) 0 (triangle f 1000 30 0 1) (out ∷ islands 30 (0 ∷ []) ∷ islands 10 (0 ∷ 2 ∷ []) ∷ [])
    -- (c) then branch 1, likewise
    ∷ refuses (triangle f 1000 30 0 0) 30 (0 ∷ [])
    ∷ keeps (triangle f 1000 30 0 1) 1 30 (0 ∷ [])
    -- (d) 1-2 at 20: branch 1 carries
    ∷ shows (triangle f 1000 20 1 1) (carries ∷ carries ∷ carries ∷ [])
    -- (e) at 19
    ∷ shows (triangle f 1000 19 1 1) (carries ∷ short 1 (0 ∷ 1 ∷ []) ∷ carries ∷ [])
    -- (f) to (i) the second book's four lines
    ∷ shows (second f 25) (short 20 (0 ∷ []) ∷ short 35 (0 ∷ 1 ∷ []) ∷ short 20 (0 ∷ 1 ∷ []) ∷ islands 20 (0 ∷ 1 ∷ 2 ∷ []) ∷ [])
    -- (j) with 1-2 at 15
    ∷ refuses (second f 15) 5 (0 ∷ 1 ∷ [])
    -- (k) one bus, no branch: an empty table
    ∷ shows (single f) []
    -- (l) from 4,294,967,290 to 10 is 16; from 10 to 9 is refused
    ∷ meters (registers (0 ∷ 0 ∷ []) (0 ∷ 0 ∷ []) (0 ∷ 4294967290 ∷ []) (0 ∷ 10 ∷ []) 0) (pos 7 ∷ pos 7 ∷ pos 7 ∷ []) 0 (minus 16 ∷ pos 16 ∷ pos 7 ∷ [])
    ∷ meters (registers (0 ∷ 10 ∷ []) (0 ∷ 9 ∷ []) (0 ∷ 0 ∷ []) (0 ∷ 0 ∷ []) 0) (pos 7 ∷ pos 7 ∷ []) 15 (pos 7 ∷ pos 7 ∷ [])
    -- a tie: buses 0 and 1 reach 2 as well, and the smaller group is shown
    ∷ shows (tie f) (short 2 (0 ∷ []) ∷ carries ∷ carries ∷ [])
    -- (d) at power factor 999: 20 kVA give 19 kW, and rounding makes branch 1 short
    ∷ shows (triangle f 999 20 1 1) (carries ∷ short 1 (0 ∷ 1 ∷ []) ∷ carries ∷ [])
    -- a branch that carries, and is refused with 12: 30 go over the other for a short time, and 20 for good
    ∷ shows pair (carries ∷ carries ∷ [])
    ∷ keeps pair 0 10 (0 ∷ [])
    -- a branch shown as short, whose 12 has another group and more
    ∷ shows way (short 10 (0 ∷ 1 ∷ []) ∷ carries ∷ carries ∷ [])
    ∷ keeps way 0 20 (0 ∷ [])
    -- a book whose load fits by the second figures alone
    ∷ refuses feeder 10 (0 ∷ [])
    -- short by the whole flow, with a branch of limit 0 that joins the ends, and without it; the spur without flow carries
    ∷ shows (spur f 1) (short 20 (0 ∷ []) ∷ carries ∷ carries ∷ [])
    ∷ shows (spur f 0) (islands 20 (0 ∷ []) ∷ out ∷ carries ∷ [])
    ∷ []

-- The order of two switchings.
abbrev pub order_rows : Form → List Row
order_rows f =
    -- branches 0 and 2 in either order: 0 is refused at once, or after 2, which is accepted, and then by more
    keeps (trio f 1) 0 10 (0 ∷ [])
    ∷ takes (trio f 1) 2 (trio f 0) (short 20 (0 ∷ []) ∷ short 20 (0 ∷ []) ∷ out ∷ [])
    ∷ keeps (trio f 0) 0 20 (0 ∷ [])
    -- the outage that (c) refuses is accepted where branch 0 has come back first
    ∷ takes (triangle f 1000 30 1 1) 1 (triangle f 1000 30 1 0) (islands 30 (0 ∷ []) ∷ out ∷ islands 20 (0 ∷ 1 ∷ []) ∷ [])
    ∷ []

-- Two branches side by side of 1,003 kVA at power factor 950: at 80 each may carry 762 kW, and 761 if the kW were rounded down before the percentage.
abbrev pub twin : ℕ → Book
twin kw = record { form = Old; factor = 950; injections = pos kw ∷ minus kw ∷ []; branches = joins 0 1 1003 1 ∷ joins 0 1 1003 1 ∷ [] }

-- What is shown at 80.
abbrev pub summer_rows : List Row
summer_rows =
    shows (twin 762) (carries ∷ carries ∷ [])
    ∷ shows (twin 763) (short 1 (0 ∷ []) ∷ short 1 (0 ∷ []) ∷ [])
    -- both figures follow: 24 go over the other branch for a short time, and 16 for good
    ∷ shows pair (short 6 (0 ∷ []) ∷ short 6 (0 ∷ []) ∷ [])
    ∷ keeps pair 0 14 (0 ∷ [])
    ∷ refuses feeder 14 (0 ∷ [])
    ∷ []
