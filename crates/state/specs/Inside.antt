-- The rows that a call works on, as rows of a case and a flow of it; and records written from them.
use Rattle.std.specs.Prelude.{◌≡◌, Bool, true, false, ◌&&◌, List, ℕ, ◌+◌, ◌*◌, ◌^◌, ◌<◌, ◌≤◌, ℤ, length, get_or, None, Some}
use Rattle.rows.specs.Row.{nth}
use Rattle.rows.specs.Bit.{has}
use Rattle.rows.specs.Sum.{pick, size}
use Rattle.bits.specs.Field.{Bytes}
use Rattle.quantity.specs.declared.Kw.{Kw}
use Rattle.quantity.specs.Inside.{kw_at}
use Rattle.quantity.specs.Signed.{pos_part, neg_part}
use Rattle.search.specs.InsideLinks.{Linkable, Wiring, Linked}
use Rattle.search.specs.declared.Wires.{Wires}
use Rattle.search.specs.declared.Latent.{Latent}
use Rattle.book.specs.declared.cases.CaseRows.{CaseRows}
use Rattle.answer.specs.Answer.{Accepted}
use Rattle.layout.specs.Layout.{branches_in}
use Rattle.layout.specs.Check.{check_of}
use Rattle.verdict.specs.Case.{Case, Posed, on, Fits}
use Rattle.verdict.specs.Record.{record_at, TrueRecord}
use Rattle.verdict.proofs.Normal.{normal}
use Rattle.state.specs.Case.{case_in}
use Rattle.state.specs.declared.Plan.{Plan}
use Rattle.state.specs.declared.Survey.{Survey}

-- The wires, the service and the limits of a case, by which a loss is judged: a branch out of service has limit 0 in the row `live`. The rows of
-- the normal limits are those of the case `normal C`.
pub record Held (C : Case) (W : Wires) (served : List Bool) (live : List ℕ) : Type 0 where
  pub posed : Posed C
  pub linked : Linked W
  pub buses_are : W.buses ≡ C.buses
  pub branches_are : W.branches ≡ C.branches
  pub first_is : nth W.first ≡ C.first
  pub second_is : nth W.second ≡ C.second
  pub served_is : (k : ℕ) → get_or served k false ≡ C.served k
  pub live_is : nth live ≡ (λ k. pick (C.served k) (C.loss_limit k))

-- The latent capacities ahead and back that the flow f leaves: the limit less f, counted in that direction.
pub record Latents (C : Case) (f : ℕ → ℤ) (lat : Latent) : Type 0 where
  pub ahead_is : (k : ℕ) → k < C.branches → nth lat.ahead k + pos_part (f k) ≡ pick (C.served k) (C.loss_limit k) + neg_part (f k)
  pub back_is : (k : ℕ) → k < C.branches → nth lat.back k + neg_part (f k) ≡ pick (C.served k) (C.loss_limit k) + pos_part (f k)

pub record State (C : Case) (f : ℕ → ℤ) (W : Wires) (served : List Bool) (live : List ℕ) (lat : Latent) : Type 0 where
  pub held : Held C W served live
  pub latents : Latents C f lat
  pub fits : Fits C C.limit f

-- Some case and flow have these rows.
pub record Poised (W : Wires) (served : List Bool) (live : List ℕ) (lat : Latent) : Type 0 where
  pub case : Case
  pub flow : ℕ → ℤ
  pub state : State case flow W served live lat

-- `live_limits`: the limit of each of n branches in service, and 0 elsewhere.
pub record Live (n : ℕ) (served : List Bool) (limit : List Kw) (live : List ℕ) : Type 0 where
  pub in_service : (k : ℕ) → k < n → nth live k ≡ pick (get_or served k false) (kw_at limit k)
  pub elsewhere : (k : ℕ) → n ≤ k → nth live k ≡ 0

-- `prepare`: what it asks of the rows of a book, and what it makes of them.
pub record Plannable (r : CaseRows) : Type 0 where
  pub wired : Linkable r.buses r.branches r.first r.second

pub record Planned (r : CaseRows) (q : Plan) : Type 0 where
  pub wiring : Wiring r.buses r.branches r.first r.second q.wires
  pub same_served : q.served ≡ r.served
  pub live_row : Live r.branches r.served r.limit q.live
  pub brief_row : Live r.branches r.served r.loss q.brief
  pub same_gain : q.gain ≡ r.gain
  pub same_load : q.load ≡ r.load

-- `survey_lent`: a percentage, an accepted book and a flow long enough for it; the rows of the case, and, exactly where the flow fits, what it leaves of
-- the normal limits.
pub record Surveyable (percent : ℕ) (bs : List ℕ) (flows : ℕ) : Type 0 where
  pub full_at_most : percent ≤ 100
  pub book : check_of bs ≡ Accepted
  pub flow_room : branches_in bs ≤ flows

pub record Surveyed (percent : ℕ) (bs : List ℕ) (flow : List ℤ) (r : Survey) : Type 0 where
  pub held : Held (case_in percent bs) r.wires r.served r.brief
  pub branches_are : r.wires.branches ≡ branches_in bs
  pub loss_is : (k : ℕ) → kw_at r.loss k ≡ (case_in percent bs).loss_limit k
  pub fitting : (lat : Latent) → r.latent ≡ Some lat → State (normal (case_in percent bs)) (on flow) r.wires r.served r.live lat
  pub unfit : r.latent ≡ None → Fits (case_in percent bs) (case_in percent bs).limit (on flow) → ⊥

-- `raised_row`: a row of what is latent under the limits in `live`, and the same row under those in `brief`, which are higher.
pub record RowRaisable (n : ℕ) (live brief row : List ℕ) : Type 0 where
  pub few : n ≤ 256
  pub rising : (k : ℕ) → k < n → nth live k ≤ nth brief k
  pub small : (k : ℕ) → k < n → nth row k + nth brief k < 2 ^ 32

pub record RowRaised (n : ℕ) (live brief row r : List ℕ) : Type 0 where
  pub raised : (k : ℕ) → k < n → nth r k + nth live k ≡ nth row k + nth brief k

-- `raise`: the same of both rows of latent capacities.
pub record Raisable (n : ℕ) (live brief : List ℕ) (lat : Latent) : Type 0 where
  pub ahead : RowRaisable n live brief lat.ahead
  pub back : RowRaisable n live brief lat.back

pub record Raised (n : ℕ) (live brief : List ℕ) (lat r : Latent) : Type 0 where
  pub ahead : RowRaised n live brief lat.ahead r.ahead
  pub back : RowRaised n live brief lat.back r.back

-- `fill_flow`: the differences of the first n numbers of two rows are flows that fit, and there is room for them.
pub record Fillable (n : ℕ) (live ahead : List ℕ) (room : ℕ) : Type 0 where
  pub few : n ≤ 256
  pub fits_in : n ≤ room
  pub small : (k : ℕ) → k < n → (nth live k ≤ 2147483647) × (nth ahead k ≤ 2147483647)

-- The bits of the branches below n, other than k, whose number in one row differs from that in the other.
pub record Differs (n : ℕ) (a b : List ℕ) (k j : ℕ) : Type 0 where
  pub below : j < n
  pub other : j ≡ k → ⊥
  pub changed : nth a j ≡ nth b j → ⊥

pub record Changed (n : ℕ) (a b : List ℕ) (k : ℕ) (bits : List ℕ) : Type 0 where
  pub long : length bits ≡ 32
  pub bytes : Bytes bits
  pub named : (j : ℕ) → has bits j ≡ true → Differs n a b k j
  pub names : (j : ℕ) → j < n → (j ≡ k → ⊥) → (nth a j ≡ nth b j → ⊥) → has bits j ≡ true

-- `short_number`: a branch between two different buses, of a linked network with the limits of a case.
pub record Severable (W : Wires) (live : List ℕ) (k : ℕ) : Type 0 where
  pub linked : Linked W
  pub limits : (j : ℕ) → j < W.branches → nth live j ≤ 1000000
  pub below : k < W.branches
  pub different : nth W.first k ≡ nth W.second k → ⊥

-- The bits of those of the first n records that t lists.
pub record Listing (n : ℕ) (t : ℕ → Bool) (bits : List ℕ) : Type 0 where
  pub bit : (k : ℕ) → k < n → has bits k ≡ t k

-- The listed ones of the first n records were written true, and nothing else.
pub record Rewriting (C : Case) (f : ℕ → ℤ) (listed : List ℕ) (n : ℕ) (t t' : List ℕ) : Type 0 where
  pub long : length t' ≡ length t
  pub rewritten : (k : ℕ) → k < n → has listed k ≡ true → TrueRecord C f k (record_at t' k)
  pub kept : (k : ℕ) → k < n → has listed k ≡ false → record_at t' k ≡ record_at t k
  pub rest : (j : ℕ) → 52 * n ≤ j → nth t' j ≡ nth t j

-- How many of the first n branches are listed and in service: so many losses are judged.
abbrev pub judged_of : List Bool → List ℕ → ℕ → ℕ
judged_of served listed n = size n (λ k. has listed k && get_or served k false)

-- `rewrite`
pub record Rewritten (C : Case) (f : ℕ → ℤ) (served : List Bool) (listed t t' : List ℕ) (judged : ℕ) : Type 0 where
  pub table_is : Rewriting C f listed C.branches t t'
  pub judged_is : judged ≡ judged_of served listed C.branches
