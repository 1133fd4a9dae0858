-- When two results are the same but for what the promises leave open: docs/EXCEPTIONS.md.
use Rattle.std.specs.Prelude.{◌≡◌, true, List, ℕ, ◌<◌, ℤ, pos}
use Rattle.rows.specs.Row.{nth}
use Rattle.answer.specs.Answer.{Answer, Accepted}
use Rattle.verdict.specs.Case.{Case, out, on, Fits}
use Rattle.verdict.specs.Record.{record_at, verdict_in, names}
use Rattle.verdict.specs.Update.{Lent, Beyond}
use Rattle.state.specs.Case.{case_in}
use Rattle.outage.specs.Promise.{Confined}

-- ---- Flow numbers that are free: those of branches in service.
pub record FreeFlow (C : Case) (j : ℕ) : Type 0 where
  pub there : j < C.branches
  pub in_service : C.served j ≡ true

-- After an outage of b: none if b's flow was 0; where some fitting flow is confined to the branches that b's record names, only these.
pub record FreeTaken (percent : ℕ) (before : Lent) (b j : ℕ) : Type 0 where
  pub left : FreeFlow (out (case_in percent before.book) b) j
  pub flowing : on before.flow b ≡ pos 0 → ⊥
  pub named : (h : ℕ → ℤ) → Fits (out (case_in percent before.book) b) (case_in percent before.book).limit h
      → Confined (case_in percent before.book) (on before.flow) (record_at before.table b) b h → names (record_at before.table b) j ≡ true

-- After a move of kw: none where kw is 0.
pub record FreeMoved (C : Case) (kw j : ℕ) : Type 0 where
  pub left : FreeFlow C j
  pub some : kw ≡ 0 → ⊥

-- ---- Bit j of branch k's reroute is free: one of the two results wrote the record anew, it carries, in one of them k has a flow, and j is
-- another branch in service.
pub record FreeBit (C : Case) (written : ℕ → Type 0) (one two : Lent) (k j : ℕ) : Type 0 where
  pub anew : written k
  pub carrying : verdict_in (record_at one.table k) ≡ 1
  pub flowing : (on one.flow k ≡ pos 0) × (on two.flow k ≡ pos 0) → ⊥
  pub another : j ≡ k → ⊥
  pub there : j < C.branches
  pub in_service : C.served j ≡ true

-- Two records that are the same but for the free bits: where none is, in all 52 bytes.
pub record Alike (free : ℕ → Type 0) (r s : List ℕ) : Type 0 where
  pub front : (m : ℕ) → m < 20 → nth r m ≡ nth s m
  pub reroute : (j : ℕ) → (free j → ⊥) → names r j ≡ names s j
  pub whole : ((j : ℕ) → free j → ⊥) → r ≡ s

-- Two results of a call: the same answer, book and flow but for the free numbers, the same beyond the counts, and the same records, as far as
-- the two agree which ones to write. A refusal leaves nothing open.
pub record SameResult (C : Case) (free written agreed : ℕ → Type 0) (one two : Lent) (r s : Answer) : Type 0 where
  pub answers : r ≡ s
  pub books : one.book ≡ two.book
  pub flows : (j : ℕ) → (free j → ⊥) → on one.flow j ≡ on two.flow j
  pub beyond : Beyond C two one
  pub records : (k : ℕ) → k < C.branches → agreed k → Alike (FreeBit C written one two k) (record_at one.table k) (record_at two.table k)
  pub refused_same : (r ≡ Accepted → ⊥) → one ≡ two
