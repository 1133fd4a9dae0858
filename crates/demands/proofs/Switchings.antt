-- What a switching leaves that is accepted, and what a list of them leaves that is accepted in full: true tables, a book that differs in status bits
-- alone, and each branch with the status it was asked for.
use mathlib.Core.Path.{◌≡◌, refl, sym, ap, ◌∙◌}
use mathlib.Core.Bool.{Bool, true, false, not, ◌&&◌, ◌||◌, cond, true≢false}
use mathlib.Core.List.{List, [], ◌∷◌}
use Prim.Native.Nat.{ℕ, ◌<◌}
use native.Mathlib.Omega.{arith}
use borrow.Author.Tests.{eqb-true}
use lib.Dec.{eqb}
use lib.ListN.{length}
use Rattle.rows.specs.Sum.{differ}
use Rattle.rows.proofs.Row.{or_true, and_false}
use Rattle.answer.specs.Answer.{Answer, Accepted}
use Rattle.bits.specs.Field.{set_bit}
use Rattle.layout.specs.Layout.{branches_in, status_bit}
use Rattle.layout.proofs.Statuses.{ButStatus, but_itself, but_then, but_set}
use Rattle.verdict.specs.Case.{Case, with_status}
use Rattle.verdict.specs.Record.{TrueTable}
use Rattle.verdict.specs.Update.{Lent}
use Rattle.verdict.proofs.Fitting.{served_other}
use Rattle.state.specs.Case.{case_in}
use Rattle.state.proofs.Checked.{Passed}
use Rattle.demands.specs.Run.{Run, taken, returned}
use Rattle.demands.specs.Order.{Switching, Step, SwitchEnds, InTurn, last, InFull, asks, Different, Await}
use Rattle.demands.proofs.Ends.{take_done, back_done}
use Rattle.demands.proofs.Demand3.{Stands, take_stands, back_stands}

-- ---- One switching.
pub record SwitchDone (percent b : ℕ) (v : Bool) (before after : Lent) : Type 0 where
  pub passes : Passed percent before.book (length before.flow) (length before.table)
  pub there : b < branches_in before.book
  pub other : (case_in percent before.book).served b ≡ not v
  pub case_is : case_in percent after.book ≡ with_status (case_in percent before.book) b v
  pub but_status : ButStatus before.book after.book

-- By the bit that it sets.
done_by : {percent b : ℕ} {v : Bool} {before after : Lent} (n : ℕ) → n < 2
    → Passed percent before.book (length before.flow) (length before.table) → b < branches_in before.book
    → (case_in percent before.book).served b ≡ not v → case_in percent after.book ≡ with_status (case_in percent before.book) b v
    → after.book ≡ set_bit before.book (status_bit before.book b) n → SwitchDone percent b v before after
done_by {b = b} {before = before} n two p l o c e = record {
  passes = p;
  there = l;
  other = o;
  case_is = c;
  but_status = rw e (but_set before.book b n p.book l two);
}

module _ {percent : ℕ} (b : ℕ) {before after : Lent} {r : Answer} where
  pub switch_done : (v : Bool) → SwitchEnds percent b v before after r → r ≡ Accepted → SwitchDone percent b v before after
  switch_done false e a =
      let d = take_done e a in
      done_by 0 (omega arith) d.passes.passes d.passes.there d.passes.in_service d.took.case_is d.took.book_is
  switch_done true e a =
      let d = back_done e a in
      done_by 1 (omega arith) d.passes.passes d.passes.there d.passes.out_now d.brought.case_is d.brought.book_is

  pub switch_stands : (v : Bool) → Stands percent before → SwitchEnds percent b v before after r → r ≡ Accepted → Stands percent after
  switch_stands false s e a = take_stands s e a
  switch_stands true s e a = back_stands s e a

  -- Accepted in a run, it joins it.
  pub switch_joins : (v : Bool) → Run percent before → SwitchEnds percent b v before after r → r ≡ Accepted → Run percent after
  switch_joins false run e a = taken b run e a
  switch_joins true run e a = returned b run e a

-- A true table that is lent to an accepted call stands.
pub passed_stands : {percent : ℕ} {l : Lent} → Passed percent l.book (length l.flow) (length l.table)
    → TrueTable (case_in percent l.book) l.flow l.table → Stands percent l
passed_stands p t = record { in_range = p.in_range; book = p.book; table_true = t }

-- ---- The status that is asked of a branch, where none is asked for twice.
abbrev pub asked : Bool → Bool → Bool → Bool
asked was out into = (was && not out) || into

asked_next : (q v was out into : Bool) → (q ≡ true → (out ≡ false) × (into ≡ false))
    → asked (cond q v was) out into ≡ asked was ((not (differ v false) && q) || out) ((not (differ v true) && q) || into)
asked_next true true true out into h = rw (h refl).0 refl
asked_next true true false out into h = rw (h refl).0 refl
asked_next true false was out into h = (h refl).1 ∙ sym (none was ∙ (h refl).1)
  where
    none : (t : Bool) → asked t true into ≡ into
    none true = refl
    none false = refl
asked_next false true was out into h = refl
asked_next false false was out into h = refl

-- ---- A list of switchings, accepted in full.
module _ (percent : ℕ) where
  pub turn_true : (before : Lent) (ss : List Switching) (ts : List Step) → InTurn percent before ss ts → InFull ts
      → TrueTable (case_in percent before.book) before.flow before.table
      → TrueTable (case_in percent (last before ts).book) (last before ts).flow (last before ts).table
  turn_true before [] [] w f t = t
  turn_true before (s ∷ ss) (u ∷ ts) w f t =
      let d = switch_done s.branch s.served w.0 f.0 in
      turn_true u.left ss ts w.1 f.1 (switch_stands s.branch s.served (passed_stands d.passes t) w.0 f.0).table_true
  turn_true before [] (u ∷ ts) w f t = elim w [ ]
  turn_true before (s ∷ ss) [] w f t = elim w [ ]

  -- In a run it joins it, so that every verdict, shortage and group is then a fresh screen's too.
  pub turn_joins : (before : Lent) (ss : List Switching) (ts : List Step) → InTurn percent before ss ts → InFull ts → Run percent before
      → Run percent (last before ts)
  turn_joins before [] [] w f run = run
  turn_joins before (s ∷ ss) (u ∷ ts) w f run =
      turn_joins u.left ss ts w.1 f.1 (switch_joins s.branch s.served run w.0 f.0)
  turn_joins before [] (u ∷ ts) w f run = elim w [ ]
  turn_joins before (s ∷ ss) [] w f run = elim w [ ]

  pub turn_but : (before : Lent) (ss : List Switching) (ts : List Step) → InTurn percent before ss ts → InFull ts
      → ButStatus before.book (last before ts).book
  turn_but before [] [] w f = but_itself before.book
  turn_but before (s ∷ ss) (u ∷ ts) w f =
      but_then (switch_done s.branch s.served w.0 f.0).but_status (turn_but u.left ss ts w.1 f.1)
  turn_but before [] (u ∷ ts) w f = elim w [ ]
  turn_but before (s ∷ ss) [] w f = elim w [ ]

  pub turn_served : (before : Lent) (ss : List Switching) (ts : List Step) → Different ss → InTurn percent before ss ts → InFull ts
      → (k : ℕ) → (case_in percent (last before ts).book).served k ≡ asked ((case_in percent before.book).served k) (asks ss false k) (asks ss true k)
  turn_served before [] [] d w f k = go ((case_in percent before.book).served k)
    where
      go : (s : Bool) → s ≡ asked s false false
      go true = refl
      go false = refl
  turn_served before (s ∷ ss) (u ∷ ts) d w f k =
      turn_served u.left ss ts d.1 w.1 f.1 k
      ∙ ap (λ (D : Case). asked (D.served k) (asks ss false k) (asks ss true k)) (switch_done s.branch s.served w.0 f.0).case_is
      ∙ asked_next (eqb k s.branch) s.served ((case_in percent before.book).served k) (asks ss false k) (asks ss true k) none
    where
      none : eqb k s.branch ≡ true → (asks ss false k ≡ false) × (asks ss true k ≡ false)
      none e = rw (eqb-true k s.branch e) (d.0 false, d.0 true)
  turn_served before [] (u ∷ ts) d w f k = elim w [ ]
  turn_served before (s ∷ ss) [] d w f k = elim w [ ]

-- ---- What was asked, by cases.
asked_first : (s v q o : Bool) → q ≡ true → o ≡ false → (not (differ s v) && q) || o ≡ true → s ≡ v
asked_first true true q o a b e = refl
asked_first true false q o a b e = absurd (true≢false (sym e ∙ b))
asked_first false true q o a b e = absurd (true≢false (sym e ∙ b))
asked_first false false q o a b e = refl

asked_later : (s v q o : Bool) → q ≡ false → (not (differ s v) && q) || o ≡ true → o ≡ true
asked_later s v q o a e = rw (a, and_false (not (differ s v))) at e

-- A branch that is asked for later isn't the first one, so the first call leaves its status as it was.
pub left_served : {percent b : ℕ} {v : Bool} {before after : Lent} → SwitchDone percent b v before after → (k : ℕ) → (k ≡ b → ⊥)
    → (case_in percent after.book).served k ≡ (case_in percent before.book).served k
left_served {percent} {b} {v} {before} d k apart =
    ap (λ (D : Case). D.served k) d.case_is ∙ served_other (case_in percent before.book) b v k apart

not_first : (ss : List Switching) (v : Bool) (b k : ℕ) → asks ss v b ≡ false → asks ss v k ≡ true → k ≡ b → ⊥
not_first ss v b k n e q = true≢false (sym e ∙ ap (asks ss v) q ∙ n)

module _ (percent : ℕ) where
  -- Accepted in full, each was there and had the other status.
  pub turn_awaits : (before : Lent) (ss : List Switching) (ts : List Step) → Different ss → InTurn percent before ss ts → InFull ts
      → (v : Bool) → Await percent v before ss
  turn_awaits before [] [] d w f v k e = absurd (true≢false (sym e))
  turn_awaits before (s ∷ ss) (u ∷ ts) d w f v k e =
      go (eqb k s.branch) refl (λ a. turn_awaits u.left ss ts d.1 w.1 f.1 v k a)
    where
      first : SwitchDone percent s.branch s.served before u.left
      first = switch_done s.branch s.served w.0 f.0

      go : (q : Bool) → eqb k s.branch ≡ q
          → (asks ss v k ≡ true → (k < branches_in u.left.book) × ((case_in percent u.left.book).served k ≡ not v))
          → (k < branches_in before.book) × ((case_in percent before.book).served k ≡ not v)
      go true q later =
          let i = eqb-true k s.branch q in
          let o : asks ss v k ≡ false = ap (asks ss v) i ∙ d.0 v in
          rw i (first.there, first.other ∙ ap not (asked_first s.served v (eqb k s.branch) (asks ss v k) q o e))
      go false q later =
          let a = asked_later s.served v (eqb k s.branch) (asks ss v k) q e in
          let n = not_first ss v s.branch k (d.0 v) a in
          let l = later a in
          (omega (arith, first.but_status.count, l.0), sym (left_served first k n) ∙ l.1)
  turn_awaits before [] (u ∷ ts) d w f v k e = elim w [ ]
  turn_awaits before (s ∷ ss) [] d w f v k e = elim w [ ]

  -- After the first call the others still await theirs.
  pub await_next : (before : Lent) (s : Switching) (ss : List Switching) (u : Step) (v : Bool) → ((w : Bool) → asks ss w s.branch ≡ false)
      → SwitchDone percent s.branch s.served before u.left → Await percent v before (s ∷ ss) → Await percent v u.left ss
  await_next before s ss u v d done a k e =
      let n = not_first ss v s.branch k (d v) e in
      let l = a k (rw e (or_true (not (differ s.served v) && eqb k s.branch))) in
      (omega (arith, done.but_status.count, l.0), left_served done k n ∙ l.1)

  -- A call was made and accepted, so it passed its checks.
  pub turn_passes : (before : Lent) (ss : List Switching) (ts : List Step) → InTurn percent before ss ts → InFull ts
      → (v : Bool) (k : ℕ) → asks ss v k ≡ true → Passed percent before.book (length before.flow) (length before.table)
  turn_passes before [] [] w f v k e = absurd (true≢false (sym e))
  turn_passes before (s ∷ ss) (u ∷ ts) w f v k e = (switch_done s.branch s.served w.0 f.0).passes
  turn_passes before [] (u ∷ ts) w f v k e = elim w [ ]
  turn_passes before (s ∷ ss) [] w f v k e = elim w [ ]
