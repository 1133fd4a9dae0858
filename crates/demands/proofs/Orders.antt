-- The order of switchings, over the promises of `take_out` and `bring_back` alone: from a true table different branches may be switched in any order.
-- Outages are accepted in full exactly if the base excess without all of them is 0, and returns always; where two orders are accepted in full, books,
-- verdicts, shortages and groups are equal. Flows and reroutes may differ, and so may the call at which a refusal comes.
use mathlib.Core.Path.{◌≡◌, refl, sym, ap, ◌∙◌, subst, fun_ext}
use mathlib.Core.Bool.{Bool, true, false, not, ◌&&◌, ◌||◌, true≢false}
use mathlib.Core.List.{List, [], ◌∷◌}
use mathlib.Core.Logic.{◌↔◌}
use Prim.Native.Nat.{ℕ, ◌<◌}
use native.Mathlib.Omega.{arith}
use borrow.Author.Tests.{eq-eqb}
use lib.Dec.{eqb}
use lib.ListN.{length}
use Rattle.rows.specs.Bit.{bit_at, has}
use Rattle.rows.specs.Sum.{Group, differ}
use Rattle.rows.proofs.Row.{either_false}
use Rattle.answer.specs.Answer.{Answer, Accepted}
use Rattle.layout.specs.Layout.{branches_in, status_bit}
use Rattle.layout.specs.Check.{check_of}
use Rattle.layout.proofs.Statuses.{ButStatus, same_statuses}
use Rattle.verdict.specs.Case.{Case, out, out_all, on}
use Rattle.verdict.specs.Excess.{NoExcess, Spare}
use Rattle.verdict.specs.Record.{TrueTable}
use Rattle.verdict.specs.Update.{Lent}
use Rattle.verdict.proofs.Fitting.{posed_status, fits_none}
use Rattle.verdict.proofs.Fewer.{more_none, out_all_none, out_all_next}
use Rattle.verdict.proofs.Loss.{never_overload}
use Rattle.verdict.proofs.VerdictByCase.{bit_from}
use Rattle.state.specs.Case.{case_in}
use Rattle.state.specs.Call.{refuses, unfit, overloads, accepts}
use Rattle.state.proofs.Checked.{Passed, posed_passed}
use Rattle.state.proofs.Status.{served_is}
use Rattle.outage.specs.Promise.{TakeEnds}
use Rattle.outage.proofs.Checking.{taking}
use Rattle.demands.specs.Order.{Switching, Step, SwitchEnds, InTurn, last, InFull, asks, Different, AnotherOrder, AllAre, Await, ShowSame}
use Rattle.demands.proofs.Ends.{is_accepted, take_done}
use Rattle.demands.proofs.Demand3.{Stands, stands_passed, take_stands, back_stands}
use Rattle.demands.proofs.Returns.{stands_returns}
use Rattle.demands.proofs.SameBook.{book_shows}
use Rattle.demands.proofs.Switchings.{switch_done, passed_stands, asked, turn_true, turn_but, turn_served}
use Rattle.demands.proofs.Switchings.{turn_awaits, turn_passes, await_next}

-- ---- Outages.
-- Where a true table stands, an outage of a branch in service is accepted exactly if the base excess without it is 0.
pub take_exactly : {percent b : ℕ} {before after : Lent} {r : Answer} → Stands percent before → b < branches_in before.book
    → (case_in percent before.book).served b ≡ true
    → TakeEnds percent b before after r → (r ≡ Accepted) ↔ Spare (case_in percent before.book) b
take_exactly {percent} {b} {before} {after} {r} s there on_now e = (spared, λ h. go h e)
  where
    C : Case
    C = case_in percent before.book

    spared : r ≡ Accepted → Spare C b
    spared a = fits_none (out C b) (on after.flow) (posed_status C b false (posed_passed (stands_passed s))) (take_done e a).took.updated.fits

    go : Spare C b → TakeEnds percent b before after r → r ≡ Accepted
    go h (refuses n a k) = absurd (n (taking _ _ _ b (record { passes = stands_passed s; there = there; in_service = on_now })))
    go h (unfit c n a k) = absurd (n s.table_true.fits)
    go h (overloads c f o k) = absurd (never_overload (out C b) _ _ h o.overload)
    go h (accepts c f a o) = is_accepted a

-- The first of a list, as the others then go.
first_outage : {percent b : ℕ} {before : Lent} (T : Group) (u : Step) (ts : List Step) → Stands percent before → b < branches_in before.book
    → (case_in percent before.book).served b ≡ true
    → TakeEnds percent b before u.left u.answer
    → (u.answer ≡ Accepted → InFull ts ↔ NoExcess (out_all (case_in percent u.left.book) T))
    → InFull (u ∷ ts) ↔ NoExcess (out_all (case_in percent before.book) (λ k. eqb k b || T k))
first_outage {percent} {b} {before} T u ts s there on_now e rest = (
  λ full. subst NoExcess (same full.0) ((rest full.0).0 full.1),
  λ h. let taken = accepted_then h in (taken, (rest taken).1 (subst NoExcess (sym (same taken)) h)),
)
  where
    C : Case
    C = case_in percent before.book

    same : u.answer ≡ Accepted → out_all (case_in percent u.left.book) T ≡ out_all C (λ k. eqb k b || T k)
    same taken = ap (λ (D : Case). out_all D T) (take_done e taken).took.case_is ∙ sym (out_all_next C b T)

    accepted_then : NoExcess (out_all C (λ k. eqb k b || T k)) → u.answer ≡ Accepted
    accepted_then h = (take_exactly s there on_now e).1 (out_all_none (out C b) T (subst NoExcess (out_all_next C b T) h))

-- A list of one kind begins with one of that kind.
kind : (v s q o : Bool) → q ≡ true → (not (differ s (not v)) && q) || o ≡ false → s ≡ v
kind true true q o a e = refl
kind true false q o a e = absurd (true≢false (sym a ∙ (either_false q o e).0))
kind false true q o a e = absurd (true≢false (sym a ∙ (either_false q o e).0))
kind false false q o a e = refl

first_kind : (v : Bool) (s : Switching) (ss : List Switching) → AllAre v (s ∷ ss) → s.served ≡ v
first_kind v s ss a =
    kind v s.served (eqb s.branch s.branch) (asks ss (not v) s.branch) (eq-eqb s.branch s.branch refl) (a s.branch)

rest_kind : (v : Bool) (s : Switching) (ss : List Switching) → AllAre v (s ∷ ss) → AllAre v ss
rest_kind v s ss a k = (either_false (not (differ s.served (not v)) && eqb k s.branch) (asks ss (not v) k) (a k)).1

-- The first is asked for.
self : (s q o : Bool) → q ≡ true → (not (differ s s) && q) || o ≡ true
self true q o e = rw e refl
self false q o e = rw e refl

-- The first call of a list of one kind: its branch is there, isn't so yet, and the call is of that kind.
record First (percent b : ℕ) (v : Bool) (before : Lent) (u : Step) : Type 0 where
  there : b < branches_in before.book
  other : (case_in percent before.book).served b ≡ not v
  call : SwitchEnds percent b v before u.left u.answer

first_of : (percent : ℕ) (v : Bool) (before : Lent) (s : Switching) (ss : List Switching) (u : Step) → AllAre v (s ∷ ss)
    → Await percent v before (s ∷ ss) → SwitchEnds percent s.branch s.served before u.left u.answer → First percent s.branch v before u
first_of percent v before s ss u o a e =
    let b = s.branch in
    let is : s.served ≡ v = first_kind v s ss o in
    let l = a b (rw is (self v (eqb b b) (asks ss v b) (eq-eqb b b refl))) in
    record {
      there = l.0;
      other = l.1;
      call = subst (λ (w : Bool). SwitchEnds percent b w before u.left u.answer) is e;
    }

module _ (percent : ℕ) where
  -- Accepted in full exactly if the base excess without all of them is 0, whatever their order.
  pub outages_exactly : (before : Lent) (ss : List Switching) (ts : List Step) → Stands percent before → Different ss → AllAre false ss
      → Await percent false before ss
      → InTurn percent before ss ts → InFull ts ↔ NoExcess (out_all (case_in percent before.book) (asks ss false))
  outages_exactly before [] [] s d o a w =
      let C = case_in percent before.book in (
        λ full. more_none C C.served (λ k. C.served k && true) (λ k e. rw e refl)
            (fits_none C (on before.flow) (posed_passed (stands_passed s)) s.table_true.fits),
        λ h. tt,
      )
  outages_exactly before (x ∷ ss) (u ∷ ts) s d o a w =
      let b = x.branch in
      let first = first_of percent false before x ss u o a w.0 in
      let names : (λ (k : ℕ). eqb k b || asks ss false k) ≡ asks (x ∷ ss) false =
      sym (ap {B = Group} (λ (v : Bool) (k : ℕ). (not (differ v false) && eqb k b) || asks ss false k) (first_kind false x ss o)) in
      subst (λ (T : Group). InFull (u ∷ ts) ↔ NoExcess (out_all (case_in percent before.book) T)) names
      (first_outage (asks ss false) u ts s first.there first.other first.call
      (λ taken. outages_exactly u.left ss ts (take_stands s first.call taken) d.1 (rest_kind false x ss o)
      (await_next percent before x ss u false d.0 (switch_done b x.served w.0 taken) a)
      w.1))
  outages_exactly before [] (u ∷ ts) s d o a w = elim w [ ]
  outages_exactly before (x ∷ ss) [] s d o a w = elim w [ ]

  -- ---- Returns are always accepted in full.
  pub returns_full : (before : Lent) (ss : List Switching) (ts : List Step) → Stands percent before → Different ss → AllAre true ss
      → Await percent true before ss
      → InTurn percent before ss ts → InFull ts
  returns_full before [] [] s d o a w = tt
  returns_full before (x ∷ ss) (u ∷ ts) s d o a w =
      let first = first_of percent true before x ss u o a w.0 in
      let returned = stands_returns s first.there first.other first.call in (
        returned,
        returns_full u.left ss ts (back_stands s first.call returned) d.1 (rest_kind true x ss o)
            (await_next percent before x ss u true d.0 (switch_done x.branch x.served w.0 returned) a)
            w.1,
      )
  returns_full before [] (u ∷ ts) s d o a w = elim w [ ]
  returns_full before (x ∷ ss) [] s d o a w = elim w [ ]

-- ---- Two orders, from true tables of one book: the same table, or any two of them.
turned : {ss zs : List Switching} → AnotherOrder ss zs → AnotherOrder zs ss
turned o = record { once = o.again; again = o.once; same = λ v k. sym (o.same v k) }

-- Outages alone, or returns alone: where the one order is accepted in full, the other is.
module _ (percent : ℕ) (here elsewhere : Lent) (one-book : here.book ≡ elsewhere.book)
    (here-true : TrueTable (case_in percent here.book) here.flow here.table)
    (elsewhere-true : TrueTable (case_in percent elsewhere.book) elsewhere.flow elsewhere.table) where
  order_full : (v : Bool) (ss zs : List Switching) (ts us : List Step) → AnotherOrder ss zs → AllAre v ss → AllAre v zs
      → InTurn percent here ss ts → InTurn percent elsewhere zs us → InFull ts → InFull us
  order_full v ss [] ts [] o p q w z f = tt
  order_full v ss (y ∷ zs) ts us o p q w z f = go v p q
    where
      passes : Passed percent here.book (length here.flow) (length here.table)
      passes =
          turn_passes percent here ss ts w f y.served y.branch
          (o.same y.served y.branch
          ∙ self y.served (eqb y.branch y.branch) (asks zs y.served y.branch) (eq-eqb y.branch y.branch refl))

      stands : Stands percent elsewhere
      stands = record {
        in_range = passes.in_range;
        book = subst (λ (bs : List ℕ). check_of bs ≡ Accepted) one-book passes.book;
        table_true = elsewhere-true;
      }

      awaits : (x : Bool) → Await percent x elsewhere (y ∷ zs)
      awaits x =
          subst (λ (bs : List ℕ). (k : ℕ) → asks (y ∷ zs) x k ≡ true → (k < branches_in bs) × ((case_in percent bs).served k ≡ not x)) one-book
          (λ k e. turn_awaits percent here ss ts o.once w f x k (o.same x k ∙ e))

      go : (x : Bool) → AllAre x ss → AllAre x (y ∷ zs) → InFull us
      go true p q = returns_full percent elsewhere (y ∷ zs) us stands o.again q (awaits true) z
      go false p q =
          let first = outages_exactly percent here ss ts (passed_stands passes here-true) o.once p
          (turn_awaits percent here ss ts o.once w f false) w in
          let then = outages_exactly percent elsewhere (y ∷ zs) us stands o.again q (awaits false) z in
          let same : out_all (case_in percent here.book) (asks ss false) ≡ out_all (case_in percent elsewhere.book) (asks (y ∷ zs) false) =
          ap (λ (bs : List ℕ). out_all (case_in percent bs) (asks ss false)) one-book
          ∙ ap (out_all (case_in percent elsewhere.book)) (fun_ext (o.same false)) in
          then.1 (subst NoExcess same (first.0 f))
  order_full v ss [] ts (_ ∷ _) o p q w z f = elim z [ ]

module _ (percent : ℕ) (here elsewhere : Lent) (one-book : here.book ≡ elsewhere.book)
    (here-true : TrueTable (case_in percent here.book) here.flow here.table)
    (elsewhere-true : TrueTable (case_in percent elsewhere.book) elsewhere.flow elsewhere.table)
    {ss zs : List Switching} (o : AnotherOrder ss zs) (ts us : List Step) (w : InTurn percent here ss ts) (z : InTurn percent elsewhere zs us) where
  -- Both are accepted in full, or neither is. That the branches are in service, or out of it, needn't be known.
  pub both_or_neither : (v : Bool) → AllAre v ss → InFull ts ↔ InFull us
  both_or_neither v p =
      let q : AllAre v zs = λ k. sym (o.same (not v) k) ∙ p k in (
        order_full percent here elsewhere one-book here-true elsewhere-true v ss zs ts us o p q w z,
        order_full percent elsewhere here (sym one-book) elsewhere-true here-true v zs ss us ts (turned o) q p z w,
      )

  -- Outages and returns in any mixture: where both orders are accepted in full, they leave the same book and show the same.
  module _ (f : InFull ts) (g : InFull us) where
    but_here : ButStatus here.book (last here ts).book
    but_here = turn_but percent here ss ts w f

    but_elsewhere : ButStatus here.book (last elsewhere us).book
    but_elsewhere = subst (λ (bs : List ℕ). ButStatus bs (last elsewhere us).book) (sym one-book) (turn_but percent elsewhere zs us z g)

    status_same : (k : ℕ) → k < branches_in here.book
        → bit_at (last here ts).book (status_bit here.book k) ≡ bit_at (last elsewhere us).book (status_bit here.book k)
    status_same k l =
        let was = (case_in percent here.book).served k in
        bit_from (last here ts).book (last elsewhere us).book (status_bit here.book k)
        (ap (has (last here ts).book) (sym (but_here.status_at k))
        ∙ sym (served_is percent (last here ts).book k (omega (arith, but_here.count)))
        ∙ turn_served percent here ss ts o.once w f k
        ∙ ap (λ (x : Bool). asked was x (asks ss true k)) (o.same false k)
        ∙ ap (λ (x : Bool). asked was (asks zs false k) x) (o.same true k)
        ∙ ap (λ (bs : List ℕ). asked ((case_in percent bs).served k) (asks zs false k) (asks zs true k)) one-book
        ∙ sym (turn_served percent elsewhere zs us o.again z g k)
        ∙ served_is percent (last elsewhere us).book k (omega (arith, but_elsewhere.count))
        ∙ ap (has (last elsewhere us).book) (but_elsewhere.status_at k))

    pub order_same : ShowSame percent (last here ts) (last elsewhere us)
    order_same =
        book_shows percent (last here ts) (last elsewhere us) (same_statuses but_here but_elsewhere status_same)
        (turn_true percent here ss ts w f here-true) (turn_true percent elsewhere zs us z g elsewhere-true)
