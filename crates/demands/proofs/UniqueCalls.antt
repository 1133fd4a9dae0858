-- Any two results that the promise of `take_out` allows have the same answer and book and leave the same lent memory, but for the flow numbers that
-- are free, the free reroute bits of records that were written and, from a table that wasn't true, records that only one put on its shortlist.
use mathlib.Core.Path.{◌≡◌, refl, sym, ap, ◌∙◌}
use mathlib.Core.Bool.{Bool, true, false, true≢false}
use mathlib.Core.List.{List}
use mathlib.Core.Logic.{◌↔◌, ◌⊎◌, inl, inr}
use Prim.Native.Nat.{ℕ, ◌<◌}
use lib.IntN.{ℤ}
use Rattle.rows.specs.Row.{member}
use Rattle.rows.specs.Sum.{pick}
use Rattle.rows.proofs.Sum.{over_same}
use Rattle.answer.specs.Answer.{Answer, Accepted}
use Rattle.answer.proofs.Said.{said_same}
use Rattle.verdict.specs.Case.{Case, Posed, out, on, Fits}
use Rattle.verdict.specs.Record.{record_at, names, TrueTable}
use Rattle.verdict.specs.Update.{Lent, Renewed, Shortlisted}
use Rattle.verdict.proofs.Fitting.{posed_status, served_self}
use Rattle.verdict.proofs.Keep.{stable}
use Rattle.verdict.proofs.Updates.{shortlisted?}
use Rattle.state.specs.Case.{case_in}
use Rattle.state.specs.Call.{Ends, refuses, unfit, overloads, accepts}
use Rattle.state.proofs.Checked.{posed_passed}
use Rattle.state.proofs.OneOverload.{overloaded_same, fits_not_over}
use Rattle.outage.specs.Promise.{Touched, Confined, take_numbers, TakenOut, TakeEnds, Judges, TakeCounted}
use Rattle.outage.specs.declared.Taken.{Taken}
use Rattle.outage.proofs.Checking.{takeable, take_gives}
use Rattle.demands.specs.Same.{FreeTaken, FreeBit, Alike, SameResult}
use Rattle.demands.proofs.Ends.{take_done, is_accepted, call-accepted?}
use Rattle.demands.proofs.Unique.{equal_alike, true_alike, still_same, beyond_same, kept_same, flows_below, Each}
use Rattle.demands.proofs.Calls.{touched?, call_true}

-- ---- Any call: two tables renewed from the same one have the same records where the lists agree.
-- Either of the two lists has k; both or neither has it.
abbrev pub Either : (ℕ → Type 0) → (ℕ → Type 0) → ℕ → Type 0
Either L M k = L k ⊎ M k

abbrev pub Agree : (ℕ → Type 0) → (ℕ → Type 0) → ℕ → Type 0
Agree L M k = L k ↔ M k

module _ (C : Case) (L M : ℕ → Type 0) {before one two : Lent} where
  renewed_alike : ((k : ℕ) → Dec (L k)) → Renewed C L before one → Renewed C M before two
      → (k : ℕ) → k < C.branches → Agree L M k → Alike (FreeBit C (Either L M) one two k) (record_at one.table k) (record_at two.table k)
  renewed_alike listed? x y k l w = elim (listed? k) [
    | yes m ↦ true_alike C (Either L M) one two k x.fits y.fits (inl m) (x.rewritten k l m) (y.rewritten k l (w.0 m))
    | no m ↦ equal_alike C (Either L M) one two k (x.kept k l m ∙ sym (y.kept k l (λ h. m (w.1 h))))
  ]

  -- Two true tables renewed from the same one, whatever the lists.
  pub renewed_true : ((k : ℕ) → Dec (L k)) → ((k : ℕ) → Dec (M k)) → Renewed C L before one → Renewed C M before two
      → TrueTable C one.flow one.table → TrueTable C two.flow two.table
      → (k : ℕ) → k < C.branches → Each k → Alike (FreeBit C (Either L M) one two k) (record_at one.table k) (record_at two.table k)
  renewed_true l? m? x y t u k l w = go (l? k) (m? k)
    where
      anew : Either L M k → Alike (FreeBit C (Either L M) one two k) (record_at one.table k) (record_at two.table k)
      anew e = true_alike C (Either L M) one two k x.fits y.fits e (t.each k l) (u.each k l)

      go : Dec (L k) → Dec (M k) → Alike (FreeBit C (Either L M) one two k) (record_at one.table k) (record_at two.table k)
      go (yes p) q = anew (inl p)
      go (no n) (yes q) = anew (inr q)
      go (no n) (no m) = equal_alike C (Either L M) one two k (x.kept k l n ∙ sym (y.kept k l m))

  module _ (free agreed : ℕ → Type 0) {r s : Answer} where
    pub renewed_same : r ≡ s → r ≡ Accepted → one.book ≡ two.book → Renewed C L before one → Renewed C M before two
        → ((j : ℕ) → j < C.branches → (free j → ⊥) → on one.flow j ≡ on two.flow j)
        → ((k : ℕ) → k < C.branches → agreed k → Alike (FreeBit C (Either L M) one two k) (record_at one.table k) (record_at two.table k))
        → SameResult C free (Either L M) agreed one two r s
    renewed_same e a b x y f records =
        let z = beyond_same C x.beyond y.beyond in
        record { answers = e; books = b; flows = flows_below C free z f; beyond = z; records = records; refused_same = λ n. absurd (n a) }

-- Two ends of one call that makes the case D: X and Y are what an accepted one did.
pub ends_same : {check : Answer} (C D : Case) (free L M : ℕ → Type 0) {X Y : Type 0} {before one two : Lent} {r s : Answer}
    → (check ≡ Accepted → Posed D)
    → (X → Renewed D L before one) → (Y → Renewed D M before two) → (X → Y → one.book ≡ two.book)
    → (X → Y → (j : ℕ) → j < D.branches → (free j → ⊥) → on one.flow j ≡ on two.flow j) → ((k : ℕ) → Dec (L k))
    → Ends check C D X before one r → Ends check C D Y before two s → SameResult D free (Either L M) (Agree L M) one two r s
ends_same C D F L M p x y b f l? (refuses n a k) (refuses n' a' k') = kept_same D F _ _ (said_same a a') k k'
ends_same C D F L M p x y b f l? (refuses n a k) (unfit c m a' k') = absurd (n c)
ends_same C D F L M p x y b f l? (refuses n a k) (overloads c h o k') = absurd (n c)
ends_same C D F L M p x y b f l? (refuses n a k) (accepts c h a' o) = absurd (n c)
ends_same C D F L M p x y b f l? (unfit c m a k) (refuses n a' k') = absurd (n c)
ends_same C D F L M p x y b f l? (unfit c m a k) (unfit c' m' a' k') = kept_same D F _ _ (said_same a a') k k'
ends_same C D F L M p x y b f l? (unfit c m a k) (overloads c' h o k') = absurd (m h)
ends_same C D F L M p x y b f l? (unfit c m a k) (accepts c' h a' o) = absurd (m h)
ends_same C D F L M p x y b f l? (overloads c h o k) (refuses n a k') = absurd (n c)
ends_same C D F L M p x y b f l? (overloads c h o k) (unfit c' m a k') = absurd (m h)
ends_same C D F L M p x y b f l? (overloads c h o k) (overloads c' h' o' k') = kept_same D F _ _ (overloaded_same D _ _ o o') k k'
ends_same C D F L M p x y b f l? (overloads c h o k) (accepts c' h' a u) = absurd (fits_not_over D _ _ (p c) (y u).fits o)
ends_same C D F L M p x y b f l? (accepts c h a u) (refuses n a' k) = absurd (n c)
ends_same C D F L M p x y b f l? (accepts c h a u) (unfit c' m a' k) = absurd (m h)
ends_same C D F L M p x y b f l? (accepts c h a u) (overloads c' h' o k) = absurd (fits_not_over D _ _ (p c) (x u).fits o)
ends_same C D F L M p x y b f l? (accepts c h a u) (accepts c' h' a' v) =
    renewed_same D L M F (Agree L M) (said_same a a') (is_accepted a) (b u v) (x u) (y v) (f u v) (renewed_alike D L M l? (x u) (y v))

-- ---- Taking out.
abbrev pub lent_case : ℕ → Lent → Case
lent_case percent l = case_in percent l.book

-- The shortlist of a call that left the flow g.
abbrev pub Listed : ℕ → Lent → ℕ → List ℤ → ℕ → Type 0
Listed percent before b g k = Shortlisted (out (case_in percent before.book) b) before.table (Touched (on before.flow) (on g) b) k

pub listed? : (percent : ℕ) (before : Lent) (b : ℕ) (g : List ℤ) (k : ℕ) → Dec (Listed percent before b g k)
listed? percent before b g =
    shortlisted? (out (case_in percent before.book) b) before.table (Touched (on before.flow) (on g) b)
    (touched? (on before.flow) (on g) b)

-- Both results have k on their shortlists, or neither has.
abbrev pub AgreeTaken : ℕ → Lent → ℕ → Lent → Lent → ℕ → Type 0
AgreeTaken percent before b one two = Agree (Listed percent before b one.flow) (Listed percent before b two.flow)

-- The same result, as far as `agreed`.
abbrev pub SameTaken : ℕ → Lent → ℕ → (ℕ → Type 0) → Lent → Lent → Answer → Answer → Type 0
SameTaken percent before b agreed one two =
    SameResult (out (lent_case percent before) b) (FreeTaken percent before b)
    (Either (Listed percent before b one.flow) (Listed percent before b two.flow)) agreed one two

module _ {percent : ℕ} {before one two : Lent} {b : ℕ} where
  -- A flow number that both left otherwise is free.
  free_taken : TakenOut percent b before one → TakenOut percent b before two → (j : ℕ) → j < (lent_case percent before).branches
      → (out (lent_case percent before) b).served j ≡ true
      → (on one.flow j ≡ on two.flow j → ⊥) → FreeTaken percent before b j
  free_taken x y j l i d = record {
    left = record { there = l; in_service = i };
    flowing = λ z. d (x.idle z j l ∙ sym (y.idle z j l));
    named = λ h w c. is_named h w c (names (record_at before.table b) j) refl;
  }
    where
      apart : j ≡ b → ⊥
      apart e = true≢false (sym i ∙ ap (out (lent_case percent before) b).served e ∙ served_self (lent_case percent before) b false)

      is_named : (h : ℕ → ℤ) → Fits (out (lent_case percent before) b) (lent_case percent before).limit h
          → Confined (lent_case percent before) (on before.flow) (record_at before.table b) b h
          → (t : Bool) → names (record_at before.table b) j ≡ t → names (record_at before.table b) j ≡ true
      is_named h w c true e = e
      is_named h w c false e = absurd (d (x.confined h w c j l apart e ∙ sym (y.confined h w c j l apart e)))

  flows_taken : TakenOut percent b before one → TakenOut percent b before two → (j : ℕ) → j < (lent_case percent before).branches
      → (FreeTaken percent before b j → ⊥)
      → on one.flow j ≡ on two.flow j
  flows_taken x y j l n =
      still_same (out (lent_case percent before) b) (on one.flow) (on two.flow) x.updated.fits y.updated.fits j l
      ((out (lent_case percent before) b).served j) refl
      (λ i. stable _ _ (λ d. n (free_taken x y j l i d)))

  module _ {r s : Answer} where
    -- From any table.
    pub calls_same : TakeEnds percent b before one r → TakeEnds percent b before two s
        → SameTaken percent before b (AgreeTaken percent before b one two) one two r s
    calls_same =
        ends_same (lent_case percent before) (out (lent_case percent before) b) (FreeTaken percent before b) (Listed percent before b one.flow)
        (Listed percent before b two.flow)
        (λ c. posed_status _ b _ (posed_passed (takeable _ _ _ b c).passes))
        (λ o. o.updated) (λ o. o.updated) (λ o u. o.book_is ∙ sym u.book_is) flows_taken (listed? percent before b one.flow)

    -- From a true table every record is so, whatever the two shortlists.
    pub calls_same_true : TrueTable (lent_case percent before) before.flow before.table → TakeEnds percent b before one r
        → TakeEnds percent b before two s → r ≡ Accepted
        → SameTaken percent before b Each one two r s
    calls_same_true t x y a =
        let e = (calls_same x y).answers in
        let d = take_done x a in
        let d' = take_done y (sym e ∙ a) in
        renewed_same (out (lent_case percent before) b) _ _ (FreeTaken percent before b) Each e a (d.took.book_is ∙ sym d'.took.book_is)
        d.took.updated d'.took.updated (flows_taken d.took d'.took)
        (renewed_true (out (lent_case percent before) b) _ _ (listed? percent before b one.flow) (listed? percent before b two.flow)
        d.took.updated d'.took.updated
        (call_true d.posed_case d.took t) (call_true d'.posed_case d'.took t))

-- ---- The number of losses judged: 0 for a refusal, and one number where the shortlists agree.
judges_same : (D : Case) (t : List ℕ) (T U : ℕ → Type 0) (n m : ℕ) → ((k : ℕ) → Dec (Shortlisted D t T k))
    → ((k : ℕ) → k < D.branches → Agree (Shortlisted D t T) (Shortlisted D t U) k)
    → Judges D T t n → Judges D U t m → n ≡ m
judges_same D t T U n m listed? agree x y =
    x.count
    ∙ over_same D.branches _ _ _ _ (λ k l. ap (λ (b : Bool). pick b 1) (one k l (listed? k) (D.served k) refl))
    ∙ sym y.count
  where
    one : (k : ℕ) → k < D.branches → Dec (Shortlisted D t T k) → (s : Bool) → D.served k ≡ s → x.judged k ≡ y.judged k
    one k l (yes p) true i = x.if_listed k l p i ∙ sym (y.if_listed k l ((agree k l).0 p) i)
    one k l (yes p) false i = x.if_not k l (λ _ j. true≢false (sym j ∙ i)) ∙ sym (y.if_not k l (λ _ j. true≢false (sym j ∙ i)))
    one k l (no n) s i = x.if_not k l (λ p _. n p) ∙ sym (y.if_not k l (λ p _. n ((agree k l).1 p)))

module _ {percent : ℕ} {before one two : Lent} {b : ℕ} {r s : Taken} where
  pub counted_same : TakeCounted percent b before one r → TakeCounted percent b before two s
      → ((k : ℕ) → k < (lent_case percent before).branches → AgreeTaken percent before b one two k) → r.judged ≡ s.judged
  unfolding member
  counted_same x y agree = go (call-accepted? take_numbers refl refl (take_gives _ _ _ _ _) x.ends)
    where
      same : r.answer ≡ s.answer
      same = (calls_same x.ends y.ends).answers

      go : Dec (r.answer ≡ Accepted) → r.judged ≡ s.judged
      go (yes a) =
          judges_same _ before.table _ _ r.judged s.judged (listed? percent before b one.flow) agree (x.judges a)
          (y.judges (sym same ∙ a))
      go (no n) = x.none n ∙ sym (y.none (λ a. n (same ∙ a)))
