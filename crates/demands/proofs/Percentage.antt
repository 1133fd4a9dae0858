-- The percentage: 21 exactly where it is out of range, before all others; within its range no check looks at it; at 100 the limits are document
-- 01's, and none falls as it rises.
use Rattle.answer.specs.declared.Refusal.{Refusal}
use mathlib.Core.Path.{◌≡◌, refl, sym, ◌∙◌, subst}
use mathlib.Core.Bool.{Bool, true, false}
use mathlib.Core.List.{List, [], ◌∷◌}
use Prim.Native.Nat.{ℕ, ◌*◌, ◌/◌, ◌≤◌}
use native.Mathlib.Omega.{arith}
use lib.ListN.{length}
use Rattle.rows.specs.Row.{member}
use Rattle.answer.specs.declared.Refusal.TheVariants.{PercentOutside, AlreadyOut, AlreadyIn}
use Rattle.answer.specs.Answer.{Answer, Accepted, At, SaidBy, number, number_of, place_of, refused}
use Rattle.answer.proofs.Refusals.{refusal_stands, at_not_nowhere}
use Rattle.answer.proofs.Giving.{Gives, plain}
use Rattle.answer.proofs.Numbers.{inside, gives_not, gives_more}
use Rattle.quantity.specs.Rating.{percent_out}
use Rattle.quantity.proofs.Limits.{limit_full, limit_by_percent}
use Rattle.layout.specs.Book.{Book, branch}
use Rattle.layout.specs.Check.{check_numbers}
use Rattle.verdict.specs.Case.{Case}
use Rattle.verdict.specs.Update.{Lent}
use Rattle.state.specs.Case.{case_of}
use Rattle.state.specs.Call as call
use Rattle.state.specs.Call.{lent_check, Ends}
use Rattle.state.proofs.Checked.{by_percent, in_range_gives}
use Rattle.switch.specs.Check.{branch_check, branch_status}
use Rattle.switch.proofs.Checking.{by_lent, branch_gives}
use Rattle.screen.specs.Promise.{screen_check, ScreenEnds, refuses, overloads, accepts}
use Rattle.outage.specs.Promise.{TakeEnds}
use Rattle.restore.specs.Promise.{BackEnds}
use Rattle.transfer.specs.Promise.{transfer_check, TransferEnds}
use Rattle.transfer.proofs.Checking as transfer
use Rattle.demands.specs.Answered.{PercentFirst}

-- ---- Refusal 21.
-- A check that gives 21 where the percentage is out of range, and else never.
record Guarded (percent : ℕ) (check : Answer) : Type 0 where
  outside : percent_out percent ≡ true → check ≡ refused PercentOutside
  within : percent_out percent ≡ false → number_of check ≡ 21 → ⊥

-- What is left of the numbers of a call on one branch.
abbrev past_percent : ℕ → List ℕ
past_percent n = 1 ∷ 2 ∷ 3 ∷ 4 ∷ 5 ∷ 6 ∷ 7 ∷ 8 ∷ 9 ∷ n ∷ []

-- A number of a list without 21.
not_21 : (ns : List ℕ) (check : Answer) → Gives ns check → member 21 ns ≡ false → number_of check ≡ 21 → ⊥
not_21 ns check g m = gives_not ns check 21 g m (λ z. omega arith)

module _ (percent : ℕ) (bs : List ℕ) (flows bytes : ℕ) where
  lent_guarded : Guarded percent (lent_check percent bs flows bytes)
  unfolding member
  lent_guarded = record {
    outside = λ o. sym (by_percent percent bs flows bytes o);
    within = λ i. not_21 (8 ∷ check_numbers) (lent_check percent bs flows bytes) (in_range_gives percent bs flows bytes i) refl;
  }

  -- n is what a branch switched already is refused with.
  branch_guarded : (b v : ℕ) (n : Refusal) → plain n (past_percent (number n)) ≡ true → member 21 (past_percent (number n)) ≡ false
      → Guarded percent (branch_check percent bs flows bytes b v n)
  unfolding member inside
  branch_guarded b v n p m = record {
    outside = λ o. sym (by_lent percent bs flows bytes b v n (refused PercentOutside) (by_percent percent bs flows bytes o) (refusal_stands PercentOutside));
    within = λ i.
        let g = gives_more (8 ∷ check_numbers) (past_percent (number n)) (lent_check percent bs flows bytes) refl (in_range_gives percent bs flows bytes i) in
        not_21 (past_percent (number n)) (branch_check percent bs flows bytes b v n) (branch_gives percent bs flows bytes b v n (past_percent (number n)) g refl p) m;
  }

  -- 19 and 20 of a move of load.
  transfer_guarded : (up down kw : ℕ) → Guarded percent (transfer_check percent bs flows bytes up down kw)
  unfolding member inside
  transfer_guarded up down kw = record {
    outside = λ o. sym (transfer.by_lent percent bs flows bytes up down kw (refused PercentOutside) (by_percent percent bs flows bytes o) (refusal_stands PercentOutside));
    within = λ i.
        let ns : List ℕ = 19 ∷ 20 ∷ 8 ∷ check_numbers in
        let g = gives_more (8 ∷ check_numbers) ns (lent_check percent bs flows bytes) refl (in_range_gives percent bs flows bytes i) in
        not_21 ns (transfer_check percent bs flows bytes up down kw) (transfer.rest_gives percent bs flows bytes up down kw ns g refl refl) refl;
  }

module _ {percent : ℕ} {before after : Lent} {r : Answer} where
  pub screen_percent : ScreenEnds percent before after r → PercentFirst percent before after r
  screen_percent e = record { outside = λ o. (first e o).0; kept = λ o. (first e o).1; within = λ i. none e i }
    where
      guarded : Guarded percent (screen_check percent before)
      guarded = lent_guarded percent before.book (length before.flow) (length before.table)

      first : ScreenEnds percent before after r → percent_out percent ≡ true → SaidBy (refused PercentOutside) r × (after ≡ before)
      first (refuses n a k) o = (subst (λ (c : Answer). SaidBy c r) (guarded.outside o) a, k)
      first (overloads c x k) o = absurd (refusal_stands PercentOutside (sym (guarded.outside o) ∙ c))
      first (accepts c a x) o = absurd (refusal_stands PercentOutside (sym (guarded.outside o) ∙ c))

      none : ScreenEnds percent before after r → percent_out percent ≡ false → number_of r ≡ 21 → ⊥
      none (refuses n a k) i q = guarded.within i (sym a.number_is ∙ q)
      none (overloads c x k) i q = omega (arith, x.answer.number_is)
      none (accepts c a x) i q = omega (arith, a.number_is)

  -- Every call that is lent a book, its flow and its table.
  ends_percent : {check : Answer} {C D : Case} {done : Type 0} → Guarded percent check → Ends check C D done before after r
      → PercentFirst percent before after r
  ends_percent {check} {C} {D} {done} g e = record { outside = λ o. (first e o).0; kept = λ o. (first e o).1; within = λ i. none e i }
    where
      never : percent_out percent ≡ true → check ≡ Accepted → ⊥
      never o c = refusal_stands PercentOutside (sym (g.outside o) ∙ c)

      first : Ends check C D done before after r → percent_out percent ≡ true → SaidBy (refused PercentOutside) r × (after ≡ before)
      first (call.refuses n a k) o = (subst (λ (c : Answer). SaidBy c r) (g.outside o) a, k)
      first (call.unfit c n a k) o = absurd (never o c)
      first (call.overloads c f x k) o = absurd (never o c)
      first (call.accepts c f a x) o = absurd (never o c)

      none : Ends check C D done before after r → percent_out percent ≡ false → number_of r ≡ 21 → ⊥
      none (call.refuses n a k) i q = g.within i (sym a.number_is ∙ q)
      none (call.unfit c n a k) i q = omega (arith, a.number_is)
      none (call.overloads c f x k) i q = omega (arith, x.answer.number_is)
      none (call.accepts c f a x) i q = omega (arith, a.number_is)

  pub take_percent : {b : ℕ} → TakeEnds percent b before after r → PercentFirst percent before after r
  unfolding member
  take_percent {b} e = ends_percent (branch_guarded _ _ _ _ b 0 AlreadyOut refl refl) e

  pub back_percent : {b : ℕ} → BackEnds percent b before after r → PercentFirst percent before after r
  unfolding member
  back_percent {b} e = ends_percent (branch_guarded _ _ _ _ b 1 AlreadyIn refl refl) e

  pub transfer_percent : {up down kw : ℕ} → TransferEnds percent up down kw before after r → PercentFirst percent before after r
  transfer_percent {up} {down} {kw} e = ends_percent (transfer_guarded _ _ _ _ up down kw) e

-- An answer that has a place had a percentage in range, so that what is said of such an answer (WhereWrong.antt) is said of every one.
pub placed_in_range : {percent : ℕ} {before after : Lent} {r : Answer} → PercentFirst percent before after r → {i j : ℕ}
    → place_of r ≡ At i j → percent_out percent ≡ false
placed_in_range {percent} f e = go (percent_out percent) refl
  where
    go : (t : Bool) → percent_out percent ≡ t → percent_out percent ≡ false
    go true o = absurd (at_not_nowhere (f.outside o).place_is e)
    go false o = o

-- Two percentages within the range: the checks say the same.
module _ (p q : ℕ) (one : percent_out p ≡ false) (two : percent_out q ≡ false) (bs : List ℕ) (flows bytes : ℕ) where
  pub lent_alike : lent_check p bs flows bytes ≡ lent_check q bs flows bytes
  unfolding lent_check
  lent_alike = rw (one, two) refl

  pub branch_alike : (b v : ℕ) → (branch_status p bs flows bytes b v ≡ branch_status q bs flows bytes b v)
      × ((n : Refusal) → branch_check p bs flows bytes b v n ≡ branch_check q bs flows bytes b v n)
  unfolding branch_check branch_status
  branch_alike b v = (rw lent_alike refl, λ n. rw lent_alike refl)

  pub transfer_alike : (up down kw : ℕ) → transfer_check p bs flows bytes up down kw ≡ transfer_check q bs flows bytes up down kw
  unfolding transfer_check
  transfer_alike up down kw = rw lent_alike refl

-- ---- The limits of branch k.
module _ (b : Book) (k : ℕ) where
  -- At 100: kVA times power factor divided by 1000, rounded down.
  pub limits_full : ((case_of 100 b).limit k ≡ (branch b k).kva.0 * b.factor / 1000)
      × ((case_of 100 b).loss_limit k ≡ (branch b k).kva2.0 * b.factor / 1000)
  unfolding case_of
  limits_full = (limit_full (branch b k).kva.0 b.factor, limit_full (branch b k).kva2.0 b.factor)

  pub limits_rise : {p q : ℕ} → p ≤ q → ((case_of p b).limit k ≤ (case_of q b).limit k) × ((case_of p b).loss_limit k ≤ (case_of q b).loss_limit k)
  unfolding case_of
  limits_rise h = (limit_by_percent (branch b k).kva.0 b.factor h, limit_by_percent (branch b k).kva2.0 b.factor h)
