-- Demand 1, over the promises alone: every result of a public call is answered with a number that it may give, with a place exactly if that is 4 or
-- 5, and a refusal keeps what was lent.
use mathlib.Core.Path.{◌≡◌, refl, sym, ap, ◌∙◌, subst}
use mathlib.Core.Bool.{true, false, true≢false}
use mathlib.Core.List.{List, ◌∷◌}
use Prim.Native.Nat.{ℕ}
use lib.IntN.{ℤ}
use lib.ListN.{length}
use Rattle.rows.specs.Row.{member}
use Rattle.answer.specs.declared.Refusal.TheVariants.{FlowUnfit}
use Rattle.answer.specs.Answer.{Answer, Accepted, Nowhere, Said, SaidBy, no_group, number_of, placed, refused}
use Rattle.answer.proofs.Refusals.{leaves}
use Rattle.answer.proofs.Said.{said_accepted, said_same}
use Rattle.answer.proofs.Giving.{Gives}
use Rattle.answer.proofs.Numbers.{gives_number, gives_place, inside, gives_more}
use Rattle.layout.specs.declared.Form.{Form}
use Rattle.pack.specs.Write.{write_numbers, write_check, BookWritten}
use Rattle.pack.proofs.Given.{write_gives, write_answer}
use Rattle.book.specs.Read.{read_numbers, read_check, BookRead}
use Rattle.book.proofs.ReadOnce.{read_gives, read_answer}
use Rattle.forms.specs.Move.{move_numbers, move_check, BookMoved}
use Rattle.forms.proofs.Moving.{move_gives, move_answer}
use Rattle.meters.specs.Registers.{Registers, answer_to}
use Rattle.meters.specs.Promise.{meter_numbers, Metered}
use Rattle.meters.proofs.Given.{meter_gives, meter_answer}
use Rattle.verdict.specs.Case.{Case, on, Fits}
use Rattle.verdict.specs.Update.{Lent}
use Rattle.state.specs.Call as call
use Rattle.state.specs.Call.{lent_numbers, OverloadSaid, Ends}
use Rattle.state.proofs.Checked.{lent_gives}
use Rattle.screen.specs.Promise.{screen_check, ScreenEnds, refuses, overloads, accepts}
use Rattle.outage.specs.Promise.{take_numbers, TakeEnds}
use Rattle.outage.proofs.Checking.{take_gives}
use Rattle.restore.specs.Promise.{back_numbers, BackEnds}
use Rattle.restore.proofs.Checking.{back_gives}
use Rattle.transfer.specs.Promise.{transfer_numbers, TransferEnds}
use Rattle.transfer.proofs.Checking.{transfer_gives}
use Rattle.demands.specs.Answered.{Answered}
use Rattle.demands.proofs.Ends.{back_never_12}

-- ---- One answer.
by_checks : (ns ms : List ℕ) (kept : Type 0) (o : Answer) (r : Answer) → Gives ns o → inside ns ms ≡ true → SaidBy o r
    → ((r ≡ Accepted → ⊥) → kept) → Answered ms kept r
by_checks ns ms kept o r g i s h = record {
  given = rw s.number_is (gives_number ms o (gives_more ns ms o i g));
  silent = λ n. rw (s.number_is, s.place_is) s;
  place_given = rw (s.number_is, s.place_is) (gives_place o);
  refused_keeps = h;
}

by_overload : (ms : List ℕ) (kept : Type 0) (C : Case) (r : Answer) → OverloadSaid C r → member 12 (0 ∷ ms) ≡ true → kept → Answered ms kept r
unfolding member
by_overload ms kept C r o g h = record {
  given = subst (λ (n : ℕ). member n (0 ∷ ms) ≡ true) (sym o.answer.number_is) g;
  silent = λ n. absurd (n o.answer.number_is);
  place_given = rw (o.answer.number_is, o.answer.place_is) refl;
  refused_keeps = λ n. h;
}

-- By a number without a place.
by_number : (ms : List ℕ) (kept : Type 0) (n : ℕ) (r : Answer) → Said r n 0 no_group Nowhere → member n (0 ∷ ms) ≡ true → member n placed ≡ false
    → ((r ≡ Accepted → ⊥) → kept) → Answered ms kept r
by_number ms kept n r s g f h = record {
  given = rw s.number_is g;
  silent = λ _. rw (s.number_is, s.place_is) s;
  place_given = rw (s.number_is, s.place_is) (sym f);
  refused_keeps = h;
}

-- A number outside the list is never given.
never : {ms : List ℕ} {kept : Type 0} {r : Answer} → Answered ms kept r → (n : ℕ) → member n (0 ∷ ms) ≡ false → number_of r ≡ n → ⊥
never {ms} a n m e = true≢false (sym a.given ∙ ap (λ (x : ℕ). member x (0 ∷ ms)) e ∙ m)

-- What isn't accepted was refused by its checks.
not_bare : (o : Answer) (r : Answer) → r ≡ o → (r ≡ Accepted → ⊥) → o ≡ Accepted → ⊥
not_bare o r e n q = n (e ∙ q)

-- ---- The calls without a choice.
pub reads : {bs : List ℕ} {inj inj' : List ℤ} {bra bra' : List ℕ} {r : Answer} → BookRead bs inj inj' bra bra' r → Answered read_numbers ((inj' ≡ inj) × (bra' ≡ bra)) r
unfolding member inside
reads {bs} {inj} {inj'} {bra} {bra'} {r} d =
    by_checks read_numbers read_numbers _ (read_check bs (length inj) (length bra)) r (read_gives bs (length inj) (length bra)) refl d.answer
    (λ n. let m = not_bare _ r (read_answer d) n in (d.injections_left ∙ leaves _ inj _ m, d.branches_left ∙ leaves _ bra _ m))

pub writes : {f : Form} {n m factor : ℕ} {inj : List ℤ} {bra out out' : List ℕ} {r : Answer} → BookWritten f n m factor inj bra out out' r → Answered write_numbers (out' ≡ out) r
unfolding member inside
writes {f} {n} {m} {factor} {inj} {bra} {out} {out'} {r} d =
    by_checks write_numbers write_numbers _ (write_check f n m factor inj bra (length out)) r (write_gives f n m factor inj bra (length out)) refl d.answer
    (λ h. d.left ∙ leaves _ out _ (not_bare _ r (write_answer f n m factor inj bra d) h))

pub moves : {bs : List ℕ} {f : Form} {out out' : List ℕ} {r : Answer} → BookMoved bs f out out' r → Answered move_numbers (out' ≡ out) r
unfolding member inside
moves {bs} {f} {out} {out'} {r} d =
    by_checks move_numbers move_numbers _ (move_check bs f (length out)) r (move_gives bs f (length out)) refl d.answer
    (λ h. d.left ∙ leaves _ out _ (not_bare _ r (move_answer d) h))

pub meters : {R : Registers} {out out' : List ℤ} {r : Answer} → Metered R out out' r → Answered meter_numbers (out' ≡ out) r
unfolding member inside
meters {R} {out} {out'} {r} d =
    by_checks meter_numbers meter_numbers _ (answer_to R (length out)) r (meter_gives R (length out)) refl d.answer (λ h. d.output ∙ leaves _ out _ (not_bare _ r (meter_answer R d) h))

-- ---- A screen, and every call that is lent a book, its flow and its table.
pub screens : {percent : ℕ} {before after : Lent} {r : Answer} → ScreenEnds percent before after r → Answered (12 ∷ lent_numbers) (after ≡ before) r
unfolding member inside
screens {percent} {before} {after} {r} (refuses n a k) = by_checks lent_numbers (12 ∷ lent_numbers) _ (screen_check percent before) r
    (lent_gives _ _ _ _) refl a (λ h. k)
screens {r = r} (overloads c o k) = by_overload (12 ∷ lent_numbers) _ _ r o refl k
screens {r = r} (accepts c a s) = by_number (12 ∷ lent_numbers) _ 0 r a refl refl (λ h. absurd (h (said_same a said_accepted)))

-- The checks give ns; the list ms has these and 11, and it has 12 where that is given.
pub answers : (ns ms : List ℕ) {check : Answer} {C D : Case} {done : Type 0} {before after : Lent} {r : Answer} → Gives ns check
    → inside ns ms ≡ true → member 11 (0 ∷ ms) ≡ true → (OverloadSaid D r → member 12 (0 ∷ ms) ≡ true)
    → Ends check C D done before after r → Answered ms (after ≡ before) r
unfolding member
answers ns ms {check} {C} {D} {done} {before} {after} {r} g i m v (call.refuses n a k) = by_checks ns ms _ check r g i a (λ h. k)
answers ns ms {check} {C} {D} {done} {before} {after} {r} g i m v (call.unfit c n a k) = by_number ms _ 11 r a m refl (λ h. k)
answers ns ms {check} {C} {D} {done} {before} {after} {r} g i m v (call.overloads c f o k) = by_overload ms _ D r o (v o) k
answers ns ms {check} {C} {D} {done} {before} {after} {r} g i m v (call.accepts c f a o) = by_number ms _ 0 r a refl refl (λ h. absurd (h (said_same a said_accepted)))

module _ {percent b : ℕ} {before after : Lent} {r : Answer} where
  pub takes : TakeEnds percent b before after r → Answered (11 ∷ 12 ∷ take_numbers) (after ≡ before) r
  unfolding member inside
  takes e = answers take_numbers (11 ∷ 12 ∷ take_numbers) (take_gives _ _ _ _ _) refl refl (λ o. refl) e

  -- A return gives 11, or a number of its checks; 12 isn't in the list.
  pub backs : BackEnds percent b before after r → Answered (11 ∷ back_numbers) (after ≡ before) r
  unfolding member inside
  backs e = answers back_numbers (11 ∷ back_numbers) (back_gives _ _ _ _ _) refl refl (λ o. absurd (back_never_12 e o.answer.number_is)) e

  -- No outage ends with 17.
  pub take_never_17 : TakeEnds percent b before after r → number_of r ≡ 17 → ⊥
  unfolding member
  take_never_17 e = never (takes e) 17 refl

  -- No return ends with 10.
  pub back_never_10 : BackEnds percent b before after r → number_of r ≡ 10 → ⊥
  unfolding member
  back_never_10 e = never (backs e) 10 refl

pub transfers : {percent up down kw : ℕ} {before after : Lent} {r : Answer} → TransferEnds percent up down kw before after r
    → Answered (11 ∷ 12 ∷ transfer_numbers) (after ≡ before) r
unfolding member inside
transfers e = answers transfer_numbers (11 ∷ 12 ∷ transfer_numbers) (transfer_gives _ _ _ _ _ _ _) refl refl (λ o. refl) e

-- ---- The first test that fails is the one that is given.
pub screen_first : {percent : ℕ} {before after : Lent} {r : Answer} → ScreenEnds percent before after r → (screen_check percent before ≡ Accepted → ⊥)
    → SaidBy (screen_check percent before) r
screen_first (refuses n a k) h = a
screen_first (overloads c o k) h = absurd (h c)
screen_first (accepts c a s) h = absurd (h c)

module _ {check : Answer} {C D : Case} {done : Type 0} {before after : Lent} {r : Answer} where
  pub call_first : Ends check C D done before after r → (check ≡ Accepted → ⊥) → SaidBy check r
  call_first (call.refuses n a k) h = a
  call_first (call.unfit c n a k) h = absurd (h c)
  call_first (call.overloads c f o k) h = absurd (h c)
  call_first (call.accepts c f a o) h = absurd (h c)

  -- Past the checks, a lent flow that doesn't fit is refused with 11.
  pub call_unfit : Ends check C D done before after r → check ≡ Accepted → (Fits C C.limit (on before.flow) → ⊥) → SaidBy (refused FlowUnfit) r
  call_unfit (call.refuses n a k) c m = absurd (n c)
  call_unfit (call.unfit c' m' a k) c m = a
  call_unfit (call.overloads c' f o k) c m = absurd (m f)
  call_unfit (call.accepts c' f a o) c m = absurd (m f)
