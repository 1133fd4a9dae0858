-- Where the book is wrong: each call passes on what the check of the fields says, and the place is that of the first broken rule.
use Rattle.answer.specs.declared.Refusal.{Refusal}
use mathlib.Core.Path.{◌≡◌, refl, sym, ap, subst, ◌∙◌}
use mathlib.Core.Bool.{false, ◌||◌}
use mathlib.Core.List.{List}
use Prim.Native.Nat.{ℕ, ◌*◌, ◌<◌}
use native.Mathlib.Omega.{arith}
use lib.Dec.{ltb, leb, eqb}
use lib.IntN.{ℤ}
use lib.ListN.{length}
use Rattle.answer.specs.Answer.{Answer, Accepted, At, Nowhere, SaidBy, and_then, number_of, place_of, refused}
use Rattle.answer.proofs.Refusals.{stands, if_nowhere, at_not_nowhere, placed_before}
use Rattle.quantity.specs.Rating.{percent_out}
use Rattle.layout.specs.declared.Form.{Form}
use Rattle.layout.specs.Book.{branch}
use Rattle.layout.specs.Form.{fields}
use Rattle.layout.specs.Layout.{bytes_for, buses_in, branches_in, form_in, bus_at, bus_values, book_of}
use Rattle.layout.specs.Rule.{WrongIn, at_bus, at_branch}
use Rattle.layout.specs.Check.{check_of}
use Rattle.layout.proofs.Places.{check_wrong, never_sign, never_status}
use Rattle.pack.specs.Write.{entry, WrongTables, BookWritten}
use Rattle.pack.proofs.WrongTables.{write_wrong}
use Rattle.book.specs.Read.{read_check, BookRead}
use Rattle.forms.specs.Move.{ratings_differ, would_lose, move_check, BookMoved}
use Rattle.verdict.specs.Case.{Case}
use Rattle.verdict.specs.Update.{Lent}
use Rattle.state.specs.Call as call
use Rattle.state.specs.Call.{lent_check, Ends}
use Rattle.switch.specs.Check.{branch_check}
use Rattle.screen.specs.Promise.{ScreenEnds, refuses, overloads, accepts}
use Rattle.outage.specs.Promise.{TakeEnds}
use Rattle.restore.specs.Promise.{BackEnds}
use Rattle.transfer.specs.Promise.{leaves_range, transfer_check, TransferEnds}
use Rattle.demands.specs.WhereWrong.{Tells}

-- ---- A check that begins with the book's own, and has no place but that one's.
record Begins (bs : List ℕ) (check : Answer) : Type 0 where
  whole : (check_of bs ≡ Accepted → ⊥) → check ≡ check_of bs
  its_place : {i j : ℕ} → place_of check ≡ At i j → check ≡ check_of bs

begins_with : (bs : List ℕ) → Begins bs (check_of bs)
begins_with bs = record { whole = λ n. refl; its_place = λ e. refl }

begins_then : {bs : List ℕ} (o next : Answer) → place_of next ≡ Nowhere → Begins bs o → Begins bs (and_then o next)
begins_then o next w b = record {
  whole = λ n. stands o next (λ e. n (sym (b.whole n) ∙ e)) ∙ b.whole n;
  its_place = λ e. let p = placed_before o next w e in p ∙ b.its_place (ap place_of (sym p) ∙ e);
}

module _ (bs : List ℕ) where
  read_begins : (i j : ℕ) → Begins bs (read_check bs i j)
  unfolding read_check
  read_begins i j =
      begins_then (check_of bs) _ (if_nowhere (ltb i (buses_in bs) || ltb j (fields (form_in bs) * branches_in bs)) _ Accepted refl refl) (begins_with bs)

  move_begins : (f : Form) (room : ℕ) → Begins bs (move_check bs f room)
  unfolding move_check
  move_begins f room =
      begins_then (check_of bs) _
      (if_nowhere (would_lose f (ratings_differ (book_of bs))) _ _ refl (if_nowhere (ltb room (bytes_for f (buses_in bs) (branches_in bs))) _ Accepted refl refl))
      (begins_with bs)

  -- The percentage is tested first, so it has to be in range.
  module _ (percent : ℕ) (in_range : percent_out percent ≡ false) where
    lent_begins : (flows bytes : ℕ) → Begins bs (lent_check percent bs flows bytes)
    unfolding lent_check
    lent_begins flows bytes =
        rw in_range
        (begins_then (check_of bs) _ (if_nowhere (ltb flows (branches_in bs) || ltb bytes (52 * branches_in bs)) _ Accepted refl refl) (begins_with bs))

    branch_begins : (flows bytes b v : ℕ) (n : Refusal) → place_of (refused n) ≡ Nowhere → Begins bs (branch_check percent bs flows bytes b v n)
    unfolding branch_check
    branch_begins flows bytes b v n w =
        begins_then (lent_check percent bs flows bytes) _
        (if_nowhere (leb (branches_in bs) b) _ _ refl (if_nowhere (eqb (branch (book_of bs) b).status v) n Accepted w refl))
        (lent_begins flows bytes)

    transfer_begins : (flows bytes up down kw : ℕ) → Begins bs (transfer_check percent bs flows bytes up down kw)
    unfolding transfer_check
    transfer_begins flows bytes up down kw =
        begins_then (lent_check percent bs flows bytes) _
        (if_nowhere (leb (buses_in bs) up || (leb (buses_in bs) down || eqb up down)) _ _ refl
        (if_nowhere (leaves_range bs up down kw) _ Accepted refl refl))
        (lent_begins flows bytes)

-- ---- What the calls that are lent a book answer.
by_check : {bs : List ℕ} {check : Answer} {r : Answer} → Begins bs check → SaidBy check r → Tells bs r
by_check {bs} {check} {r} b s = record {
  whole = λ n. subst (λ (o : Answer). SaidBy o r) (b.whole n) s;
  right = λ {i} {j} h.
      let e = b.its_place (sym s.place_is ∙ h) in
      subst (λ (n : ℕ). WrongIn bs n i j) (sym (s.number_is ∙ ap number_of e)) (check_wrong bs (ap place_of (sym e) ∙ sym s.place_is ∙ h));
}

-- Past its checks an answer has no place, and the book was accepted.
past_check : {bs : List ℕ} {check : Answer} {r : Answer} → Begins bs check → check ≡ Accepted → place_of r ≡ Nowhere → Tells bs r
past_check b a e = record { whole = λ n. absurd (n (sym (b.whole n) ∙ a)); right = λ h. absurd (at_not_nowhere e h) }

pub read_tells : {bs : List ℕ} {inj inj' : List ℤ} {bra bra' : List ℕ} {r : Answer} → BookRead bs inj inj' bra bra' r → Tells bs r
read_tells {bs} {inj} {bra = bra} d = by_check (read_begins bs (length inj) (length bra)) d.answer

pub move_tells : {bs : List ℕ} {f : Form} {out out' : List ℕ} {r : Answer} → BookMoved bs f out out' r → Tells bs r
move_tells {bs} {f} {out} d = by_check (move_begins bs f (length out)) d.answer

-- A percentage out of range is refused before the book is looked at (Percentage.antt).
pub screen_tells : {percent : ℕ} {before after : Lent} {r : Answer} → percent_out percent ≡ false → ScreenEnds percent before after r
    → Tells before.book r
screen_tells i (refuses n a k) = by_check (lent_begins _ _ i _ _) a
screen_tells i (overloads c o k) = past_check (lent_begins _ _ i _ _) c o.answer.place_is
screen_tells i (accepts c a s) = past_check (lent_begins _ _ i _ _) c a.place_is

ends_tells : {check : Answer} {C D : Case} {done : Type 0} {before after : Lent} {r : Answer} → Begins before.book check
    → Ends check C D done before after r → Tells before.book r
ends_tells b (call.refuses n a k) = by_check b a
ends_tells b (call.unfit c n a k) = past_check b c a.place_is
ends_tells b (call.overloads c f o k) = past_check b c o.answer.place_is
ends_tells b (call.accepts c f a o) = past_check b c a.place_is

module _ {percent b : ℕ} {before after : Lent} {r : Answer} where
  pub take_tells : percent_out percent ≡ false → TakeEnds percent b before after r → Tells before.book r
  take_tells i e = ends_tells (branch_begins _ _ i _ _ _ _ _ refl) e

  pub back_tells : percent_out percent ≡ false → BackEnds percent b before after r → Tells before.book r
  back_tells i e = ends_tells (branch_begins _ _ i _ _ _ _ _ refl) e

pub transfer_tells : {percent up down kw : ℕ} {before after : Lent} {r : Answer} → percent_out percent ≡ false
    → TransferEnds percent up down kw before after r → Tells before.book r
transfer_tells i e = ends_tells (transfer_begins _ _ i _ _ _ _ _) e

-- ---- What the writer answers to tables that are wrong.
pub write_tells : {f : Form} {n m factor : ℕ} {inj : List ℤ} {bra out out' : List ℕ} {r : Answer} → BookWritten f n m factor inj bra out out' r
    → {i j : ℕ} → place_of r ≡ At i j → WrongTables f n m inj bra (number_of r) i j
write_tells {f} {n} {m} {factor} {inj} {bra} {out} d {i} {j} h =
    subst (λ (x : ℕ). WrongTables f n m inj bra x i j) (sym d.answer.number_is)
    (write_wrong f n m factor inj bra (length out) (sym d.answer.place_is ∙ h))

-- ---- Which fields can be at fault: of a bus the size alone, and of a branch that was read never the status.
module _ {number i j : ℕ} where
  pub read_size : (bs : List ℕ) → WrongIn bs number i j → number ≡ 4 → j ≡ 2
  read_size bs (at_bus n w) e = never_sign (bus_at bs i) j w.broken
  read_size bs (at_branch n s w) e = absurd (omega arith)

  pub read_never_status : (bs : List ℕ) → WrongIn bs number i j → number ≡ 5 → j < fields (form_in bs)
  read_never_status bs (at_bus n w) e = absurd (omega arith)
  read_never_status bs (at_branch n s w) e = never_status bs i j w.broken

  pub written_size : (f : Form) (n m : ℕ) (inj : List ℤ) (bra : List ℕ) → WrongTables f n m inj bra number i j → number ≡ 4 → j ≡ 2
  written_size f n m inj bra (at_bus q w) e = never_sign (bus_values (entry inj i)) j w.broken
  written_size f n m inj bra (at_branch q s w) e = absurd (omega arith)
