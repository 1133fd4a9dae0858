-- The answers of a move's tests, one by one; the bytes that it puts; how a move ends.
use mathlib.Core.Path.{◌≡◌, refl, sym, ap, ◌∙◌}
use mathlib.Core.Bool.{Bool, true, false}
use mathlib.Core.List.{List, [], ◌∷◌, ◌++◌}
use Prim.Native.Nat.{ℕ, ◌≤◌}
use borrow.Author.Tests.{le-ltb, ltb-false}
use lib.Dec.{ltb}
use lib.ListN.{length, drop, replicate}
use Rattle.rows.specs.Row.{member, some}
use Rattle.rows.proofs.Row.{some_same}
use Rattle.answer.specs.declared.Refusal.TheVariants.{TooShort, RatingsLost}
use Rattle.answer.specs.Answer.{Answer, Accepted, SaidBy, refused}
use Rattle.answer.proofs.Refusals.{past, past_both, stands, leaves}
use Rattle.answer.proofs.Giving.{Gives}
use Rattle.answer.proofs.Numbers.{gives_if, gives_then, gives_said, said_is, inside, gives_more}
use Rattle.bits.specs.Field.{Bytes}
use Rattle.bits.specs.Fields.{puts, put_items}
use Rattle.layout.specs.declared.Form.{Form}
use Rattle.layout.specs.declared.Head.{Head}
use Rattle.layout.specs.Book.{branch, in_form}
use Rattle.layout.specs.Form.{form_bit, branch_widths, branch_values}
use Rattle.layout.specs.Layout.{head_widths, bus_widths, bus_start, branch_start, bytes_for, buses_in, branches_in, bus_at, branch_after, book_of, encode}
use Rattle.layout.specs.Inside.{HeadRead}
use Rattle.layout.specs.Check.{check_of, check_numbers}
use Rattle.layout.proofs.Given.{check_gives}
use Rattle.layout.proofs.AcceptedWhere.{accepted_valid}
use Rattle.layout.proofs.WellFormed.{count_of, branch_of_lem}
use Rattle.layout.proofs.Packed.{put_packed}
use Rattle.layout.proofs.DecodeEncode.{encode_fields}
use Rattle.book.proofs.RowsHoldBook.{head_in_range}
use Rattle.layout.specs.Inside.{Small}
use Rattle.forms.specs.Move.{differs, ratings_differ, would_lose, move_check, move_numbers, BookMoved}

-- ---- which numbers it may give

pub move_gives : (bs : List ℕ) (f : Form) (room : ℕ) → Gives move_numbers (move_check bs f room)
unfolding move_check member inside
move_gives bs f room =
    gives_then move_numbers (check_of bs) _ (gives_more check_numbers move_numbers (check_of bs) refl (check_gives bs))
    (gives_if move_numbers (would_lose f (ratings_differ (book_of bs))) RatingsLost _ refl
    (gives_if move_numbers (ltb room (bytes_for f (buses_in bs) (branches_in bs))) TooShort Accepted refl tt))

pub move_said : (bs : List ℕ) (f : Form) (room : ℕ) {r : Answer} → r ≡ (move_check bs f room) → SaidBy (move_check bs f room) r
unfolding member
move_said bs f room = gives_said move_numbers (move_check bs f room) refl (move_gives bs f room)

pub move_answer : {bs : List ℕ} {f : Form} {out out' : List ℕ} {r : Answer} → BookMoved bs f out out' r → r ≡ (move_check bs f (length out))
unfolding member
move_answer {bs} {f} {out} d = said_is move_numbers _ refl (move_gives bs f (length out)) d.answer

-- ---- the tests

-- What the scan found, by the header that was read.
pub differing : (bs : List ℕ) (h : Head) → HeadRead bs h
    → some h.branches (λ k. differs (branch_after h.form h.buses bs k)) ≡ ratings_differ (book_of bs)
differing bs h w =
    rw (w.form_is, w.buses_are, w.branches_are)
    (some_same (branches_in bs) _ _ (λ k l. ap differs (sym (branch_of_lem bs k l))) ∙ ap (λ (n : ℕ). some n (λ k. differs (branch (book_of bs) k))) (sym (count_of bs)))

-- The counts of an accepted book are small.
pub small_head : (bs : List ℕ) (h : Head) → HeadRead bs h → check_of bs ≡ Accepted → Small h
small_head bs h w e = let r = head_in_range bs h w e in record { few_buses = r.few_buses; few_branches = r.few_branches }

-- The length that the header asks for is the book's.
pub length_by : (bs : List ℕ) (h : Head) (f : Form) → HeadRead bs h → bytes_for f h.buses h.branches ≡ bytes_for f (buses_in bs) (branches_in bs)
length_by bs h f w = rw (w.buses_are, w.branches_are) refl

-- A book that can be moved into so much room.
pub record Moves (bs : List ℕ) (f : Form) (room : ℕ) : Type 0 where
  pub book : check_of bs ≡ Accepted
  pub holds : would_lose f (ratings_differ (book_of bs)) ≡ false
  pub fits : bytes_for f (buses_in bs) (branches_in bs) ≤ room

module _ (bs : List ℕ) (f : Form) (room : ℕ) where
  pub moves : move_check bs f room ≡ Accepted → Moves bs f room
  unfolding move_check
  moves e =
      let p = past_both (check_of bs) _ e in
      let q = past (would_lose f (ratings_differ (book_of bs))) _ _ p.1 in
      let r = past (ltb room (bytes_for f (buses_in bs) (branches_in bs))) _ Accepted q.1 in
      record { book = p.0; holds = q.0; fits = ltb-false room _ r.0 }

  pub moving : Moves bs f room → move_check bs f room ≡ Accepted
  unfolding move_check
  moving m = rw (m.book, m.holds, le-ltb room (bytes_for f (buses_in bs) (branches_in bs)) m.fits) refl

  pub by_book : (o : Answer) → o ≡ check_of bs → (o ≡ Accepted → ⊥) → o ≡ move_check bs f room
  unfolding move_check
  by_book o e n = sym (rw (← e) (stands o _ n))

  module _ (ok : check_of bs ≡ Accepted) (lost short : Bool) (l : lost ≡ would_lose f (ratings_differ (book_of bs))) (s : short ≡ ltb room (bytes_for f (buses_in bs) (branches_in bs))) where
    pub by_ratings : lost ≡ true → refused RatingsLost ≡ move_check bs f room
    unfolding move_check
    by_ratings t = rw (ok, ← l, t) refl

    pub by_room : lost ≡ false → short ≡ true → refused TooShort ≡ move_check bs f room
    unfolding move_check
    by_room t u = rw (ok, ← l, t, ← s, u) refl

    pub by_none : lost ≡ false → short ≡ false → Accepted ≡ move_check bs f room
    unfolding move_check
    by_none t u = rw (ok, ← l, t, ← s, u) refl

-- ---- the bytes

-- Zeros, then the header's fields, the buses and the branches in form f, are the bytes of the book in that form.
pub moved_bytes_lem : (bs : List ℕ) (f : Form) (h : Head) → HeadRead bs h → check_of bs ≡ Accepted
    → (out z₀ z₁ z₂ z₃ : List ℕ) → length out ≡ bytes_for f h.buses h.branches → z₀ ≡ replicate (length out) 0
    → z₁ ≡ puts z₀ 0 head_widths (h.buses ∷ h.branches ∷ h.factor ∷ form_bit f ∷ 0 ∷ [])
    → z₂ ≡ put_items bus_widths z₁ bus_start (bus_at bs) h.buses
    → z₃ ≡ put_items (branch_widths f) z₂ (branch_start h.buses) (λ k. branch_values f (branch_after h.form h.buses bs k)) h.branches
    → z₃ ≡ encode (in_form f (book_of bs))
moved_bytes_lem bs f h w ok out z₀ z₁ z₂ z₃ l e₀ e₁ e₂ e₃ =
    put_packed (branch_widths f) (h.buses ∷ h.branches ∷ h.factor ∷ form_bit f ∷ 0 ∷ []) (bus_at bs) h.buses
    (λ k. branch_values f (branch_after h.form h.buses bs k)) h.branches out z₀ z₁ z₂ z₃ l e₀ e₁ e₂ e₃
    ∙ rw (w.form_is, w.buses_are, w.branches_are, w.factor_is) (sym (encode_fields bs f (accepted_valid bs ok)))

-- ---- the ways in which a move ends

module _ (bs : List ℕ) (f : Form) (out : List ℕ) (g : Bytes bs) (o : Answer) (is : o ≡ move_check bs f (length out)) where
  pub move_refused : (r : Answer) → (o ≡ Accepted → ⊥) → r ≡ o → BookMoved bs f out out r
  move_refused r a q = record { bytes = g; answer = move_said bs f (length out) (q ∙ is); left = sym (rw (← is) (leaves o out _ a)) }

  pub move_done : (end : ℕ) (new : List ℕ) (r : Answer) → o ≡ Accepted → end ≡ bytes_for f (buses_in bs) (branches_in bs)
      → new ≡ encode (in_form f (book_of bs)) → r ≡ o
      → BookMoved bs f out (new ++ drop end out) r
  move_done end new r a e q s = record { bytes = g; answer = move_said bs f (length out) (s ∙ is); left = rw (← is, a, e, q) refl }
