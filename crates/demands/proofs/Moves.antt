-- Books moved to another form and back, by the promise of a move alone.
use mathlib.Core.Path.{◌≡◌, refl, sym, ap, ◌∙◌}
use mathlib.Core.Bool.{true, false}
use mathlib.Core.List.{List, ◌++◌}
use Prim.Native.Nat.{ℕ, ◌≤◌}
use native.Mathlib.Omega.{arith}
use lib.ListN.{length, take, drop}
use lib.Seq.{take_at}
use Rattle.answer.specs.Answer.{Answer, Accepted, number_of}
use Rattle.layout.specs.declared.Form.{Form}
use Rattle.layout.specs.declared.Form.TheVariants.{Old, New}
use Rattle.layout.specs.Book.{Book, in_form}
use Rattle.layout.specs.Layout.{bytes_for, buses_in, branches_in, form_in, book_of, encode}
use Rattle.layout.specs.Check.{check_of}
use Rattle.layout.proofs.AcceptedWhere.{accepted_valid}
use Rattle.layout.proofs.WellFormed.{accepted_well, buses_of, count_of, form_of_lem}
use Rattle.layout.proofs.DecodeEncode.{length_encode, form_encode, buses_encode, count_encode, encode_same}
use Rattle.state.specs.Case.{case_of, case_in}
use Rattle.forms.specs.Move.{ratings_differ, would_lose, BookMoved}
use Rattle.forms.proofs.Moving.{moves, moving, move_answer, by_ratings}
use Rattle.forms.proofs.MovedBook.{Equal, equal_ratings, own_holds, equal_holds, moved_well, moved_accepted, moved_book}
use Rattle.demands.proofs.RoundTrips.{outcome_is}

-- The bytes of bs in form f.
abbrev pub moved_bytes : List ℕ → Form → List ℕ
moved_bytes bs f = encode (in_form f (book_of bs))

-- An accepted move: the first bytes of the output are the book in the form asked for, bytes beyond are as lent.
pub record MovedTo (bs : List ℕ) (f : Form) (out out' : List ℕ) : Type 0 where
  pub bytes : out' ≡ moved_bytes bs f ++ drop (length (moved_bytes bs f)) out
  pub first : take (bytes_for f (buses_in bs) (branches_in bs)) out' ≡ moved_bytes bs f
  pub still_accepted : check_of (moved_bytes bs f) ≡ Accepted
  pub form_is : form_in (moved_bytes bs f) ≡ f
  pub says : book_of (moved_bytes bs f) ≡ in_form f (book_of bs)
  -- so that a screen and every call find the same case, at every percentage
  pub same_case : (percent : ℕ) → case_in percent (moved_bytes bs f) ≡ case_in percent bs

long_moved : (bs : List ℕ) (f : Form) → length (moved_bytes bs f) ≡ bytes_for f (buses_in bs) (branches_in bs)
long_moved bs f = length_encode (in_form f (book_of bs)) ∙ rw (buses_of bs, count_of bs) refl

case_moved : (percent : ℕ) (b : Book) (f : Form) → case_of percent (in_form f b) ≡ case_of percent b
unfolding case_of
case_moved percent b f = refl

module _ {bs : List ℕ} {f : Form} {out out' : List ℕ} {r : Answer} (d : BookMoved bs f out out' r) where
  pub move_accepted : r ≡ Accepted → MovedTo bs f out out'
  move_accepted a =
      let s = outcome_is _ r (move_answer d) a in
      let m = moves bs f (length out) s in
      let w = moved_well bs f m.book m.holds in
      let says = moved_book bs f m.book m.holds in
      let e : out' ≡ moved_bytes bs f ++ drop (bytes_for f (buses_in bs) (branches_in bs)) out = rw s at d.left in
      record {
        bytes = e ∙ ap (λ (k : ℕ). moved_bytes bs f ++ drop k out) (sym (long_moved bs f));
        first = rw e (take_at (moved_bytes bs f) (drop (bytes_for f (buses_in bs) (branches_in bs)) out) (bytes_for f (buses_in bs) (branches_in bs)) (long_moved bs f));
        still_accepted = moved_accepted bs f m.book m.holds;
        form_is = form_encode (in_form f (book_of bs)) w;
        says = says;
        same_case = λ percent. ap (case_of percent) says ∙ case_moved percent (book_of bs) f;
      }

  module _ (ok : check_of bs ≡ Accepted) (room : bytes_for f (buses_in bs) (branches_in bs) ≤ length out) where
    -- With room enough a move is accepted where the form holds the ratings ..
    pub move_taken : would_lose f (ratings_differ (book_of bs)) ≡ false → r ≡ Accepted
    move_taken h = move_answer d ∙ (moving bs f (length out) (record { book = ok; holds = h; fits = room }))

    -- .. and refused with 18 where it doesn't.
    pub move_18 : would_lose f (ratings_differ (book_of bs)) ≡ true → number_of r ≡ 18
    move_18 h = d.answer.number_is ∙ sym (ap number_of (by_ratings bs f (length out) ok _ _ (sym h) refl refl))

    -- So every book moves up ..
    pub moves_up : f ≡ New → r ≡ Accepted
    moves_up e = move_taken (equal_holds f (book_of bs) (λ o. let z : ◌≡◌ {A = ℕ} 0 1 = cc in absurd (omega arith)))

    -- .. and down exactly if its ratings are equal on every branch.
    pub moves_down : Equal (book_of bs) → r ≡ Accepted
    moves_down e = move_taken (equal_holds f (book_of bs) (λ _. e))

    pub down_equal : f ≡ Old → r ≡ Accepted → Equal (book_of bs)
    down_equal o a = equal_ratings (book_of bs) (rw o at (moves bs f (length out) (outcome_is _ r (move_answer d) a)).holds)

    -- A book already in that form comes back unchanged.
    pub move_same : form_in bs ≡ f → (r ≡ Accepted) × (out' ≡ bs ++ drop (length bs) out)
    move_same e =
        let a = move_taken (rw (← e) (own_holds bs ok)) in
        let same : moved_bytes bs f ≡ bs = rw (← e) (encode_same bs d.bytes (accepted_valid bs ok)) in
        (a, (move_accepted a).bytes ∙ rw same refl)

-- An old book moves up with both ratings equal.
pub up_equal : (bs : List ℕ) → check_of bs ≡ Accepted → form_in bs ≡ Old → Equal (in_form New (book_of bs))
up_equal bs ok o = (accepted_well bs ok).one_figure (form_of_lem bs ∙ o)

-- ---- There and back: up and down again gives the first bytes, and so does down and up where down is accepted.
pub there_and_back : {bs : List ℕ} {f : Form} {out out' more more' : List ℕ} {r s : Answer}
    → BookMoved bs f out out' r → r ≡ Accepted → length bs ≤ length more
    → BookMoved (take (bytes_for f (buses_in bs) (branches_in bs)) out') (form_in bs) more more' s
    → (s ≡ Accepted) × (more' ≡ bs ++ drop (length bs) more)
there_and_back {bs} {f} {out} {out'} {more} {more'} {r} {s} d a room e =
    let t = move_accepted d a in
    let q = moves bs f (length out) (outcome_is _ r (move_answer d) a) in
    let ok = q.book in
    let w = moved_well bs f ok q.holds in
    let g : BookMoved (moved_bytes bs f) (form_in bs) more more' s = rw t.first at e in
    let n : buses_in (moved_bytes bs f) ≡ buses_in bs = buses_encode (in_form f (book_of bs)) w ∙ buses_of bs in
    let m : branches_in (moved_bytes bs f) ≡ branches_in bs = count_encode (in_form f (book_of bs)) w ∙ count_of bs in
    let fits : bytes_for (form_in bs) (buses_in (moved_bytes bs f)) (branches_in (moved_bytes bs f)) ≤ length more = rw (n, m, ← (accepted_valid bs ok).exact) room in
    let b = move_taken g t.still_accepted fits (rw t.says (own_holds bs ok)) in
    let first : moved_bytes (moved_bytes bs f) (form_in bs) ≡ bs = rw t.says (encode_same bs d.bytes (accepted_valid bs ok)) in
    (b, (move_accepted g b).bytes ∙ rw first refl)
