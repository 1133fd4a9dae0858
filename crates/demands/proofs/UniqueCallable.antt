-- The calls under C's convention: number, shortage, group and place are one, and what is lent is left as by the calls themselves.
use mathlib.Core.Path.{◌≡◌, sym, ap, ◌∙◌}
use mathlib.Core.List.{List}
use Prim.Native.Nat.{ℕ}
use Rattle.answer.specs.Answer.{Answer, field_of, item_of, number_of, place_of, shortage_of, group_of}
use Rattle.verdict.specs.Update.{Lent}
use Rattle.screen.specs.Promise.{ScreenEnds}
use Rattle.outage.specs.Promise.{TakeEnds}
use Rattle.restore.specs.Promise.{BackEnds}
use Rattle.transfer.specs.Promise.{TransferEnds}
use Rattle.layout.specs.declared.Form.{Form}
use Rattle.pack.proofs.WrittenOnce.{SameWritten}
use Rattle.forms.specs.Move.{BookMoved}
use Rattle.forms.proofs.MovedBook.{moved_once}
use Rattle.callable.specs.Promise.{SaidInParts}
use Rattle.demands.specs.Same.{FreeFlow, SameResult}
use Rattle.demands.proofs.Unique.{Each, screens_same}
use Rattle.demands.proofs.UniqueCalls.{lent_case, AgreeTaken, SameTaken, calls_same}
use Rattle.demands.proofs.UniqueReturns.{SameReturn, returns_same}
use Rattle.demands.proofs.UniqueTransfers.{moved_case, AgreeMoved, SameMoved, transfers_same}

-- The parts of two answers are the same, and so is what the answers leave.
pub record SameParts (same : Answer → Answer → Type 0) (n v : ℕ) (g : List ℕ) (i j m w : ℕ) (h : List ℕ) (k l : ℕ) : Type 0 where
  pub one : Answer
  pub two : Answer
  pub left : same one two
  pub numbers : n ≡ m
  pub shortages : v ≡ w
  pub groups : g ≡ h
  pub items : i ≡ k
  pub fields : j ≡ l

module _ {E F : Answer → Type 0} (same : Answer → Answer → Type 0)
    (sames : (r s : Answer) → E r → F s → same r s) (answers : (r s : Answer) → same r s → r ≡ s)
    {n v i j m w k l : ℕ} {g h : List ℕ} where
  parts_same : SaidInParts E n v g i j → SaidInParts F m w h k l → SameParts same n v g i j m w h k l
  parts_same x y =
      let s = sames x.answer y.answer x.ended y.ended in
      let e = answers x.answer y.answer s in
      let p = sym x.said.place_is ∙ ap (λ (a : Answer). place_of a) e ∙ y.said.place_is in
      record {
        one = x.answer;
        two = y.answer;
        left = s;
        numbers = sym x.said.number_is ∙ ap (λ (a : Answer). number_of a) e ∙ y.said.number_is;
        shortages = sym x.said.shortage_is ∙ ap (λ (a : Answer). shortage_of a) e ∙ y.said.shortage_is;
        groups = sym x.said.group_is ∙ ap (λ (a : Answer). group_of a) e ∙ y.said.group_is;
        items = x.place_told.item_is ∙ ap item_of p ∙ sym y.place_told.item_is;
        fields = x.place_told.field_is ∙ ap field_of p ∙ sym y.place_told.field_is;
      }

module _ {percent : ℕ} {before one two : Lent} {n v i j m w k l : ℕ} {g h : List ℕ} where
  pub callable_screens : SaidInParts (ScreenEnds percent before one) n v g i j → SaidInParts (ScreenEnds percent before two) m w h k l
      → SameParts (SameResult (lent_case percent before) (FreeFlow (lent_case percent before)) Each Each one two) n v g i j m w h k l
  callable_screens = parts_same _ (λ r s x y. screens_same x y) (λ r s x. x.answers)

  pub callable_takes : (b : ℕ) → SaidInParts (TakeEnds percent b before one) n v g i j → SaidInParts (TakeEnds percent b before two) m w h k l
      → SameParts (SameTaken percent before b (AgreeTaken percent before b one two) one two) n v g i j m w h k l
  callable_takes b = parts_same _ (λ r s x y. calls_same x y) (λ r s x. x.answers)

  pub callable_backs : (b : ℕ) → SaidInParts (BackEnds percent b before one) n v g i j → SaidInParts (BackEnds percent b before two) m w h k l
      → SameParts (SameReturn percent before b one two) n v g i j m w h k l
  callable_backs b = parts_same _ (λ r s x y. returns_same x y) (λ r s x. x.same.answers)

  pub callable_transfers : (up down kw : ℕ) → SaidInParts (TransferEnds percent up down kw before one) n v g i j
      → SaidInParts (TransferEnds percent up down kw before two) m w h k l
      → SameParts (SameMoved (moved_case percent before up down kw) before kw
      (AgreeMoved (moved_case percent before up down kw) before one two) one two)
      n v g i j m w h k l
  callable_transfers up down kw = parts_same _ (λ r s x y. transfers_same x y) (λ r s x. x.answers)

pub callable_moves : {bs : List ℕ} {f : Form} {out o o' : List ℕ} {n v i j m w k l : ℕ} {g h : List ℕ} → SaidInParts (BookMoved bs f out o) n v g i j
    → SaidInParts (BookMoved bs f out o') m w h k l
    → SameParts (λ r s. SameWritten r s o o') n v g i j m w h k l
callable_moves = parts_same _ (λ r s x y. moved_once x y) (λ r s x. x.answers)
