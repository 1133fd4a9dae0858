-- Load moved on a concrete book: the call is accepted whatever it does, and must not leave a fresh screen's flow.
use mathlib.Core.Path.{◌≡◌, refl, sym, ap, ◌∙◌, subst}
use mathlib.Core.Bool.{true}
use mathlib.Core.List.{List, [], ◌∷◌}
use Prim.Native.Nat.{ℕ, ◌*◌, ◌≤◌, ◌<◌}
use native.Mathlib.Omega.{arith}
use lib.IntN.{ℤ, pos, nat_abs, ◌+ℤ◌, ◌-ℤ◌}
use lib.ListN.{length}
use Rattle.rows.specs.Row.{every}
use Rattle.rows.specs.Bit.{has}
use Rattle.rows.specs.Sum.{over, sum}
use Rattle.answer.specs.Answer.{Answer, Accepted}
use Rattle.quantity.specs.Signed.{pos_part}
use Rattle.quantity.proofs.Limits.{full_in_range}
use Rattle.grid.proofs.Tests.{◌&◌, ◌⇒◌, every_group}
use Rattle.grid.proofs.Trial.{most_test}
use Rattle.layout.specs.Book.{Book, buses, count, injection, size, WellFormed}
use Rattle.layout.specs.Layout.{injection_at, encode}
use Rattle.layout.proofs.AcceptedWhere.{valid_accepted}
use Rattle.layout.proofs.DecodeEncode.{buses_encode, count_encode, valid_encode, book_encode}
use Rattle.layout.proofs.WellFormed.{injection_of_lem}
use Rattle.verdict.specs.Case.{Posed, shifted, on, Fits}
use Rattle.verdict.specs.Update.{Lent}
use Rattle.verdict.proofs.Loss.{never_overload}
use Rattle.state.specs.Case.{case_of}
use Rattle.state.specs.Call.{lent, OverloadSaid, refuses, unfit, overloads, accepts}
use Rattle.transfer.specs.Promise.{TransferEnds}
use Rattle.transfer.proofs.Checking.{Movable, moving}
use Rattle.demands.proofs.Ends.{is_accepted, movable_posed}
use Rattle.examples.proofs.Tests.{well_sound, no_excess_test, no_excess_sound, fits_test, fits_sound}
use Rattle.examples.proofs.OnBook.{of_book, of_bytes}
use Rattle.examples.proofs.Excluded.{Abreast, well_Abreast, by_second}

-- Three branches side by side, of 10 each, carry 10 over the second. With 1 more to carry, a fresh screen fills the first before it takes another.
abbrev afresh : List ℤ
afresh = pos 10 ∷ pos 1 ∷ pos 0 ∷ []

-- That flow fits the changed book.
pub afresh_fits : Fits (shifted (case_of 100 Abreast) 0 1 1) (case_of 100 Abreast).limit (on afresh)
unfolding case_of sum fits_test every ◌&◌
afresh_fits = fits_sound _ _ _ refl

second_fits : Fits (case_of 100 Abreast) (case_of 100 Abreast).limit (on by_second)
unfolding case_of sum fits_test every ◌&◌
second_fits = fits_sound _ _ _ refl

well : WellFormed Abreast
well = well_sound Abreast well_Abreast

three : 2 < (case_of 100 Abreast).branches
unfolding case_of
three = omega arith

-- It is 10 more on the first branch.
far : on afresh 0 ≡ on by_second 0 → ⊥
far e = omega (arith, ap pos_part e)

module _ {table : List ℕ} {after : Lent} {r : Answer} where
  -- One that moves the load and leaves a fresh screen's flow: no flow may change by more than 1.
  pub fresh_flow : after.flow ≡ afresh → TransferEnds 100 0 1 1 (lent (encode Abreast) by_second table) after r → ⊥
  fresh_flow left e = go e
    where
      kept : after ≡ lent (encode Abreast) by_second table → ⊥
      kept k = far (ap (λ (x : List ℤ). on x 0) (sym left ∙ ap (λ (l : Lent). l.flow) k))

      go : TransferEnds 100 0 1 1 (lent (encode Abreast) by_second table) after r → ⊥
      go (refuses n a k) = kept k
      go (unfit c n a k) = kept k
      go (overloads c f o k) = kept k
      go (accepts c f a o) =
          let u = of_bytes 100 Abreast well (λ C. 2 < C.branches) three in
          let h : nat_abs (on after.flow 0 -ℤ on by_second 0) ≤ 1 = o.slight 0 (omega arith) in
          let h' : nat_abs (on afresh 0 -ℤ on by_second 0) ≤ 1 = subst (λ (x : List ℤ). nat_abs (on x 0 -ℤ on by_second 0) ≤ 1) left h in
          omega arith

-- ---- A move on the encoded bytes of a book, where the flow fits and so does the load moved, is accepted whatever it does.
module _ (B : Book) (w : WellFormed B) (up down kw : ℕ) (up_there : up < buses B) (down_there : down < buses B) (apart : up ≡ down → ⊥)
    (rises : size (injection B up +ℤ pos kw) ≤ 1000000) (falls : size (injection B down -ℤ pos kw) ≤ 1000000) where
  injection_here : (k : ℕ) → k < buses B → injection_at (encode B) k ≡ injection B k
  injection_here k l = sym (injection_of_lem (encode B) k (omega (arith, buses_encode B w))) ∙ ap (λ (b : Book). injection b k) (book_encode B w)

  may : (flows bytes : ℕ) → count B ≤ flows → 52 * count B ≤ bytes → Movable 100 (encode B) flows bytes up down kw
  may flows bytes l m = record {
    passes = record {
      in_range = full_in_range;
      book = valid_accepted (encode B) (valid_encode B w);
      flow_room = omega (arith, count_encode B w);
      table_room = omega (arith, count_encode B w);
    };
    apart = apart;
    within = record {
      buses = record {
        book = valid_accepted (encode B) (valid_encode B w);
        up_there = omega (arith, buses_encode B w);
        down_there = omega (arith, buses_encode B w);
      };
      rises = rw (injection_here up up_there) rises;
      falls = rw (injection_here down down_there) falls;
    };
  }

  moves_accepted : {flow : List ℤ} {table : List ℕ} {after : Lent} {r : Answer} → count B ≤ length flow → 52 * count B ≤ length table
      → Fits (case_of 100 B) (case_of 100 B).limit (on flow) → no_excess_test (shifted (case_of 100 B) up down kw) ≡ true
      → TransferEnds 100 up down kw (lent (encode B) flow table) after r → r ≡ Accepted
  moves_accepted l m f t (refuses n a k) = absurd (n (moving _ _ _ up down kw (may _ _ l m)))
  moves_accepted {flow} l m f t (unfit c n a k) = absurd (n (of_bytes 100 B w (λ C. Fits C C.limit (on flow)) f))
  moves_accepted {flow} {table} {r = r} l m f t (overloads c h o k) =
      let D = shifted (case_of 100 B) up down kw in
      let x = of_book 100 B w (λ C. OverloadSaid (shifted C up down kw) r) o in
      let p = of_book 100 B w (λ C. Posed (shifted C up down kw)) (movable_posed (may (length flow) (length table) l m)) in
      absurd (never_overload D x.shortage (has x.group) (no_excess_sound D p t) x.overload)
  moves_accepted l m f t (accepts c h a o) = is_accepted a

-- So the move above is accepted, and leaves another flow.
no_excess : no_excess_test (shifted (case_of 100 Abreast) 0 1 1) ≡ true
unfolding case_of no_excess_test most_test every_group over ◌&◌ ◌⇒◌
no_excess = refl

pub one_more : {table : List ℕ} {after : Lent} {r : Answer} → 156 ≤ length table
    → TransferEnds 100 0 1 1 (lent (encode Abreast) by_second table) after r → (r ≡ Accepted) × (after.flow ≡ afresh → ⊥)
one_more l e = (
  moves_accepted Abreast well 0 1 1 (omega arith) (omega arith) (λ q. omega arith) (omega arith) (omega arith) (omega arith) l
      second_fits no_excess e,
  λ left. fresh_flow left e,
)
