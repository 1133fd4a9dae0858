-- An outage on the encoded bytes of a book: their case is the book's; with room enough its checks pass, and where the flow fits and so does the load
-- without the branch, it is accepted whatever it does.
use mathlib.Core.Path.{◌≡◌, sym, subst}
use mathlib.Core.Bool.{true, false}
use mathlib.Core.List.{List}
use Prim.Native.Nat.{ℕ, ◌*◌, ◌≤◌, ◌<◌}
use native.Mathlib.Omega.{arith}
use lib.IntN.{ℤ}
use lib.ListN.{length}
use Rattle.rows.specs.Bit.{has}
use Rattle.answer.specs.Answer.{Answer, Accepted}
use Rattle.quantity.specs.Rating.{percent_out}
use Rattle.quantity.proofs.Limits.{full_at_most}
use Rattle.layout.specs.Book.{Book, count, WellFormed}
use Rattle.layout.specs.Layout.{encode}
use Rattle.layout.proofs.AcceptedWhere.{valid_accepted}
use Rattle.layout.proofs.DecodeEncode.{count_encode, valid_encode, book_encode}
use Rattle.verdict.specs.Case.{Case, out, on, Fits}
use Rattle.verdict.specs.Update.{Lent}
use Rattle.verdict.proofs.Fitting.{posed_status}
use Rattle.verdict.proofs.Loss.{never_overload}
use Rattle.state.specs.Case.{case_of, case_in}
use Rattle.state.specs.Call.{lent, OverloadSaid, refuses, unfit, overloads, accepts}
use Rattle.state.proofs.Opening.{posed}
use Rattle.outage.specs.Promise.{take_check, TakenOut, TakeEnds}
use Rattle.outage.proofs.Checking.{taking}
use Rattle.demands.proofs.Ends.{is_accepted}
use Rattle.examples.proofs.Tests.{no_excess_test, no_excess_sound}

module _ (percent : ℕ) (B : Book) (w : WellFormed B) where
  -- What holds of the case of the bytes holds of the case of the book, and the other way round.
  pub of_book : (P : Case → Type 0) → P (case_in percent (encode B)) → P (case_of percent B)
  of_book P x = subst (λ (b : Book). P (case_of percent b)) (book_encode B w) x

  pub of_bytes : (P : Case → Type 0) → P (case_of percent B) → P (case_in percent (encode B))
  of_bytes P x = subst (λ (b : Book). P (case_of percent b)) (sym (book_encode B w)) x

  module _ (in_range : percent_out percent ≡ false) (b : ℕ) (there : b < count B) (in_service : (case_of percent B).served b ≡ true) where
    pub takes_checked : (flows bytes : ℕ) → count B ≤ flows → 52 * count B ≤ bytes → take_check percent (encode B) flows bytes b ≡ Accepted
    takes_checked flows bytes l m = taking (encode B) flows bytes b (record {
      passes = record {
        in_range = in_range;
        book = valid_accepted (encode B) (valid_encode B w);
        flow_room = omega (arith, count_encode B w);
        table_room = omega (arith, count_encode B w);
      };
      there = omega (arith, count_encode B w);
      in_service = of_bytes (λ C. C.served b ≡ true) in_service;
    })

    pub takes_accepted : {flow : List ℤ} {table : List ℕ} {after : Lent} {r : Answer} → count B ≤ length flow → 52 * count B ≤ length table
        → Fits (case_of percent B) (case_of percent B).limit (on flow) → no_excess_test (out (case_of percent B) b) ≡ true
        → TakeEnds percent b (lent (encode B) flow table) after r → (r ≡ Accepted) × TakenOut percent b (lent (encode B) flow table) after
    takes_accepted l m f t (refuses n a k) = absurd (n (takes_checked _ _ l m))
    takes_accepted {flow} l m f t (unfit c n a k) = absurd (n (of_bytes (λ C. Fits C C.limit (on flow)) f))
    takes_accepted {r = r} l m f t (overloads c h o k) =
        let C = out (case_of percent B) b in
        let x = of_book (λ D. OverloadSaid (out D b) r) o in
        let p = posed_status (case_of percent B) b false (posed B (full_at_most in_range) w) in
        absurd (never_overload C x.shortage (has x.group) (no_excess_sound C p t) x.overload)
    takes_accepted l m f t (accepts c h a o) = (is_accepted a, o)
