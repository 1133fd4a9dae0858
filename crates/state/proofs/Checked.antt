-- Refusals 21 and 1 to 8: each way in which the test ends, what it says once passed, and which numbers it gives.
use mathlib.Core.Path.{◌≡◌, refl, sym}
use mathlib.Core.Bool.{true, false, ◌||◌}
use mathlib.Core.List.{List, ◌∷◌}
use Prim.Native.Nat.{ℕ, ◌*◌, ◌≤◌, ◌<◌}
use borrow.Author.Tests.{lt-ltb, le-ltb, ltb-false}
use lib.Dec.{ltb}
use Rattle.rows.specs.Row.{member}
use Rattle.rows.proofs.Row.{or_true, either_false}
use Rattle.answer.specs.declared.Refusal.TheVariants.{TooShort, PercentOutside}
use Rattle.answer.specs.Answer.{Answer, Accepted, and_then, refuse_if, refused}
use Rattle.answer.proofs.Refusals.{past, past_both, stands}
use Rattle.answer.proofs.Giving.{Gives, plain}
use Rattle.answer.proofs.Numbers.{gives_if, gives_then, inside, gives_more}
use Rattle.quantity.specs.Rating.{percent_out}
use Rattle.quantity.proofs.Limits.{full_at_most}
use Rattle.layout.specs.Layout.{branches_in, book_of}
use Rattle.layout.specs.Check.{check_of, check_numbers}
use Rattle.layout.proofs.Given.{check_gives}
use Rattle.layout.proofs.WellFormed.{accepted_well}
use Rattle.verdict.specs.Case.{Posed}
use Rattle.state.specs.Case.{case_in}
use Rattle.state.specs.Call.{lent_check, lent_numbers}
use Rattle.state.proofs.Opening.{posed}

-- ---- Each way in which it ends.
module _ (percent : ℕ) (bs : List ℕ) (flows bytes : ℕ) where
  -- Whatever the book.
  pub by_percent : percent_out percent ≡ true → refused PercentOutside ≡ lent_check percent bs flows bytes
  unfolding lent_check
  by_percent t = rw t refl

  module _ (in_range : percent_out percent ≡ false) where
    pub by_book : (o : Answer) → o ≡ check_of bs → (o ≡ Accepted → ⊥) → o ≡ lent_check percent bs flows bytes
    unfolding lent_check
    by_book o e n = sym (rw (in_range, ← e) (stands o _ n))

    module _ (ok : check_of bs ≡ Accepted) where
      by_room : (ltb flows (branches_in bs) || ltb bytes (52 * branches_in bs)) ≡ true → refused TooShort ≡ lent_check percent bs flows bytes
      unfolding lent_check
      by_room t = rw (in_range, ok, t) refl

      pub by_flow_room : flows < branches_in bs → refused TooShort ≡ lent_check percent bs flows bytes
      by_flow_room l = by_room (rw (lt-ltb flows (branches_in bs) l) refl)

      pub by_table_room : bytes < 52 * branches_in bs → refused TooShort ≡ lent_check percent bs flows bytes
      by_table_room l = by_room (rw (lt-ltb bytes (52 * branches_in bs) l) (or_true (ltb flows (branches_in bs))))

-- ---- Passed: a percentage within its range, an accepted book, and room for its counts.
pub record Passed (percent : ℕ) (bs : List ℕ) (flows bytes : ℕ) : Type 0 where
  pub in_range : percent_out percent ≡ false
  pub book : check_of bs ≡ Accepted
  pub flow_room : branches_in bs ≤ flows
  pub table_room : 52 * branches_in bs ≤ bytes

pub posed_passed : {percent flows bytes : ℕ} {bs : List ℕ} → Passed percent bs flows bytes → Posed (case_in percent bs)
posed_passed {bs = bs} p = posed (book_of bs) (full_at_most p.in_range) (accepted_well bs p.book)

module _ {percent : ℕ} (bs : List ℕ) (flows bytes : ℕ) where
  pub passed : lent_check percent bs flows bytes ≡ Accepted → Passed percent bs flows bytes
  unfolding lent_check
  passed e =
      let i = past (percent_out percent) _ _ e in
      let k = past_both (check_of bs) _ i.1 in
      let l = past (ltb flows (branches_in bs) || ltb bytes (52 * branches_in bs)) _ Accepted k.1 in
      let m = either_false (ltb flows (branches_in bs)) (ltb bytes (52 * branches_in bs)) l.0 in
      record {
        in_range = i.0;
        book = k.0;
        flow_room = ltb-false flows (branches_in bs) m.0;
        table_room = ltb-false bytes (52 * branches_in bs) m.1;
      }

  pub passing : Passed percent bs flows bytes → lent_check percent bs flows bytes ≡ Accepted
  unfolding lent_check
  passing p = rw (p.in_range, p.book, le-ltb flows (branches_in bs) p.flow_room, le-ltb bytes (52 * branches_in bs) p.table_room) refl

-- ---- Which numbers it gives.
module _ (percent : ℕ) (bs : List ℕ) (flows bytes : ℕ) where
  -- Past the percentage.
  rest_gives : (ns : List ℕ) → inside check_numbers ns ≡ true → plain TooShort ns ≡ true
      → Gives ns (and_then (check_of bs) (refuse_if (ltb flows (branches_in bs) || ltb bytes (52 * branches_in bs)) TooShort Accepted))
  rest_gives ns i h =
      gives_then ns (check_of bs) _ (gives_more check_numbers ns (check_of bs) i (check_gives bs))
      (gives_if ns (ltb flows (branches_in bs) || ltb bytes (52 * branches_in bs)) TooShort Accepted h tt)

  pub lent_gives : Gives lent_numbers (lent_check percent bs flows bytes)
  unfolding lent_check member inside
  lent_gives = gives_if lent_numbers (percent_out percent) PercentOutside _ refl (rest_gives lent_numbers refl refl)

  -- A percentage within its range is never refused.
  pub in_range_gives : percent_out percent ≡ false → Gives (8 ∷ check_numbers) (lent_check percent bs flows bytes)
  unfolding lent_check member inside
  in_range_gives i = rw i (rest_gives (8 ∷ check_numbers) refl refl)
