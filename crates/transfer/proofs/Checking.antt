-- The checks before a move of load: each way in which they end, what they say once passed, when they pass, and which numbers they give.
use mathlib.Core.Path.{◌≡◌, refl, sym}
use mathlib.Core.Bool.{true, false, ◌||◌}
use mathlib.Core.List.{List}
use Prim.Native.Nat.{ℕ, ◌≤◌, ◌<◌}
use borrow.Author.Tests.{le-leb, lt-leb, leb-false, eq-eqb, ne_eqb, eqb-false, ltb-false, le-ltb}
use lib.Dec.{ltb, leb, eqb}
use Rattle.rows.specs.Row.{member}
use Rattle.rows.proofs.Row.{or_true, either_false}
use Rattle.answer.specs.declared.Refusal.TheVariants.{NoTwoBuses, InjectionOutside}
use Rattle.answer.specs.Answer.{Answer, Accepted, refused}
use Rattle.answer.proofs.Refusals.{past, past_both, stands}
use Rattle.answer.proofs.Giving.{Gives, plain}
use Rattle.answer.proofs.Numbers.{gives_if, gives_then, inside, gives_more}
use Rattle.layout.specs.Book.{size}
use Rattle.layout.specs.Layout.{buses_in}
use Rattle.state.specs.Call.{lent_check, lent_numbers}
use Rattle.state.proofs.Checked.{Passed, passed, passing, lent_gives}
use Rattle.transfer.specs.Promise.{risen, fallen, leaves_range, transfer_check, transfer_numbers}
use Rattle.transfer.specs.Inside.{TwoBuses, Shiftable}

-- The checks passed: those of every call, two buses that differ, and injections that stay within their range.
pub record Movable (percent : ℕ) (bs : List ℕ) (flows bytes up down kw : ℕ) : Type 0 where
  pub passes : Passed percent bs flows bytes
  pub apart : up ≡ down → ⊥
  pub within : Shiftable bs up down kw

pub stays_within : {bs : List ℕ} {up down : ℕ} (kw : ℕ) → TwoBuses bs up down → leaves_range bs up down kw ≡ false → Shiftable bs up down kw
stays_within {bs} {up} {down} kw t e =
    let r = either_false (ltb 1000000 (size (risen bs up kw))) _ e in
    record { buses = t; rises = ltb-false 1000000 _ r.0; falls = ltb-false 1000000 _ r.1 }

module _ {percent : ℕ} (bs : List ℕ) (flows bytes up down kw : ℕ) where
  pub movable : transfer_check percent bs flows bytes up down kw ≡ Accepted → Movable percent bs flows bytes up down kw
  unfolding transfer_check
  movable e =
      let h = past_both (lent_check percent bs flows bytes) _ e in
      let t = past (leb (buses_in bs) up || (leb (buses_in bs) down || eqb up down)) _ _ h.1 in
      let u = past (leaves_range bs up down kw) _ Accepted t.1 in
      let a = either_false (leb (buses_in bs) up) _ t.0 in
      let b = either_false (leb (buses_in bs) down) _ a.1 in
      let p = passed bs flows bytes h.0 in
      record {
        passes = p;
        apart = eqb-false up down b.1;
        within = stays_within kw
            (record { book = p.book; up_there = leb-false (buses_in bs) up a.0; down_there = leb-false (buses_in bs) down b.0 }) u.0;
      }

  pub moving : Movable percent bs flows bytes up down kw → transfer_check percent bs flows bytes up down kw ≡ Accepted
  unfolding transfer_check
  moving m =
      rw (
        passing bs flows bytes m.passes,
        lt-leb (buses_in bs) up m.within.buses.up_there,
        lt-leb (buses_in bs) down m.within.buses.down_there,
        ne_eqb up down m.apart,
        le-ltb 1000000 (size (risen bs up kw)) m.within.rises,
        le-ltb 1000000 (size (fallen bs down kw)) m.within.falls,
      ) refl

-- ---- Which numbers they give, and each way in which they end.
module _ (percent : ℕ) (bs : List ℕ) (flows bytes up down kw : ℕ) where
  pub rest_gives : (ns : List ℕ) → Gives ns (lent_check percent bs flows bytes) → plain NoTwoBuses ns ≡ true → plain InjectionOutside ns ≡ true
      → Gives ns (transfer_check percent bs flows bytes up down kw)
  unfolding transfer_check
  rest_gives ns g i j =
      gives_then ns (lent_check percent bs flows bytes) _ g
      (gives_if ns (leb (buses_in bs) up || (leb (buses_in bs) down || eqb up down)) NoTwoBuses _ i
      (gives_if ns (leaves_range bs up down kw) InjectionOutside Accepted j tt))

  pub transfer_gives : Gives transfer_numbers (transfer_check percent bs flows bytes up down kw)
  unfolding member inside
  transfer_gives = rest_gives transfer_numbers
      (gives_more lent_numbers transfer_numbers (lent_check percent bs flows bytes) refl (lent_gives percent bs flows bytes)) refl refl

  pub by_lent : (o : Answer) → o ≡ lent_check percent bs flows bytes → (o ≡ Accepted → ⊥) → o ≡ transfer_check percent bs flows bytes up down kw
  unfolding transfer_check
  by_lent o e m = sym (rw (← e) (stands o _ m))

  module _ (ok : lent_check percent bs flows bytes ≡ Accepted) where
    by_bus : (leb (buses_in bs) up || (leb (buses_in bs) down || eqb up down)) ≡ true → refused NoTwoBuses ≡ transfer_check percent bs flows bytes up down kw
    unfolding transfer_check
    by_bus t = rw (ok, t) refl

    pub by_up : buses_in bs ≤ up → refused NoTwoBuses ≡ transfer_check percent bs flows bytes up down kw
    by_up l = by_bus (rw (le-leb (buses_in bs) up l) refl)

    pub by_down : buses_in bs ≤ down → refused NoTwoBuses ≡ transfer_check percent bs flows bytes up down kw
    by_down l = by_bus (rw (le-leb (buses_in bs) down l) (or_true (leb (buses_in bs) up)))

    pub by_same : up ≡ down → refused NoTwoBuses ≡ transfer_check percent bs flows bytes up down kw
    by_same e = by_bus (rw (eq-eqb up down e, or_true (leb (buses_in bs) down)) (or_true (leb (buses_in bs) up)))

    module _ (u : up < buses_in bs) (d : down < buses_in bs) (n : up ≡ down → ⊥) where
      pub by_range : leaves_range bs up down kw ≡ true → refused InjectionOutside ≡ transfer_check percent bs flows bytes up down kw
      unfolding transfer_check
      by_range t = rw (ok, lt-leb (buses_in bs) up u, lt-leb (buses_in bs) down d, ne_eqb up down n, t) refl

      pub by_none : leaves_range bs up down kw ≡ false → Accepted ≡ transfer_check percent bs flows bytes up down kw
      unfolding transfer_check
      by_none t = rw (ok, lt-leb (buses_in bs) up u, lt-leb (buses_in bs) down d, ne_eqb up down n, t) refl
