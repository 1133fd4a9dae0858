-- There and back: load that was moved from a true table may always be moved back; then every byte of the book is as it was, and so is every verdict,
-- shortage and group.
use mathlib.Core.Path.{◌≡◌, refl, sym, ap, ◌∙◌, subst}
use mathlib.Core.List.{List, [], ◌∷◌}
use Prim.Native.Nat.{ℕ, zero, suc, ◌<◌}
use native.Mathlib.Omega.{arith}
use lib.IntN.{ℤ, pos, ◌+ℤ◌, ◌-ℤ◌}
use lib.ListN.{length, get_or, set}
use lib.Seq.{get_or-set_other}
use Rattle.answer.specs.Answer.{Answer, Accepted}
use Rattle.quantity.proofs.Parts.{by_parts, add_parts, minus_parts}
use Rattle.layout.specs.Book.{Book, injection, with_injection}
use Rattle.layout.specs.Layout.{buses_in, injection_at, book_of}
use Rattle.layout.proofs.WellFormed.{injection_of_lem}
use Rattle.layout.proofs.InjectionsChanged.{injections_bytes, same_bytes}
use Rattle.verdict.specs.Case.{Case, shifted, on, Fits}
use Rattle.verdict.specs.Record.{TrueTable}
use Rattle.verdict.specs.Update.{Lent}
use Rattle.verdict.proofs.Shift.{shift_back}
use Rattle.verdict.proofs.VerdictByCase.{tables_agree}
use Rattle.state.specs.Case.{case_in}
use Rattle.state.specs.Call.{OverloadSaid, refuses, unfit, overloads, accepts}
use Rattle.state.proofs.Checked.{posed_passed}
use Rattle.state.proofs.OneOverload.{fits_not_over}
use Rattle.transfer.specs.Promise.{risen, fallen, shifted_bytes, TransferEnds}
use Rattle.transfer.specs.Inside.{TwoBuses}
use Rattle.transfer.proofs.Injections.{up_small, down_small}
use Rattle.transfer.proofs.Checking.{Movable, moving}
use Rattle.transfer.proofs.BookShifted.{case_injection, shifted_book}
use Rattle.demands.proofs.Ends.{TransferDone, transfer_done, is_accepted}
use Rattle.demands.proofs.Demand3.{Stands, stands_passed, transfer_stands}
use Rattle.demands.proofs.OutAndBack.{Undone}
use Rattle.demands.proofs.Transfers.{transfer_up, transfer_down, transfer_buses}

-- A move that passes its checks, lent a flow that fits, is accepted where some flow fits the changed case.
transfer_accepted : {percent up down kw : ℕ} {before after : Lent} {r : Answer}
    → Movable percent before.book (length before.flow) (length before.table) up down kw
    → Fits (case_in percent before.book) (case_in percent before.book).limit (on before.flow)
    → (OverloadSaid (shifted (case_in percent before.book) up down kw) r → ⊥)
    → TransferEnds percent up down kw before after r → r ≡ Accepted
transfer_accepted {up = up} {down = down} {kw = kw} m f n (refuses c a k) = absurd (c (moving _ _ _ up down kw m))
transfer_accepted m f n (unfit c g a k) = absurd (g f)
transfer_accepted m f n (overloads c g o k) = absurd (n o)
transfer_accepted m f n (accepts c g a o) = is_accepted a

-- ---- An injection changed and changed back.
set_back : (l : List ℤ) (i : ℕ) (x y : ℤ) → y ≡ get_or l i (pos 0) → set (set l i x) i y ≡ l
set_back [] i x y e = refl
set_back (z ∷ l) zero x y e = ap (λ (w : ℤ). w ∷ l) e
set_back (z ∷ l) (suc i) x y e = ap (λ (m : List ℤ). z ∷ m) (set_back l i x y e)

injected_back : (b : Book) (i j : ℕ) (x y x' y' : ℤ) → (i ≡ j → ⊥) → x' ≡ injection b i → y' ≡ injection b j
    → with_injection (with_injection (with_injection (with_injection b i x) j y) j y') i x' ≡ b
injected_back b i j x y x' y' apart p q =
    let once = set b.injections i x in
    let e : set (set (set once j y) j y') i x' ≡ b.injections =
    ap (λ (l : List ℤ). set l i x') (set_back once j y y' (q ∙ sym (get_or-set_other b.injections i j x (pos 0) (λ n. apart (sym n)))))
    ∙ set_back b.injections i x x' p in
    λ k. record { form = b.form; factor = b.factor; injections = e k; branches = b.branches }

up_down : (x : ℤ) (kw : ℕ) → (x +ℤ pos kw) -ℤ pos kw ≡ x
up_down x kw = by_parts _ _ (omega (arith, minus_parts (x +ℤ pos kw) (pos kw), add_parts x (pos kw)))

down_up : (x : ℤ) (kw : ℕ) → (x -ℤ pos kw) +ℤ pos kw ≡ x
down_up x kw = by_parts _ _ (omega (arith, add_parts (x -ℤ pos kw) (pos kw), minus_parts x (pos kw)))

-- ---- After an accepted move.
module _ {percent up down kw : ℕ} {before mid : Lent} {r : Answer} (e : TransferEnds percent up down kw before mid r) (a : r ≡ Accepted) where
  abbrev bs : List ℕ
  bs = before.book

  abbrev C : Case
  C = case_in percent bs

  d : TransferDone percent up down kw before mid
  d = transfer_done e a

  two : TwoBuses bs up down
  two = d.passes.within.buses

  n : buses_in mid.book ≡ buses_in bs
  n = transfer_buses e a

  there_up : up < buses_in mid.book
  there_up = rw n two.up_there

  there_down : down < buses_in mid.book
  there_down = rw n two.down_there

  -- What each injection would be again.
  up_again : fallen mid.book up kw ≡ injection_at bs up
  up_again =
      ap (λ (x : ℤ). x -ℤ pos kw)
      (sym (case_injection percent mid.book up there_up) ∙ transfer_up e a
      ∙ ap (λ (x : ℤ). x +ℤ pos kw) (case_injection percent bs up two.up_there))
      ∙ up_down (injection_at bs up) kw

  down_again : risen mid.book down kw ≡ injection_at bs down
  down_again =
      ap (λ (x : ℤ). x +ℤ pos kw)
      (sym (case_injection percent mid.book down there_down) ∙ transfer_down e a
      ∙ ap (λ (x : ℤ). x -ℤ pos kw) (case_injection percent bs down two.down_there))
      ∙ down_up (injection_at bs down) kw

  module _ (t : TrueTable C before.flow before.table) where
    stands : Stands percent mid
    stands = transfer_stands (record { in_range = d.passes.passes.in_range; book = d.passes.passes.book; table_true = t }) e a

    may_back : Movable percent mid.book (length mid.flow) (length mid.table) down up kw
    may_back = record {
      passes = stands_passed stands;
      apart = λ q. d.passes.apart (sym q);
      within = record {
        buses = record { book = stands.book; up_there = there_down; down_there = there_up };
        rises = rw down_again (down_small two);
        falls = rw up_again (up_small two);
      };
    }

    case_back : shifted (case_in percent mid.book) down up kw ≡ C
    case_back = ap (λ (D : Case). shifted D down up kw) d.moved.case_is ∙ shift_back C up down kw d.passes.apart

    -- The first book's flow fits it still.
    never_over : (s : Answer) → OverloadSaid (shifted (case_in percent mid.book) down up kw) s → ⊥
    never_over s o =
        fits_not_over C (on before.flow) s (posed_passed d.passes.passes) t.fits (subst (λ (D : Case). OverloadSaid D s) case_back o)

    book_back : book_of (shifted_bytes mid.book down up kw) ≡ book_of bs
    book_back =
        shifted_book may_back.within (λ q. d.passes.apart (sym q))
        ∙ ap (λ (b : Book). with_injection (with_injection b down (risen mid.book down kw)) up (fallen mid.book up kw))
        (ap book_of d.moved.book_is ∙ shifted_book d.passes.within d.passes.apart)
        ∙ injected_back (book_of bs) up down (risen bs up kw) (fallen bs down kw) (fallen mid.book up kw) (risen mid.book down kw)
        d.passes.apart
        (up_again ∙ sym (injection_of_lem bs up two.up_there))
        (down_again ∙ sym (injection_of_lem bs down two.down_there))

-- From any true table.
pub load_there_and_back : {percent up down kw : ℕ} {before mid after : Lent} {r s : Answer}
    → TrueTable (case_in percent before.book) before.flow before.table
    → TransferEnds percent up down kw before mid r → r ≡ Accepted → TransferEnds percent down up kw mid after s → Undone percent before after s
load_there_and_back {percent} {up} {down} {kw} {before} {mid} {after} {r} {s} t e a f =
    let bs = before.book in
    let m = stands e a t in
    let x = transfer_accepted (may_back e a t) m.table_true.fits (never_over e a t s) f in
    let g = transfer_done f x in
    let there = transfer_done e a in
    let same : after.book ≡ bs =
    same_bytes after.book bs
    (rw g.moved.book_is (injections_bytes mid.book down up (risen mid.book down kw) (fallen mid.book up kw) g.moved.bytes))
    there.moved.bytes g.moved.book_accepted there.passes.passes.book
    (ap book_of g.moved.book_is ∙ book_back e a t) in
    let y = subst (λ (l : List ℕ). TrueTable (case_in percent l) after.flow after.table) same (transfer_stands m f x).table_true in
    record { goes_back = x; same_book = same; table_true = y; same_shown = tables_agree (case_in percent bs) _ _ _ _ y t }
