-- The book with the two injections rewritten is accepted, and makes the case with the load moved, at every percentage.
use mathlib.Core.Path.{◌≡◌, refl, sym, ap, ◌∙◌, fun_ext}
use mathlib.Core.Bool.{cond}
use mathlib.Core.List.{List}
use Prim.Native.Nat.{ℕ, ◌≤◌, ◌<◌}
use native.Mathlib.Omega.{arith}
use native.Mathlib.Decide.{ℕ_discrete}
use borrow.Author.Tests.{eq-eqb, ne_eqb}
use lib.Dec.{eqb}
use lib.IntN.{ℤ, pos, ◌+ℤ◌, ◌-ℤ◌}
use lib.ListN.{set, length-set}
use lib.Seq.{get_or-set_same, get_or-set_other}
use Rattle.answer.specs.Answer.{Accepted}
use Rattle.layout.specs.Book.{Book, buses, injection, with_injection}
use Rattle.layout.specs.Layout.{buses_in, injection_at, book_of}
use Rattle.layout.specs.Check.{check_of}
use Rattle.layout.proofs.WellFormed.{accepted_well, buses_of, injection_of_lem}
use Rattle.layout.proofs.InjectionsChanged.{injections_accepted, injections_book}
use Rattle.verdict.specs.Case.{Posed, shifted}
use Rattle.state.specs.Case.{case_of, case_in}
use Rattle.state.proofs.Opening.{posed}
use Rattle.transfer.specs.Promise.{risen, fallen, shifted_bytes}
use Rattle.transfer.specs.Inside.{Shiftable}
use Rattle.transfer.proofs.Injections.{same_sum}

-- ---- The book with its injections changed.
module _ (B : Book) (up down kw : ℕ) (up_there : up < buses B) (down_there : down < buses B) (apart : up ≡ down → ⊥) (x y : ℤ)
    (x-is : x ≡ injection B up +ℤ pos kw) (y-is : y ≡ injection B down -ℤ pos kw) where
  abbrev once : List ℤ
  once = set B.injections up x

  abbrev Changed : Book
  Changed = with_injection (with_injection B up x) down y

  long : buses Changed ≡ buses B
  long = length-set once down y ∙ length-set B.injections up x

  injection_at_lem : (i : ℕ) → injection Changed i
      ≡ cond (eqb i up) (injection B i +ℤ pos kw) (cond (eqb i down) (injection B i -ℤ pos kw) (injection B i))
  injection_at_lem i = go (ℕ_discrete i up) (ℕ_discrete i down)
    where
      go : Dec (i ≡ up) → Dec (i ≡ down) → injection Changed i
          ≡ cond (eqb i up) (injection B i +ℤ pos kw) (cond (eqb i down) (injection B i -ℤ pos kw) (injection B i))
      go (yes e) d =
          rw (e, eq-eqb up up refl)
          (get_or-set_other once down up y (pos 0) apart ∙ get_or-set_same B.injections up x (pos 0) up_there ∙ x-is)
      go (no n) (yes e) =
          rw (e, ne_eqb down up (λ q. apart (sym q)), eq-eqb down down refl)
          (get_or-set_same once down y (pos 0) (omega (arith, length-set B.injections up x)) ∙ y-is)
      go (no n) (no m) =
          rw (ne_eqb i up n, ne_eqb i down m) (get_or-set_other once down i y (pos 0) m ∙ get_or-set_other B.injections up i x (pos 0) n)

  case_changed : (percent : ℕ) → case_of percent Changed ≡ shifted (case_of percent B) up down kw
  unfolding case_of
  case_changed percent =
      let s = fun_ext injection_at_lem in
      λ i. record {
        buses = long i;
        branches = (case_of percent B).branches;
        first = (case_of percent B).first;
        second = (case_of percent B).second;
        served = (case_of percent B).served;
        injection = s i;
        limit = (case_of percent B).limit;
        loss_limit = (case_of percent B).loss_limit;
      }

-- ---- Its bytes.
pub case_injection : (percent : ℕ) (bs : List ℕ) (k : ℕ) → k < buses_in bs → (case_in percent bs).injection k ≡ injection_at bs k
unfolding case_of
case_injection percent bs k l = injection_of_lem bs k l

module _ {bs : List ℕ} {up down kw : ℕ} (m : Shiftable bs up down kw) (apart : up ≡ down → ⊥) where
  there_up : up < buses (book_of bs)
  there_up = omega (arith, buses_of bs, m.buses.up_there)

  there_down : down < buses (book_of bs)
  there_down = omega (arith, buses_of bs, m.buses.down_there)

  pub shifted_accepted : check_of (shifted_bytes bs up down kw) ≡ Accepted
  shifted_accepted =
      injections_accepted bs m.buses.book up down (risen bs up kw) (fallen bs down kw) m.buses.up_there m.buses.down_there apart
      m.rises
      m.falls (same_sum (injection_at bs up) (injection_at bs down) kw)

  pub shifted_book : book_of (shifted_bytes bs up down kw) ≡ with_injection (with_injection (book_of bs) up (risen bs up kw)) down (fallen bs down kw)
  shifted_book =
      injections_book bs m.buses.book up down (risen bs up kw) (fallen bs down kw) m.buses.up_there m.buses.down_there apart m.rises
      m.falls (same_sum (injection_at bs up) (injection_at bs down) kw)

  pub shifted_case : (percent : ℕ) → case_in percent (shifted_bytes bs up down kw) ≡ shifted (case_in percent bs) up down kw
  shifted_case percent =
      ap (case_of percent) shifted_book
      ∙ case_changed (book_of bs) up down kw there_up there_down apart (risen bs up kw) (fallen bs down kw)
      (ap (λ (z : ℤ). z +ℤ pos kw) (sym (injection_of_lem bs up m.buses.up_there)))
      (ap (λ (z : ℤ). z -ℤ pos kw) (sym (injection_of_lem bs down m.buses.down_there))) percent

  pub shifted_posed : {percent : ℕ} → percent ≤ 100 → Posed (shifted (case_in percent bs) up down kw)
  shifted_posed {percent} full =
      rw (← shifted_case percent) (posed (book_of (shifted_bytes bs up down kw)) full (accepted_well _ shifted_accepted))
