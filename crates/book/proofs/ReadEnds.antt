-- The ways in which reading a book ends.
use mathlib.Core.Path.{◌≡◌, refl, sym, ◌∙◌}
use mathlib.Core.Bool.{Bool, true, false, ◌||◌}
use mathlib.Core.Logic.{◌⊎◌, inl, inr}
use mathlib.Core.List.{List, ◌++◌}
use Prim.Native.Nat.{ℕ, ◌*◌, ◌<◌, ◌≤◌}
use borrow.Author.Tests.{lt-ltb, le-ltb}
use lib.Dec.{ltb}
use lib.IntN.{ℤ}
use lib.ListN.{length, drop}
use Rattle.answer.specs.declared.Refusal.TheVariants.{TooShort}
use Rattle.answer.specs.Answer.{Answer, Accepted, refuse_if, refused}
use Rattle.rows.specs.Row.{headed}
use Rattle.bits.specs.Field.{Bytes}
use Rattle.layout.specs.Form.{fields}
use Rattle.layout.specs.Layout.{buses_in, branches_in, form_in, injection_at, book_of, table_of, branch_after}
use Rattle.layout.specs.Check.{check_of}
use Rattle.book.proofs.ReadOnce.{read_said}
use Rattle.layout.specs.declared.Head.{Head}
use Rattle.book.specs.Read.{read_check, BookRead}
use Rattle.layout.specs.Inside.{HeadRead}
use Rattle.book.specs.Inside.{tabled}
use Rattle.answer.proofs.Refusals.{stands, refusal_stands}
use Rattle.answer.proofs.Refusals.{leaves}

-- A refusal leaves both tables as they were.
kept : (bs : List ℕ) (inj : List ℤ) (bra : List ℕ) (o : Answer) (r : Answer) → Bytes bs → read_check bs (length inj) (length bra) ≡ o → (o ≡ Accepted → ⊥) → r ≡ o
    → BookRead bs inj inj bra bra r
kept bs inj bra o r g e a q = record {
  bytes = g;
  answer = read_said _ _ _ (q ∙ (sym e));
  injections_left = sym (rw e (leaves o inj _ a));
  branches_left = sym (rw e (leaves o bra _ a));
}

module _ (bs : List ℕ) (inj : List ℤ) (bra : List ℕ) (g : Bytes bs) (o : Answer) (is : o ≡ check_of bs) where
  check_ends : (o ≡ Accepted → ⊥) → read_check bs (length inj) (length bra) ≡ o
  unfolding read_check
  check_ends a = rw (← is) (stands o _ a)

  pub read_refused : (r : Answer) → (o ≡ Accepted → ⊥) → r ≡ o → BookRead bs inj inj bra bra r
  read_refused r a q = kept bs inj bra o r g (check_ends a) a q

  module _ (a : o ≡ Accepted) (h : Head) (w : HeadRead bs h) where
    passed : check_of bs ≡ Accepted
    passed = sym is ∙ a

    short : (x y : Bool) → ltb (length inj) h.buses ≡ x → ltb (length bra) (fields h.form * h.branches) ≡ y → read_check bs (length inj) (length bra) ≡ refuse_if (x || y) TooShort Accepted
    unfolding read_check
    short x y p q = rw (passed, ← w.form_is, ← w.buses_are, ← w.branches_are, p, q) refl

    pub read_short : (r : Answer) → (length inj < h.buses) ⊎ ((h.buses ≤ length inj) × (length bra < fields h.form * h.branches)) → r ≡ refused TooShort → BookRead bs inj inj bra bra r
    read_short r l q = kept bs inj bra (refused TooShort) r g (either l) (refusal_stands TooShort) q
      where
        either : (length inj < h.buses) ⊎ ((h.buses ≤ length inj) × (length bra < fields h.form * h.branches)) → read_check bs (length inj) (length bra) ≡ refused TooShort
        either (inl i) = short true _ (lt-ltb _ _ i) refl
        either (inr b) = short false true (le-ltb _ _ b.0) (lt-ltb _ _ b.1)

    all_injections : headed h.buses (injection_at bs) inj ≡ (book_of bs).injections ++ drop (buses_in bs) inj
    unfolding book_of
    all_injections = rw w.buses_are refl

    all_branches : tabled h.form h.branches (branch_after h.form h.buses bs) bra ≡ table_of (form_in bs) (book_of bs).branches ++ drop (fields (form_in bs) * branches_in bs) bra
    unfolding book_of
    all_branches = rw (w.form_is, w.buses_are, w.branches_are) refl

    pub read_done : (inj' : List ℤ) (bra' : List ℕ) (r : Answer) → h.buses ≤ length inj → fields h.form * h.branches ≤ length bra
        → inj' ≡ headed h.buses (injection_at bs) inj → bra' ≡ tabled h.form h.branches (branch_after h.form h.buses bs) bra
        → r ≡ Accepted → BookRead bs inj inj' bra bra' r
    read_done inj' bra' r u v p q e =
        let s = short false false (le-ltb _ _ u) (le-ltb _ _ v) in
        record {
          bytes = g;
          answer = read_said _ _ _ (e ∙ (sym s));
          injections_left = rw s (p ∙ all_injections);
          branches_left = rw s (q ∙ all_branches);
        }
