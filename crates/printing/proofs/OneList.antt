-- Any two printed lists of a book are one list: the same answer, the same bytes, the same length.
use mathlib.Core.Path.{◌≡◌, sym, ap, ◌∙◌}
use mathlib.Core.List.{List, ◌++◌}
use Prim.Native.Nat.{ℕ, ◌≤◌, ◌<◌}
use lib.ListN.{length}
use Rattle.rows.specs.Bit.{has}
use Rattle.answer.specs.Answer.{Answer, settled}
use Rattle.answer.proofs.Said.{said_same}
use Rattle.layout.specs.Layout.{branches_in}
use Rattle.verdict.specs.Record.{record_at}
use Rattle.verdict.specs.Update.{Lent}
use Rattle.state.specs.Case.{case_in}
use Rattle.state.proofs.Checked.{passed, posed_passed}
use Rattle.state.proofs.OneOverload.{overloaded_same}
use Rattle.state.proofs.Status.{branches_of}
use Rattle.screen.specs.Promise.{Screened, ScreenEnds, refuses, overloads, accepts}
use Rattle.line.specs.Text.{decimal_of}
use Rattle.line.proofs.Joined.{joined_same}
use Rattle.printing.specs.Lines.{head_text, refused_text}
use Rattle.printing.specs.List.{line_of, accepted_text, list_text, Printed}
use Rattle.printing.specs.declared.Printout.{Printout}
use Rattle.screen.proofs.AcceptedScreen.{never_over}
use Rattle.printing.proofs.ShownOfCase.{shows_same}

accepted_same : (percent : ℕ) (bs : List ℕ) {before one two : Lent} → (case_in percent bs).buses ≤ 128 → Screened (case_in percent bs) before one
    → Screened (case_in percent bs) before two
    → accepted_text bs one.table ≡ accepted_text bs two.table
accepted_same percent bs {one = one} {two} few x y =
    ap (λ (t : List ℕ). line_of (head_text bs) ++ t)
    (joined_same (branches_in bs) _ _ (λ k l.
    let u : k < (case_in percent bs).branches = rw (branches_of percent bs) l in
    ap (λ (t : List ℕ). line_of (decimal_of k ++ t))
    (shows_same (case_in percent bs) few k (record_at one.table k) (record_at two.table k) _ _
    (x.table_true.each k u).told (y.table_true.each k u).told)))

-- Two results of a screen of one book, with the same lent: the answers, and with them the lists.
pub record SameList (bs : List ℕ) (one two : Lent) (r s : Answer) : Type 0 where
  pub answers : r ≡ s
  pub texts : list_text bs r one.table ≡ list_text bs s two.table

kept_list : (bs : List ℕ) {before one two : Lent} {r s : Answer} → r ≡ s → one ≡ before → two ≡ before → SameList bs one two r s
kept_list bs {before} {one} {two} {r} {s} e a b = record {
  answers = e;
  texts = ap (λ (x : Answer). list_text bs x one.table) e ∙ ap (λ (l : Lent). list_text bs s l.table) (a ∙ sym b);
}

module _ {percent : ℕ} {before one two : Lent} {r s : Answer} where
  pub lists_same : ScreenEnds percent before one r → ScreenEnds percent before two s → SameList before.book one two r s
  lists_same (refuses n a k) (refuses n' a' k') = kept_list before.book (said_same a a') k k'
  lists_same (refuses n a k) (overloads c o k') = absurd (n c)
  lists_same (refuses n a k) (accepts c a' x) = absurd (n c)
  lists_same (overloads c o k) (refuses n a k') = absurd (n c)
  lists_same (overloads c o k) (overloads c' o' k') = kept_list before.book (overloaded_same (case_in percent before.book) r s o o') k k'
  lists_same (overloads c o k) (accepts c' a x) = absurd (never_over _ c x o.shortage (has o.group) o.overload)
  lists_same (accepts c a x) (refuses n a' k) = absurd (n c)
  lists_same (accepts c a x) (overloads c' o k) = absurd (never_over _ c x o.shortage (has o.group) o.overload)
  lists_same (accepts c a x) (accepts c' a' y) =
      let e = said_same a a' in
      let t = accepted_same percent before.book (posed_passed (passed _ _ _ c)).few_buses x y in
      record {
        answers = e;
        texts = ap (λ (q : Answer). list_text before.book q one.table) e ∙ ap (λ (l : List ℕ). settled s (line_of (refused_text s)) l) t;
      }

module _ {bs : List ℕ} {r s : Printout} (p : Printed bs r) (q : Printed bs s) where
  pub one_answer : r.answer ≡ s.answer
  one_answer = (lists_same p.ends q.ends).answers

  pub one_list : list_text bs r.answer p.after.table ≡ list_text bs s.answer q.after.table
  one_list = (lists_same p.ends q.ends).texts

  pub one_length : r.length ≡ s.length
  one_length = p.long ∙ ap length one_list ∙ sym q.long
