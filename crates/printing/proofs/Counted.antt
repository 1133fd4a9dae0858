-- How many bytes a printed line and a printed list have.
use mathlib.Core.Path.{◌≡◌, sym, ap, ◌∙◌}
use mathlib.Core.List.{List, [], ◌∷◌, ◌++◌, append-nil}
use Prim.Native.Nat.{ℕ, ◌+◌, ◌*◌, ◌<◌, ◌≤◌}
use native.Mathlib.Omega.{arith}
use lib.IntN.{pos}
use lib.ListN.{length, replicate, length-append}
use Rattle.answer.specs.Answer.{Answer, Accepted, settled}
use Rattle.answer.proofs.Refusals.{leaves}
use Rattle.layout.specs.Layout.{branches_in}
use Rattle.verdict.specs.Update.{Lent}
use Rattle.state.specs.Call.{lent}
use Rattle.screen.specs.Promise.{ScreenEnds}
use Rattle.line.specs.Text.{joined}
use Rattle.line.specs.Inside.{Added}
use Rattle.line.proofs.Joined.{joined_none, joined_more}
use Rattle.line.proofs.Adding.{added_then}
use Rattle.printing.specs.Lines.{head_text, branch_text, refused_text}
use Rattle.printing.specs.List.{line_of, accepted_text, Printed}
use Rattle.printing.specs.Inside.{Handed, Listable}
use Rattle.screen.proofs.AcceptedScreen.{accepted_screen}

-- A text built from the first place on, then its newline.
pub handed : {text l m n : List ℕ} {e r most : ℕ} → Added text l 0 m e → Added (10 ∷ []) m e n (e + 1) → r ≡ e + 1 → e + 1 ≤ most → Handed text most r
handed p q e h = record { whole = omega (arith, e, (added_then p q).ends); few = omega arith }

-- The head line and the first k lines of branches were printed, in so many bytes.
pub record Printing (bs table : List ℕ) (long k : ℕ) : Type 0 where
  pub upto : k ≤ branches_in bs
  pub few : long ≤ 42 + 2759 * k
  pub so_far : long ≡ length (line_of (head_text bs) ++ joined k (λ j. line_of (branch_text table j)))

module _ (bs table : List ℕ) where
  pub printing_none : {r : ℕ} → Handed (head_text bs) 42 r → Printing bs table r 0
  printing_none {r} h = record {
    upto = omega arith;
    few = omega (arith, h.few);
    so_far = rw (joined_none (λ j. line_of (branch_text table j)), append-nil (line_of (head_text bs))) h.whole;
  }

  pub printing_more : {long k r : ℕ} → Printing bs table long k → k < branches_in bs → Handed (branch_text table k) 2759 r
      → Printing bs table (long + r) (k + 1)
  printing_more {long} {k} {r} p u h =
      let f : (ℕ → List ℕ) = λ j. line_of (branch_text table j) in
      record {
        upto = omega arith;
        few = omega (arith, p.few, h.few);
        so_far =
            rw (joined_more k f, length-append (line_of (head_text bs)) (joined k f ++ f k), length-append (joined k f) (f k))
            (omega (arith, h.whole, p.so_far, length-append (line_of (head_text bs)) (joined k f)));
      }

  pub printed_all : {long k : ℕ} → Printing bs table long k → branches_in bs ≤ k → long ≡ length (accepted_text bs table)
  printed_all {long} {k} p h =
      let e : k ≡ branches_in bs = omega (arith, p.upto) in
      rw e at p.so_far

-- ---- The whole list, by how the screen ended.
module _ {bs : List ℕ} {after : Lent} {r : Answer} (ends : ScreenEnds 100 (lent bs (replicate 256 (pos 0)) (replicate 13312 0)) after r) where
  pub listable : r ≡ Accepted → Listable bs after.table
  listable e = let d = accepted_screen ends e in record { branches_few = d.passes.flow_room; table_long = d.screened.beyond.table_long }

  pub printed_refused : (r ≡ Accepted → ⊥) → {n : ℕ} → Handed (refused_text r) 2759 n → Printed bs (record { answer = r; length = n })
  printed_refused not h = record {
    after = after;
    ends = ends;
    long = h.whole ∙ ap length (sym (leaves r (line_of (refused_text r)) (accepted_text bs after.table) not));
  }

  pub printed_accepted : r ≡ Accepted → {n : ℕ} → n ≡ length (accepted_text bs after.table) → Printed bs (record { answer = r; length = n })
  printed_accepted e h = record {
    after = after;
    ends = ends;
    long = h ∙ ap (λ (o : Answer). length (settled o (line_of (refused_text r)) (accepted_text bs after.table))) (sym e);
  }
