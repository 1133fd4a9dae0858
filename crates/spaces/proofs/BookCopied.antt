-- The bytes of a book, copied out of the stream into its space.
use mathlib.Core.Path.{◌≡◌, sym, ap, ◌∙◌}
use mathlib.Core.List.{List, ◌++◌}
use Prim.Native.Nat.{ℕ, ◌+◌, ◌-◌, ◌≤◌}
use native.Mathlib.Omega.{arith}
use borrow.Author.Tests.{le-leb}
use borrow.Rule.Slice.PartMut.{mid_len}
use lib.ListN.{length, take, drop}
use lib.Seq.{get_or-take, get_or-drop, ext_get_or}
use Rattle.std.proofs.Common.{Some}
use Rattle.rows.specs.Row.{nth, up_to, two_at}
use Rattle.rows.proofs.Row.{length_up_to, get_d_up_to}
use Rattle.spaces.specs.InsideStream.{BookCopied}

module _ (rest book : List ℕ) (count : ℕ) where
  part_is : {n : ℕ} → n ≡ count → 3 + count ≤ length rest → take n (drop 3 rest) ≡ up_to count (λ j. nth rest (3 + j))
  part_is {n} e h =
      let n_is : 3 + n - 3 ≡ n = omega arith in
      let long : length (take n (drop 3 rest)) ≡ n = rw n_is at (mid_len 3 (3 + n) rest (omega arith)) in
      ext_get_or 0 (take n (drop 3 rest)) (up_to count (λ j. nth rest (3 + j))) (long ∙ e ∙ sym (length_up_to count (λ j. nth rest (3 + j)))) (λ j l.
      get_or-take n (drop 3 rest) j 0 (omega (arith, long))
      ∙ get_or-drop 3 rest j 0
      ∙ sym (get_d_up_to count (λ j. nth rest (3 + j)) j 0 (omega (arith, long))))

  pub book_copied : {n : ℕ} {part : List ℕ} → 3 ≤ length rest → count ≡ two_at rest 1 → count ≤ length book → 3 + count ≤ length rest
      → n ≡ count → part ≡ take n (drop 3 rest) → BookCopied rest book (part ++ drop count book) (Some count)
  book_copied h e u v q p =
      let room : two_at rest 1 ≤ length book = omega arith in
      let whole : 3 + two_at rest 1 ≤ length rest = omega arith in
      record {
        count_is = rw (le-leb 3 (length rest) h, le-leb (two_at rest 1) (length book) room, le-leb (3 + two_at rest 1) (length rest) whole) (ap Some e);
        left = rw (le-leb 3 (length rest) h, le-leb (two_at rest 1) (length book) room, le-leb (3 + two_at rest 1) (length rest) whole, ← e) (ap (λ (l : List ℕ). l ++ drop count book) (p ∙ part_is q v));
      }
