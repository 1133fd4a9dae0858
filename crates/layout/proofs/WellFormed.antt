-- An accepted book is well formed: counts, ranges, ends, and a sum of 0.
use mathlib.Core.Path.{◌≡◌, refl, sym, ap, ◌∙◌}
use mathlib.Core.List.{List}
use Prim.Native.Nat.{ℕ, ◌<◌}
use native.Mathlib.Omega.{arith}
use lib.IntN.{ℤ, pos}
use Rattle.rows.specs.Row.{nth}
use Rattle.answer.specs.Answer.{Accepted}
use Rattle.rows.specs.Sum.{all, over, sum}
use Rattle.rows.proofs.Row.{length_up_to, get_d_up_to}
use Rattle.quantity.specs.Signed.{pos_part, neg_part}
use Rattle.quantity.proofs.Parts.{by_parts, sum_parts, sum_same}
use Rattle.bits.specs.Fields.{item}
use Rattle.layout.specs.Form.{branch_widths}
use Rattle.layout.specs.Book.{Book, buses, count, injection, branch, no_branch, WellFormed}
use Rattle.layout.specs.Layout.{branch_start, buses_in, branches_in, factor_in, form_in, bus_at, injection_at, branch_at, book_of}
use Rattle.layout.specs.Check.{check_of, decode, book}
use Rattle.layout.proofs.Forms.{one_figure}
use Rattle.layout.proofs.Faults.{sound_bus, sound_branch}
use Rattle.layout.proofs.SignAndSize.{size_of}
use Rattle.layout.proofs.AcceptedWhere.{Valid, accepted_valid, decoded}

-- What enters is what leaves exactly where the injections sum to 0.
pub balance_sum : (n : ℕ) (h : ℕ → ℤ) → over n all (λ k. pos_part (h k)) ≡ over n all (λ k. neg_part (h k)) → sum n all h ≡ pos 0
balance_sum n h e = by_parts (sum n all h) (pos 0) (omega (arith, sum_parts n all h))

pub sum_balance : (n : ℕ) (h : ℕ → ℤ) → sum n all h ≡ pos 0 → over n all (λ k. pos_part (h k)) ≡ over n all (λ k. neg_part (h k))
sum_balance n h e = omega (arith, sum_parts n all h, ap pos_part e, ap neg_part e)

module _ (bs : List ℕ) where
  pub buses_of : buses (book_of bs) ≡ buses_in bs
  unfolding book_of
  buses_of = length_up_to (buses_in bs) (injection_at bs)

  pub count_of : count (book_of bs) ≡ branches_in bs
  unfolding book_of
  count_of = length_up_to (branches_in bs) (branch_at bs)

  pub form_of_lem : (book_of bs).form ≡ form_in bs
  unfolding book_of
  form_of_lem = refl

  pub factor_of : (book_of bs).factor ≡ factor_in bs
  unfolding book_of
  factor_of = refl

  pub injection_of_lem : (k : ℕ) → k < buses_in bs → injection (book_of bs) k ≡ injection_at bs k
  unfolding book_of
  injection_of_lem k h = get_d_up_to (buses_in bs) (injection_at bs) k (pos 0) h

  pub branch_of_lem : (k : ℕ) → k < branches_in bs → branch (book_of bs) k ≡ branch_at bs k
  unfolding book_of
  branch_of_lem k h = get_d_up_to (branches_in bs) (branch_at bs) k no_branch h

  pub valid_well : Valid bs → WellFormed (book_of bs)
  valid_well v = record {
    some_bus = omega (arith, v.range.some_bus, buses_of);
    few_buses = omega (arith, v.range.few_buses, buses_of);
    few_branches = omega (arith, v.range.few_branches, count_of);
    some_factor = omega (arith, v.range.some_factor, factor_of);
    small_factor = omega (arith, v.range.small_factor, factor_of);
    sizes = λ k h.
        let l : k < buses_in bs = omega (arith, buses_of) in
        rw (injection_of_lem k l, size_of (nth (bus_at bs k) 0) (nth (bus_at bs k) 1)) (sound_bus _ _ (v.bus_sound k l)).small;
    good = λ k h.
        let l : k < branches_in bs = omega (arith, count_of) in
        rw (buses_of, branch_of_lem k l) (sound_branch (form_in bs) (buses_in bs) (branch_at bs k) (v.branch_sound k l));
    one_figure = λ e k h.
        let l : k < branches_in bs = omega (arith, count_of) in
        rw (branch_of_lem k l) (one_figure (form_in bs) (nth (item (branch_widths (form_in bs)) bs (branch_start (buses_in bs)) k)) (sym form_of_lem ∙ e));
    balanced = rw buses_of
        (sum_same (buses_in bs) all (injection (book_of bs)) (injection_at bs) injection_of_lem ∙ balance_sum (buses_in bs) (injection_at bs) v.balance);
  }

pub accepted_well : (bs : List ℕ) → check_of bs ≡ Accepted → WellFormed (book_of bs)
accepted_well bs e = valid_well bs (accepted_valid bs e)

pub decode_well : (bs : List ℕ) (b : Book) → decode bs ≡ book b → WellFormed b
decode_well bs b e = let d = decoded bs b e in rw d.1 at (accepted_well bs d.0)
