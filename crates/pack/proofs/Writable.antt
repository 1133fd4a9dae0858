-- The answers of the writer's tests, one by one; what tables that pass them are; how writing ends.
use mathlib.Core.Path.{◌≡◌, refl, sym, ap, ◌∙◌}
use mathlib.Core.Bool.{true, false, not, ◌||◌}
use mathlib.Core.List.{List, [], ◌∷◌, ◌++◌}
use Prim.Native.Nat.{ℕ, ◌*◌, ◌<◌, ◌≤◌}
use native.Mathlib.Omega.{arith}
use borrow.Author.Tests.{le-ltb, ltb-false, not-false}
use lib.Dec.{ltb}
use lib.IntN.{ℤ, pos}
use lib.ListN.{length, drop, replicate}
use Rattle.answer.specs.Answer.{Answer, Accepted, Nowhere}
use Rattle.rows.proofs.Row.{either_false, length_up_to, get_d_up_to}
use Rattle.answer.proofs.Refusals.{past, past_at}
use Rattle.bits.specs.Fields.{puts, put_items}
use Rattle.layout.specs.declared.Form.{Form}
use Rattle.layout.specs.Book.{Book, buses, count, injection, branch, no_branch}
use Rattle.layout.specs.Fault.{first_fault}
use Rattle.layout.specs.Form.{form_bit, branch_widths, fields, branch_values}
use Rattle.layout.specs.Layout.{head_widths, bus_widths, bus_start, branch_start, bytes_for, bus_values, packed, encode}
use Rattle.layout.specs.Check.{outside, balances}
use Rattle.answer.proofs.Refusals.{leaves}
use Rattle.layout.proofs.AcceptedWhere.{InRange, in_range, range_in}
use Rattle.layout.proofs.Packed.{put_packed, packed_same}
use Rattle.layout.proofs.DecodeEncode.{encode_as}
use Rattle.pack.proofs.Given.{write_said}
use Rattle.pack.specs.Write.{entry, row_at, book_from, entry_fault, row_fault, write_check, BookWritten}

-- Tables of a book that fits so much room.
pub record Writable (form : Form) (n m factor : ℕ) (inj : List ℤ) (bra : List ℕ) (room : ℕ) : Type 0 where
  pub range : InRange n m factor
  pub injections_long : n ≤ length inj
  pub branches_long : fields form * m ≤ length bra
  pub entries : first_fault (entry_fault inj) n ≡ Nowhere
  pub rows : first_fault (row_fault form n bra) m ≡ Nowhere
  pub level : balances n (entry inj) ≡ true
  pub fits : bytes_for form n m ≤ room

module _ (form : Form) (n m factor : ℕ) (inj : List ℤ) (bra : List ℕ) (room : ℕ) where
  abbrev check : Answer
  check = write_check form n m factor inj bra room

  pub write_good_lem : outside n m factor ≡ false → n ≤ length inj → fields form * m ≤ length bra → first_fault (entry_fault inj) n ≡ Nowhere
      → first_fault (row_fault form n bra) m ≡ Nowhere → balances n (entry inj) ≡ true → bytes_for form n m ≤ room → check ≡ Accepted
  unfolding write_check
  write_good_lem o u v e f b l = rw (o, le-ltb (length inj) n u, le-ltb (length bra) (fields form * m) v, e, f, b, le-ltb room (bytes_for form n m) l) refl

  pub write_accepted : check ≡ Accepted → Writable form n m factor inj bra room
  unfolding write_check
  write_accepted a =
      let p₁ = past (outside n m factor) _ _ a in
      let p₂ = past (ltb (length inj) n || ltb (length bra) (fields form * m)) _ _ p₁.1 in
      let q = either_false (ltb (length inj) n) (ltb (length bra) (fields form * m)) p₂.0 in
      let p₃ = past_at (first_fault (entry_fault inj) n) _ _ p₂.1 in
      let p₄ = past_at (first_fault (row_fault form n bra) m) _ _ p₃.1 in
      let p₅ = past (not (balances n (entry inj))) _ _ p₄.1 in
      let p₆ = past (ltb room (bytes_for form n m)) _ _ p₅.1 in
      record {
        range = in_range n m factor p₁.0;
        injections_long = ltb-false (length inj) n q.0;
        branches_long = ltb-false (length bra) (fields form * m) q.1;
        entries = p₃.0;
        rows = p₄.0;
        level = not-false _ p₅.0;
        fits = ltb-false room (bytes_for form n m) p₆.0;
      }

  pub accepted_write : Writable form n m factor inj bra room → check ≡ Accepted
  accepted_write w = write_good_lem (range_in n m factor w.range) w.injections_long w.branches_long w.entries w.rows w.level w.fits

-- ---- the book of the tables

module _ (form : Form) (n m factor : ℕ) (inj : List ℤ) (bra : List ℕ) where
  abbrev b : Book
  b = book_from form n m factor inj bra

  pub buses_from : buses b ≡ n
  unfolding book_from
  buses_from = length_up_to n (entry inj)

  pub count_from : count b ≡ m
  unfolding book_from
  count_from = length_up_to m (row_at form bra)

  pub form_from : b.form ≡ form
  unfolding book_from
  form_from = refl

  pub factor_from : b.factor ≡ factor
  unfolding book_from
  factor_from = refl

  pub injection_from : (k : ℕ) → k < n → injection b k ≡ entry inj k
  unfolding book_from
  injection_from k h = get_d_up_to n (entry inj) k (pos 0) h

  pub branch_from : (k : ℕ) → k < m → branch b k ≡ row_at form bra k
  unfolding book_from
  branch_from k h = get_d_up_to m (row_at form bra) k no_branch h

  encode_from : encode b ≡ packed (branch_widths form) (n ∷ m ∷ factor ∷ form_bit form ∷ 0 ∷ []) (λ k. bus_values (entry inj k)) n (λ k. branch_values form (row_at form bra k)) m
  encode_from =
      encode_as b form n m form_from buses_from count_from
      ∙ packed_same (branch_widths form) (n ∷ m ∷ b.factor ∷ form_bit form ∷ 0 ∷ []) (λ k. bus_values (injection b k)) (λ k. bus_values (entry inj k)) n (λ k. branch_values form (branch b k)) (λ k. branch_values form (row_at form bra k)) m
      (λ k h. ap bus_values (injection_from k h)) (λ k h. ap (branch_values form) (branch_from k h))
      ∙ ap (λ (f : ℕ). packed (branch_widths form) (n ∷ m ∷ f ∷ form_bit form ∷ 0 ∷ []) (λ k. bus_values (entry inj k)) n (λ k. branch_values form (row_at form bra k)) m) factor_from

  -- Zeros, then the header's fields, the buses and the branches, are the book's bytes.
  pub written : (out z₀ z₁ z₂ z₃ : List ℕ) → length out ≡ bytes_for form n m → z₀ ≡ replicate (length out) 0
      → z₁ ≡ puts z₀ 0 head_widths (n ∷ m ∷ factor ∷ form_bit form ∷ 0 ∷ [])
      → z₂ ≡ put_items bus_widths z₁ bus_start (λ k. bus_values (entry inj k)) n
      → z₃ ≡ put_items (branch_widths form) z₂ (branch_start n) (λ k. branch_values form (row_at form bra k)) m
      → z₃ ≡ encode b
  written out z₀ z₁ z₂ z₃ l e₀ e₁ e₂ e₃ = put_packed _ _ _ n _ m out z₀ z₁ z₂ z₃ l e₀ e₁ e₂ e₃ ∙ sym encode_from

-- ---- the ways in which writing a book ends

module _ (form : Form) (n m factor : ℕ) (inj : List ℤ) (bra out : List ℕ) (o : Answer) (is : o ≡ write_check form n m factor inj bra (length out)) where
  pub write_refused : (r : Answer) → (o ≡ Accepted → ⊥) → r ≡ o → BookWritten form n m factor inj bra out out r
  write_refused r a q = record { answer = write_said form n m factor inj bra (length out) (q ∙ is); left = sym (rw (← is) (leaves o out _ a)) }

  module _ (a : o ≡ Accepted) where
    pub writable : Writable form n m factor inj bra (length out)
    writable = write_accepted form n m factor inj bra (length out) (sym is ∙ a)

    -- The exact length is room enough.
    pub exact_fits : (part : List ℕ) → length part ≡ bytes_for form n m → write_check form n m factor inj bra (length part) ≡ Accepted
    exact_fits part l = accepted_write form n m factor inj bra (length part) (record {
      range = writable.range;
      injections_long = writable.injections_long;
      branches_long = writable.branches_long;
      entries = writable.entries;
      rows = writable.rows;
      level = writable.level;
      fits = omega arith;
    })

    pub write_done : (end : ℕ) (new : List ℕ) (r : Answer) → end ≡ bytes_for form n m → new ≡ encode (book_from form n m factor inj bra) → r ≡ o
        → BookWritten form n m factor inj bra out (new ++ drop end out) r
    write_done end new r e q s = record { answer = write_said form n m factor inj bra (length out) (s ∙ is); left = rw (← is, a, e, q) refl }
