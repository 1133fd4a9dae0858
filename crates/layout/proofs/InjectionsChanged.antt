-- A book with two injections changed and their sum kept decodes to the book with those injections.
use mathlib.Core.Path.{◌≡◌, sym, ap, ◌∙◌}
use mathlib.Core.Logic.{◌≢◌, ◌⊎◌, inl, inr, ⊎_elim}
use mathlib.Core.List.{List}
use Prim.Native.Nat.{ℕ, zero, suc, ◌+◌, ◌<◌, ◌≤◌}
use native.Mathlib.Nat.{mul-le-mul_left}
use native.Mathlib.Decide.{ℕ_discrete}
use native.Mathlib.Omega.{arith}
use lib.IntN.{ℤ, pos}
use lib.ListN.{length, get_or, set, length-set}
use lib.Seq.{get_or-set_same, get_or-set_other}
use Rattle.answer.specs.Answer.{Accepted}
use Rattle.rows.specs.Row.{nth, up_to}
use Rattle.rows.specs.Bit.{bit_at}
use Rattle.rows.specs.Sum.{all, over}
use Rattle.rows.proofs.Row.{length_up_to, get_d_up_to}
use Rattle.rows.proofs.Sum.{Side, side, below, equal, above, over_same}
use Rattle.quantity.specs.Signed.{pos_part, neg_part}
use Rattle.bits.specs.Field.{Bytes, field}
use Rattle.bits.specs.Fields.{total, reads, place}
use Rattle.bits.proofs.ReadAsPut.{field_same}
use Rattle.bits.proofs.Fields.{length_puts, bytes_puts, puts_before, puts_after, reads_same, reads_puts}
use Rattle.layout.specs.declared.Form.{Form}
use Rattle.layout.specs.Form.{form_of, branch_widths, branch_of}
use Rattle.layout.specs.Book.{Book, with_injection, size}
use Rattle.layout.specs.Fault.{bus_fault, branch_fault}
use Rattle.layout.specs.Layout.{head_widths, bus_widths, bus_start, branch_start, bits_for, bytes_for, buses_in, branches_in, factor_in, form_in, spare_in, bus_at, injection_of, injection_at, branch_after, branch_at, tail_in, book_of, bus_values, put_injection, encode}
use Rattle.layout.specs.Check.{bus_fault_at, branch_fault_at, check_of}
use Rattle.layout.proofs.FirstPlaces.{up_to_list, up_to_same}
use Rattle.layout.proofs.Faults.{bus_sound}
use Rattle.layout.proofs.SignAndSize.{injection_bus, good_bus, fit_bus}
use Rattle.layout.proofs.AcceptedWhere.{InRange, Valid, accepted_valid, valid_accepted}
use Rattle.layout.proofs.DecodeEncode.{encode_valid}

-- Two sums that differ in one term.
over_other : (n : ℕ) (f g : ℕ → ℕ) (k : ℕ) → k < n → ((i : ℕ) → i ≢ k → g i ≡ f i) → over n all g + f k ≡ over n all f + g k
unfolding over
over_other zero f g k h e = absurd (omega arith)
over_other (suc n) f g k h e = elim (side k n) [
  | below l ↦ omega (arith, over_other n f g k l e, e n (omega arith))
  | equal l ↦ omega (arith, over_same n all all g f (λ i u. e i (omega arith)), ap f l, ap g l)
  | above l ↦ absurd (omega arith)
]

-- ---- one injection put, whatever the bytes are

-- Bit n is none of the 21 of bus k.
abbrev pub BesideBus : ℕ → ℕ → Type 0
BesideBus k n = (n < place bus_widths bus_start k) ⊎ (place bus_widths bus_start k + total bus_widths ≤ n)

module _ (bs : List ℕ) (k : ℕ) (z : ℤ) where
  abbrev at : ℕ
  at = place bus_widths bus_start k

  put_long : length (put_injection bs k z) ≡ length bs
  put_long = length_puts bs at bus_widths (bus_values z)

  put_bytes : Bytes bs → Bytes (put_injection bs k z)
  put_bytes = bytes_puts bs at bus_widths (bus_values z)

  put_elsewhere : (n : ℕ) → BesideBus k n → bit_at (put_injection bs k z) n ≡ bit_at bs n
  put_elsewhere n = ⊎_elim (puts_before bs at bus_widths (bus_values z) n) (puts_after bs at bus_widths (bus_values z) n)

-- ---- one injection put into a book

-- All of an accepted book but the balance, which one injection alone may break.
record ButBalance (bs : List ℕ) : Type 0 where
  range : InRange (buses_in bs) (branches_in bs) (factor_in bs)
  spare : spare_in bs ≡ 0
  exact : length bs ≡ bytes_for (form_in bs) (buses_in bs) (branches_in bs)
  bus_sound : (k : ℕ) → k < buses_in bs → bus_fault_at bs k ≡ 0
  branch_sound : (k : ℕ) → k < branches_in bs → branch_fault_at bs k ≡ 0
  tail : tail_in bs ≡ 0

but_balance : (bs : List ℕ) → Valid bs → ButBalance bs
but_balance bs v = record {
  range = v.range;
  spare = v.spare;
  exact = v.exact;
  bus_sound = v.bus_sound;
  branch_sound = v.branch_sound;
  tail = v.tail;
}

-- What enters and what leaves, each summed over the buses.
abbrev summed : (ℤ → ℕ) → List ℕ → ℕ
summed part bs = over (buses_in bs) all (λ k. part (injection_at bs k))

with_balance : (bs : List ℕ) → ButBalance bs → summed pos_part bs ≡ summed neg_part bs → Valid bs
with_balance bs w e = record {
  range = w.range;
  spare = w.spare;
  exact = w.exact;
  bus_sound = w.bus_sound;
  branch_sound = w.branch_sound;
  tail = w.tail;
  balance = e;
}

module _ (bs : List ℕ) (w : ButBalance bs) (k : ℕ) (z : ℤ) (there : k < buses_in bs) (small : size z ≤ 1000000) where
  abbrev form : Form
  form = form_in bs

  abbrev changed : List ℕ
  changed = put_injection bs k z

  head_kept : reads changed 0 head_widths ≡ reads bs 0 head_widths
  head_kept = reads_same changed bs 0 head_widths (λ i a b. put_elsewhere bs k z i (inl (omega arith)))

  buses_kept : buses_in changed ≡ buses_in bs
  buses_kept = ap (λ (l : List ℕ). nth l 0) head_kept

  count_kept : branches_in changed ≡ branches_in bs
  count_kept = ap (λ (l : List ℕ). nth l 1) head_kept

  factor_kept : factor_in changed ≡ factor_in bs
  factor_kept = ap (λ (l : List ℕ). nth l 2) head_kept

  form_kept : form_in changed ≡ form
  form_kept = ap (λ (l : List ℕ). form_of (nth l 3)) head_kept

  bus_put : bus_at changed k ≡ bus_values z
  bus_put =
      reads_puts bs (place bus_widths bus_start k) bus_widths (bus_values z) (omega (arith, w.exact, mul-le-mul_left 21 there)) (fit_bus z small)

  bus_kept : (j : ℕ) → j ≢ k → bus_at changed j ≡ bus_at bs j
  bus_kept j ne = reads_same changed bs (place bus_widths bus_start j) bus_widths (λ i a b. put_elsewhere bs k z i (beside i a b (side j k)))
    where
      beside : (i : ℕ) → place bus_widths bus_start j ≤ i → i < place bus_widths bus_start j + total bus_widths → Side j k → BesideBus k i
      beside i a b (below l) = inl (omega (arith, mul-le-mul_left 21 l))
      beside i a b (equal l) = absurd (ne l)
      beside i a b (above l) = inr (omega (arith, mul-le-mul_left 21 l))

  injection_put : injection_at changed k ≡ z
  injection_put = ap injection_of bus_put ∙ injection_bus z

  injection_kept : (j : ℕ) → j ≢ k → injection_at changed j ≡ injection_at bs j
  injection_kept j ne = ap injection_of (bus_kept j ne)

  -- From the first branch on every bit stays.
  past_buses : (i : ℕ) → branch_start (buses_in bs) ≤ i → bit_at changed i ≡ bit_at bs i
  past_buses i h = put_elsewhere bs k z i (inr (omega (arith, mul-le-mul_left 21 there)))

  branch_kept : (j : ℕ) → branch_at changed j ≡ branch_at bs j
  branch_kept j =
      ap (λ (l : List ℕ). branch_after (form_of (nth l 3)) (nth l 0) changed j) head_kept
      ∙ ap (λ (l : List ℕ). branch_of form (nth l))
      (reads_same changed bs (bits_for form (buses_in bs) j) (branch_widths form) (λ i a b. past_buses i (omega arith)))

  tail_kept : tail_in changed ≡ tail_in bs
  tail_kept =
      ap (λ (l : List ℕ). field changed (bits_for (form_of (nth l 3)) (nth l 0) (nth l 1)) 7) head_kept
      ∙ field_same changed bs (bits_for form (buses_in bs) (branches_in bs)) 7 (λ i a b. past_buses i (omega arith))

  fault_put : (j : ℕ) → j < buses_in bs → bus_fault_at changed j ≡ 0
  fault_put j h = elim (ℕ_discrete j k) [
    | yes e ↦ rw e (ap (λ (vs : List ℕ). bus_fault (nth vs 0) (nth vs 1)) bus_put ∙ bus_sound _ _ (good_bus z small))
    | no ne ↦ ap (λ (vs : List ℕ). bus_fault (nth vs 0) (nth vs 1)) (bus_kept j ne) ∙ w.bus_sound j h
  ]

  branch_fault_kept : (j : ℕ) → branch_fault_at changed j ≡ branch_fault_at bs j
  branch_fault_kept j = λ i. branch_fault (form_kept i) (buses_kept i) (branch_kept j i)

  but_balance_put : ButBalance changed
  but_balance_put =
      let p = buses_kept in
      let q = count_kept in
      record {
        range = rw (p, q, factor_kept) w.range;
        spare = ap (λ (l : List ℕ). nth l 4) head_kept ∙ w.spare;
        exact = rw (form_kept, p, q) (put_long bs k z ∙ w.exact);
        bus_sound = λ j h. fault_put j (omega arith);
        branch_sound = λ j h. branch_fault_kept j ∙ w.branch_sound j (omega arith);
        tail = tail_kept ∙ w.tail;
      }

  -- In either sum the injection put takes the place of the one that was there.
  summed_put : (part : ℤ → ℕ) → summed part changed + part (injection_at bs k) ≡ summed part bs + part z
  summed_put part =
      rw buses_kept
      (over_other (buses_in bs) (λ j. part (injection_at bs j)) (λ j. part (injection_at changed j)) k there (λ j ne. ap part (injection_kept j ne))
      ∙ ap (λ (v : ℤ). summed part bs + part v) injection_put)

  injection_at_lem : (j : ℕ) → j < buses_in bs → injection_at changed j ≡ get_or (set (up_to (buses_in bs) (injection_at bs)) k z) j (pos 0)
  injection_at_lem j h =
      let old = up_to (buses_in bs) (injection_at bs) in
      let l = length_up_to (buses_in bs) (injection_at bs) in
      elim (ℕ_discrete j k) [
        | yes e ↦ rw e (injection_put ∙ sym (get_or-set_same old k z (pos 0) (omega arith)))
        | no ne ↦ injection_kept j ne ∙ sym (get_or-set_other old k j z (pos 0) ne ∙ get_d_up_to (buses_in bs) (injection_at bs) j (pos 0) h)
      ]

  book_put : book_of changed ≡ with_injection (book_of bs) k z
  unfolding book_of
  book_put =
      let old = up_to (buses_in bs) (injection_at bs) in
      let long = length-set old k z ∙ length_up_to (buses_in bs) (injection_at bs) in
      let x : up_to (buses_in changed) (injection_at changed) ≡ set old k z =
      rw buses_kept (up_to_list (set old k z) (pos 0) (buses_in bs) (injection_at changed) long injection_at_lem) in
      let y : up_to (branches_in changed) (branch_at changed) ≡ up_to (branches_in bs) (branch_at bs) =
      rw count_kept (up_to_same (branches_in bs) (branch_at changed) (branch_at bs) (λ j h. branch_kept j)) in
      λ i. record { form = form_kept i; factor = factor_kept i; injections = x i; branches = y i }

-- ---- two injections put

module _ (bs : List ℕ) (i j : ℕ) (x y : ℤ) where
  pub injections_long : length (put_injection (put_injection bs i x) j y) ≡ length bs
  injections_long = put_long (put_injection bs i x) j y ∙ put_long bs i x

  pub injections_bytes : Bytes bs → Bytes (put_injection (put_injection bs i x) j y)
  injections_bytes g = put_bytes (put_injection bs i x) j y (put_bytes bs i x g)

  -- Every bit outside the two buses stays.
  pub injections_elsewhere : (n : ℕ) → BesideBus i n → BesideBus j n → bit_at (put_injection (put_injection bs i x) j y) n ≡ bit_at bs n
  injections_elsewhere n a b = put_elsewhere (put_injection bs i x) j y n b ∙ put_elsewhere bs i x n a

-- Two injections of an accepted book made others of the same sum, each within its range: the book is accepted, and says the same but for them.
module _ (bs : List ℕ) (e : check_of bs ≡ Accepted) (i j : ℕ) (x y : ℤ) (there-i : i < buses_in bs) (there-j : j < buses_in bs) (apart : i ≡ j → ⊥)
    (small-x : size x ≤ 1000000) (small-y : size y ≤ 1000000)
    (same_sum : pos_part x + pos_part y + neg_part (injection_at bs i) + neg_part (injection_at bs j)
    ≡ neg_part x + neg_part y + pos_part (injection_at bs i) + pos_part (injection_at bs j)) where
  abbrev once : List ℕ
  once = put_injection bs i x

  before : ButBalance bs
  before = but_balance bs (accepted_valid bs e)

  between : ButBalance once
  between = but_balance_put bs before i x there-i small-x

  there : j < buses_in once
  there = rw (buses_kept bs before i x there-i small-x) there-j

  -- What the second put replaces is what stood there at first.
  summed_twice : (part : ℤ → ℕ)
      → summed part (put_injection once j y) + part (injection_at bs i) + part (injection_at bs j) ≡ summed part bs + part x + part y
  summed_twice part =
      omega (
        arith,
        summed_put bs before i x there-i small-x part,
        summed_put once between j y there small-y part,
        ap part (injection_kept bs before i x there-i small-x j (λ e. apart (sym e))),
      )

  pub injections_accepted : check_of (put_injection (put_injection bs i x) j y) ≡ Accepted
  injections_accepted =
      valid_accepted _
      (with_balance _ (but_balance_put once between j y there small-y)
      (omega (arith, summed_twice pos_part, summed_twice neg_part, (accepted_valid bs e).balance)))

  pub injections_book : book_of (put_injection (put_injection bs i x) j y) ≡ with_injection (with_injection (book_of bs) i x) j y
  injections_book =
      book_put once between j y there small-y ∙ ap (λ (b : Book). with_injection b j y) (book_put bs before i x there-i small-x)

-- Bytes of two accepted books that say the same are equal.
pub same_bytes : (xs ys : List ℕ) → Bytes xs → Bytes ys → check_of xs ≡ Accepted → check_of ys ≡ Accepted → book_of xs ≡ book_of ys → xs ≡ ys
same_bytes xs ys g h a b e = sym (encode_valid xs g (accepted_valid xs a)) ∙ ap encode e ∙ encode_valid ys h (accepted_valid ys b)
