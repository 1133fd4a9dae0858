-- Laws of packed fields, whatever the widths of a branch: each is read back, nothing else stands beside them, and a book's own fields give its bytes.
use mathlib.Core.Path.{◌≡◌, sym, ◌∙◌, ap}
use mathlib.Core.List.{List}
use Prim.Native.Nat.{ℕ, ◌+◌, ◌*◌, ◌/◌, ◌<◌, ◌≤◌}
use native.Mathlib.Decide.{dec_lt}
use native.Mathlib.Omega.{arith}
use lib.ListN.{length, replicate, length-replicate}
use Rattle.rows.specs.Bit.{bit_at}
use Rattle.bits.specs.Field.{Bytes, field}
use Rattle.bits.specs.Fields.{reads, puts, Fit, place, item, put_items}
use Rattle.bits.proofs.ReadAsPut.{ext_bits, bit_past, bit_zeros, bytes_zeros, zero_field}
use Rattle.bits.proofs.Fields.{length_puts, bytes_puts, puts_after, reads_same, reads_puts, puts_reads, length_items, bytes_items, items_before, items_after, item_put, items_same, items_bits}
use Rattle.layout.specs.Layout.{head_widths, bus_widths, bus_start, branch_start, packed}

-- The bits and bytes of n buses and m branches.
abbrev bits : List ℕ → ℕ → ℕ → ℕ
bits ws n m = place ws (branch_start n) m

abbrev bytes : List ℕ → ℕ → ℕ → ℕ
bytes ws n m = (bits ws n m + 7) / 8

module _ (ws : List ℕ) (head : List ℕ) (bus : ℕ → List ℕ) (n : ℕ) (branch : ℕ → List ℕ) (m : ℕ) where
  abbrev zeros : List ℕ
  zeros = replicate (bytes ws n m) 0

  abbrev with_head : List ℕ
  with_head = puts zeros 0 head_widths head

  abbrev with_buses : List ℕ
  with_buses = put_items bus_widths with_head bus_start bus n

  long_head : length with_head ≡ bytes ws n m
  long_head = length_puts zeros 0 head_widths head ∙ length-replicate (bytes ws n m) 0

  long_buses : length with_buses ≡ bytes ws n m
  long_buses = length_items bus_widths with_head bus_start bus n ∙ long_head

  pub length_packed : length (packed ws head bus n branch m) ≡ bytes ws n m
  unfolding packed
  length_packed = length_items ws with_buses (branch_start n) branch m ∙ long_buses

  pub bytes_packed : Bytes (packed ws head bus n branch m)
  unfolding packed
  bytes_packed =
      bytes_items ws with_buses (branch_start n) branch m
      (bytes_items bus_widths with_head bus_start bus n (bytes_puts zeros 0 head_widths head (bytes_zeros (bytes ws n m))))

  pub past_packed : (i : ℕ) → bits ws n m ≤ i → bit_at (packed ws head bus n branch m) i ≡ 0
  unfolding packed
  past_packed i h =
      items_after ws with_buses (branch_start n) branch m i h
      ∙ items_after bus_widths with_head bus_start bus n i (omega arith)
      ∙ puts_after zeros 0 head_widths head i (omega arith)
      ∙ bit_zeros (bytes ws n m) i

  pub head_packed : Fit head_widths head → reads (packed ws head bus n branch m) 0 head_widths ≡ head
  unfolding packed
  head_packed f =
      reads_same _ with_head 0 head_widths
      (λ i a b. items_before ws with_buses (branch_start n) branch m i (omega arith) ∙ items_before bus_widths with_head bus_start bus n i (omega arith))
      ∙ reads_puts zeros 0 head_widths head (omega (arith, length-replicate {A = ℕ} (bytes ws n m) 0)) f

  pub bus_packed : (k : ℕ) → k < n → Fit bus_widths (bus k) → item bus_widths (packed ws head bus n branch m) bus_start k ≡ bus k
  unfolding packed
  bus_packed k h f =
      reads_same _ with_buses (bus_start + 21 * k) bus_widths (λ i a b. items_before ws with_buses (branch_start n) branch m i (omega arith))
      ∙ item_put bus_widths with_head bus_start bus n k (omega (arith, long_head)) h f

  pub branch_packed : (k : ℕ) → k < m → Fit ws (branch k) → item ws (packed ws head bus n branch m) (branch_start n) k ≡ branch k
  unfolding packed
  branch_packed k h f = item_put ws with_buses (branch_start n) branch m k (omega (arith, long_buses)) h f

-- Zeros, then the header's fields, the buses and the branches, put one after another.
pub put_packed : (ws head : List ℕ) (bus : ℕ → List ℕ) (n : ℕ) (branch : ℕ → List ℕ) (m : ℕ) (out z₀ z₁ z₂ z₃ : List ℕ)
    → length out ≡ bytes ws n m → z₀ ≡ replicate (length out) 0 → z₁ ≡ puts z₀ 0 head_widths head
    → z₂ ≡ put_items bus_widths z₁ bus_start bus n → z₃ ≡ put_items ws z₂ (branch_start n) branch m
    → z₃ ≡ packed ws head bus n branch m
unfolding packed
put_packed ws head bus n branch m out z₀ z₁ z₂ z₃ l e₀ e₁ e₂ e₃ =
    e₃
    ∙ ap (λ (z : List ℕ). put_items ws z (branch_start n) branch m)
    (e₂ ∙ ap (λ (z : List ℕ). put_items bus_widths z bus_start bus n) (e₁ ∙ ap (λ (z : List ℕ). puts z 0 head_widths head) (e₀ ∙ ap (λ (k : ℕ). replicate k 0) l)))

-- Only the fields of the n buses and the m branches matter.
pub packed_same : (ws head : List ℕ) (bus bus' : ℕ → List ℕ) (n : ℕ) (branch branch' : ℕ → List ℕ) (m : ℕ)
    → ((k : ℕ) → k < n → bus k ≡ bus' k) → ((k : ℕ) → k < m → branch k ≡ branch' k)
    → packed ws head bus n branch m ≡ packed ws head bus' n branch' m
unfolding packed
packed_same ws head bus bus' n branch branch' m e d =
    rw (items_same bus_widths (puts (replicate (bytes ws n m) 0) 0 head_widths head) bus_start bus bus' n e) (items_same ws _ (branch_start n) branch branch' m d)

-- ---- from bytes to the same bytes

-- The tail is 0 exactly where every bit after the last field is.
pub tail_bits : (ws bs : List ℕ) (n m : ℕ) → length bs ≡ bytes ws n m → field bs (bits ws n m) 7 ≡ 0 → (i : ℕ) → bits ws n m ≤ i → bit_at bs i ≡ 0
tail_bits ws bs n m l e i h = pick (dec_lt i (bits ws n m + 7))
  where
    pick : Dec (i < bits ws n m + 7) → bit_at bs i ≡ 0
    pick (yes k) = zero_field bs (bits ws n m) 7 i e h k
    pick (no k) = bit_past bs i (omega arith)

in_head : (ws bs : List ℕ) (n m : ℕ) (bus branch : ℕ → List ℕ) (i : ℕ) → i < 32 → bit_at (packed ws (reads bs 0 head_widths) bus n branch m) i ≡ bit_at bs i
unfolding packed
in_head ws bs n m bus branch i h =
    let z : List ℕ = replicate (bytes ws n m) 0 in
    items_before ws _ (branch_start n) branch m i (omega arith)
    ∙ items_before bus_widths _ bus_start bus n i (omega arith)
    ∙ puts_reads z bs 0 head_widths i (omega (arith, length-replicate {A = ℕ} (bytes ws n m) 0)) (omega arith) (omega arith)

in_buses : (ws bs : List ℕ) (n m : ℕ) (head : List ℕ) (branch : ℕ → List ℕ) (i : ℕ) → 32 ≤ i → i < branch_start n
    → bit_at (packed ws head (item bus_widths bs bus_start) n branch m) i ≡ bit_at bs i
unfolding packed
in_buses ws bs n m head branch i h k =
    items_before ws _ (branch_start n) branch m i k
    ∙ items_bits bus_widths _ bs bus_start n i (omega (arith, long_head ws head (item bus_widths bs bus_start) n branch m)) h k

in_branches : (ws bs : List ℕ) (n m : ℕ) (head : List ℕ) (bus : ℕ → List ℕ) (i : ℕ) → branch_start n ≤ i → i < bits ws n m
    → bit_at (packed ws head bus n (item ws bs (branch_start n)) m) i ≡ bit_at bs i
unfolding packed
in_branches ws bs n m head bus i h k =
    items_bits ws _ bs (branch_start n) m i (omega (arith, long_buses ws head bus n (item ws bs (branch_start n)) m)) h k

pub packed_fields : (ws bs : List ℕ) (n m : ℕ) → Bytes bs → length bs ≡ bytes ws n m → field bs (bits ws n m) 7 ≡ 0
    → packed ws (reads bs 0 head_widths) (item bus_widths bs bus_start) n (item ws bs (branch_start n)) m ≡ bs
packed_fields ws bs n m g l e =
    ext_bits (packed ws hs us n vs m) bs (length_packed ws hs us n vs m ∙ sym l) (bytes_packed ws hs us n vs m) g
    (λ i h. at_head i (dec_lt i 32) (dec_lt i (branch_start n)) (dec_lt i (bits ws n m)))
  where
    hs : List ℕ
    hs = reads bs 0 head_widths

    us : ℕ → List ℕ
    us = item bus_widths bs bus_start

    vs : ℕ → List ℕ
    vs = item ws bs (branch_start n)

    at_head : (i : ℕ) → Dec (i < 32) → Dec (i < branch_start n) → Dec (i < bits ws n m) → bit_at (packed ws hs us n vs m) i ≡ bit_at bs i
    at_head i a b (no c) = past_packed ws hs us n vs m i (omega arith) ∙ sym (tail_bits ws bs n m l e i (omega arith))
    at_head i a (no b) (yes c) = in_branches ws bs n m hs us i (omega arith) c
    at_head i (no a) (yes b) (yes c) = in_buses ws bs n m hs vs i (omega arith) b
    at_head i (yes a) (yes b) (yes c) = in_head ws bs n m us vs i a
