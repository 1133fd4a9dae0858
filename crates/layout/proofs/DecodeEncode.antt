-- The two round trips: a book that is written is read back, and bytes that are read are written back.
use mathlib.Core.Path.{◌≡◌, refl, sym, ap, ◌∙◌}
use mathlib.Core.List.{List, [], ◌∷◌}
use Prim.Native.Nat.{ℕ, ◌<◌}
use native.Mathlib.Omega.{arith}
use lib.IntN.{pos}
use lib.ListN.{length}
use Rattle.rows.specs.Row.{nth, up_to}
use Rattle.rows.specs.Sum.{all}
use Rattle.rows.proofs.Sum.{over_same}
use Rattle.quantity.specs.Signed.{pos_part, neg_part}
use Rattle.bits.specs.Field.{Bytes, field}
use Rattle.bits.specs.Fields.{reads, item, Fit}
use Rattle.bits.proofs.ReadAsPut.{field_zero, field_lt}
use Rattle.layout.specs.declared.Form.{Form}
use Rattle.layout.specs.declared.Branch.{Branch}
use Rattle.layout.specs.Form.{form_of, form_bit, branch_widths, branch_values, branch_of}
use Rattle.layout.specs.Book.{Book, buses, count, injection, branch, no_branch, in_form, WellFormed}
use Rattle.layout.specs.Fault.{bus_fault, branch_fault}
use Rattle.layout.specs.Layout.{head_widths, branch_start, bits_for, bytes_for, buses_in, branches_in, factor_in, form_in, spare_in, bus_at, injection_of, injection_at, branch_after, branch_at, book_of, head_values, bus_values, packed, encode}
use Rattle.layout.specs.Check.{decode, book}
use Rattle.layout.proofs.FirstPlaces.{up_to_list}
use Rattle.layout.proofs.Forms.{form_bit_lem, bit_form, bit_fits, branch_values_lem, values_read, fit_values}
use Rattle.layout.proofs.Faults.{sound_bus, bus_sound, branch_sound}
use Rattle.layout.proofs.SignAndSize.{injection_bus, bus_injection, good_bus, fit_bus}
use Rattle.layout.proofs.Packed.{length_packed, bytes_packed, past_packed, head_packed, bus_packed, branch_packed, packed_same, packed_fields}
use Rattle.layout.proofs.AcceptedWhere.{Valid, accepted_valid, valid_accepted, decode_accepted, decoded}
use Rattle.layout.proofs.WellFormed.{sum_balance, buses_of, count_of, form_of_lem, factor_of, injection_of_lem, branch_of_lem}

pub length_encode : (b : Book) → length (encode b) ≡ bytes_for b.form (buses b) (count b)
unfolding encode
length_encode b =
    length_packed (branch_widths b.form) (head_values b) (λ k. bus_values (injection b k)) (buses b) (λ k. branch_values b.form (branch b k))
    (count b)

pub bytes_encode : (b : Book) → Bytes (encode b)
unfolding encode
bytes_encode b =
    bytes_packed (branch_widths b.form) (head_values b) (λ k. bus_values (injection b k)) (buses b) (λ k. branch_values b.form (branch b k))
    (count b)

-- ---- what is written is read

module _ (b : Book) (w : WellFormed b) where
  fit_head : Fit head_widths (head_values b)
  fit_head = (omega (arith, w.few_buses), (omega (arith, w.few_branches), (omega (arith, w.small_factor), (bit_fits b.form, (omega arith, tt)))))

  fit_branch : (k : ℕ) → k < count b → Fit (branch_widths b.form) (branch_values b.form (branch b k))
  fit_branch k h = fit_values b.form (buses b) (branch b k) w.few_buses (w.good k h)

  pub head_encode : reads (encode b) 0 head_widths ≡ head_values b
  unfolding encode
  head_encode =
      head_packed (branch_widths b.form) (head_values b) (λ k. bus_values (injection b k)) (buses b) (λ k. branch_values b.form (branch b k))
      (count b) fit_head

  pub buses_encode : buses_in (encode b) ≡ buses b
  buses_encode = ap (λ (l : List ℕ). nth l 0) head_encode

  pub count_encode : branches_in (encode b) ≡ count b
  count_encode = ap (λ (l : List ℕ). nth l 1) head_encode

  factor_encode : factor_in (encode b) ≡ b.factor
  factor_encode = ap (λ (l : List ℕ). nth l 2) head_encode

  pub form_encode : form_in (encode b) ≡ b.form
  form_encode = ap (λ (l : List ℕ). form_of (nth l 3)) head_encode ∙ form_bit_lem b.form

  bus_encode : (k : ℕ) → k < buses b → bus_at (encode b) k ≡ bus_values (injection b k)
  unfolding encode
  bus_encode k h =
      bus_packed (branch_widths b.form) (head_values b) (λ j. bus_values (injection b j)) (buses b) (λ j. branch_values b.form (branch b j))
      (count b) k h (fit_bus (injection b k) (w.sizes k h))

  item_encode : (k : ℕ) → k < count b → item (branch_widths b.form) (encode b) (branch_start (buses b)) k ≡ branch_values b.form (branch b k)
  unfolding encode
  item_encode k h =
      branch_packed (branch_widths b.form) (head_values b) (λ j. bus_values (injection b j)) (buses b) (λ j. branch_values b.form (branch b j))
      (count b) k h (fit_branch k h)

  injection_encode : (k : ℕ) → k < buses b → injection_at (encode b) k ≡ injection b k
  injection_encode k h = ap injection_of (bus_encode k h) ∙ injection_bus (injection b k)

  branch_encode : (k : ℕ) → k < count b → branch_at (encode b) k ≡ branch b k
  branch_encode k h =
      ap (λ (f : Form). branch_after f (buses_in (encode b)) (encode b) k) form_encode
      ∙ ap (λ (n : ℕ). branch_after b.form n (encode b) k) buses_encode
      ∙ ap (λ (l : List ℕ). branch_of b.form (nth l)) (item_encode k h)
      ∙ branch_values_lem b.form (branch b k) (λ e. w.one_figure e k h)

  tail_encode : field (encode b) (bits_for b.form (buses b) (count b)) 7 ≡ 0
  unfolding encode
  tail_encode =
      field_zero _ (bits_for b.form (buses b) (count b)) 7
      (λ i h. past_packed (branch_widths b.form) (head_values b) (λ j. bus_values (injection b j)) (buses b) (λ j. branch_values b.form (branch b j)) (count b) i h)

  pub valid_encode : Valid (encode b)
  valid_encode =
      let p = buses_encode in
      let q = count_encode in
      let f = factor_encode in
      let o = form_encode in
      record {
        range = record {
          some_bus = omega (arith, w.some_bus);
          few_buses = omega (arith, w.few_buses);
          few_branches = omega (arith, w.few_branches);
          some_factor = omega (arith, w.some_factor);
          small_factor = omega (arith, w.small_factor);
        };
        spare = ap (λ (l : List ℕ). nth l 4) head_encode;
        exact = rw (o, p, q) (length_encode b);
        bus_sound = λ k h.
            let l : k < buses b = omega arith in
            ap (λ (vs : List ℕ). bus_fault (nth vs 0) (nth vs 1)) (bus_encode k l) ∙ bus_sound _ _ (good_bus (injection b k) (w.sizes k l));
        branch_sound = λ k h.
            let l : k < count b = omega arith in
            ap (λ (x : Branch). branch_fault (form_in (encode b)) (buses_in (encode b)) x) (branch_encode k l)
            ∙ ap (λ (j : ℕ). branch_fault (form_in (encode b)) j (branch b k)) p
            ∙ branch_sound (form_in (encode b)) (buses b) (branch b k) (w.good k l);
        tail = rw (o, p, q) tail_encode;
        balance = rw p
            (over_same (buses b) all all _ _ (λ k h. ap pos_part (injection_encode k h))
            ∙ sum_balance (buses b) (injection b) w.balanced
            ∙ sym (over_same (buses b) all all _ _ (λ k h. ap neg_part (injection_encode k h))));
      }

  pub book_encode : book_of (encode b) ≡ b
  unfolding book_of
  book_encode =
      let x : up_to (buses_in (encode b)) (injection_at (encode b)) ≡ b.injections =
      up_to_list b.injections (pos 0) (buses_in (encode b)) (injection_at (encode b)) (sym buses_encode)
      (λ k h. injection_encode k (omega (arith, buses_encode))) in
      let y : up_to (branches_in (encode b)) (branch_at (encode b)) ≡ b.branches =
      up_to_list b.branches no_branch (branches_in (encode b)) (branch_at (encode b)) (sym count_encode)
      (λ k h. branch_encode k (omega (arith, count_encode))) in
      λ i. record { form = form_encode i; factor = factor_encode i; injections = x i; branches = y i }

pub decode_encode : (b : Book) → WellFormed b → decode (encode b) ≡ book b
decode_encode b w = decode_accepted (encode b) (valid_accepted (encode b) (valid_encode b w)) ∙ ap book (book_encode b w)

-- ---- what is read is written

pub encode_as : (b : Book) (f : Form) (n m : ℕ) → b.form ≡ f → buses b ≡ n → count b ≡ m
    → encode b ≡ packed (branch_widths f) (n ∷ m ∷ b.factor ∷ form_bit f ∷ 0 ∷ []) (λ k. bus_values (injection b k)) n (λ k. branch_values f (branch b k)) m
unfolding encode
encode_as b f n m o p q = rw (o, p, q) refl

-- The bytes of an accepted book in form f, by the fields of its own bytes.
pub encode_fields : (bs : List ℕ) (f : Form) → Valid bs
    → encode (in_form f (book_of bs))
    ≡ packed (branch_widths f) (buses_in bs ∷ branches_in bs ∷ factor_in bs ∷ form_bit f ∷ 0 ∷ []) (bus_at bs) (buses_in bs) (λ k. branch_values f (branch_at bs k)) (branches_in bs)
encode_fields bs f v =
    let n = buses_in bs in
    let m = branches_in bs in
    let b = in_form f (book_of bs) in
    let ws = branch_widths f in
    encode_as b f n m refl (buses_of bs) (count_of bs)
    ∙ packed_same ws (n ∷ m ∷ b.factor ∷ form_bit f ∷ 0 ∷ []) (λ k. bus_values (injection b k)) (bus_at bs) n (λ k. branch_values f (branch b k))
    (λ k. branch_values f (branch_at bs k)) m
    (λ k h. ap bus_values (injection_of_lem bs k h) ∙ bus_injection _ _ (field_lt bs _ 1) (sound_bus _ _ (v.bus_sound k h)))
    (λ k h. ap (branch_values f) (branch_of_lem bs k h))
    ∙ ap (λ (x : ℕ). packed ws (n ∷ m ∷ x ∷ form_bit f ∷ 0 ∷ []) (bus_at bs) n (λ k. branch_values f (branch_at bs k)) m) (factor_of bs)

-- In its own form an accepted book has its own bytes.
pub encode_same : (bs : List ℕ) → Bytes bs → Valid bs → encode (in_form (form_in bs) (book_of bs)) ≡ bs
encode_same bs g v =
    let n = buses_in bs in
    let m = branches_in bs in
    let f = form_in bs in
    let ws = branch_widths f in
    encode_fields bs f v
    ∙ packed_same ws (n ∷ m ∷ factor_in bs ∷ form_bit f ∷ 0 ∷ []) (bus_at bs) (bus_at bs) n (λ k. branch_values f (branch_at bs k))
    (item ws bs (branch_start n)) m
    (λ k h. refl) (λ k h. values_read f bs _)
    ∙ ap (λ (h : List ℕ). packed ws h (bus_at bs) n (item ws bs (branch_start n)) m) (head_is (bit_form _ (field_lt bs 27 1)) (sym v.spare))
    ∙ packed_fields ws bs n m g v.exact v.tail
  where
    head_is : form_bit (form_in bs) ≡ field bs 27 1 → 0 ≡ spare_in bs
        → buses_in bs ∷ branches_in bs ∷ factor_in bs ∷ form_bit (form_in bs) ∷ 0 ∷ [] ≡ reads bs 0 head_widths
    head_is o e = λ i. buses_in bs ∷ branches_in bs ∷ factor_in bs ∷ o i ∷ e i ∷ []

pub encode_valid : (bs : List ℕ) → Bytes bs → Valid bs → encode (book_of bs) ≡ bs
encode_valid bs g v = sym (ap (λ (f : Form). encode (in_form f (book_of bs))) (sym (form_of_lem bs))) ∙ encode_same bs g v

pub encode_decode : (bs : List ℕ) (b : Book) → Bytes bs → decode bs ≡ book b → encode b ≡ bs
encode_decode bs b g e = let d = decoded bs b e in rw (← d.1) (encode_valid bs g (accepted_valid bs d.0))
