-- A book with one status bit changed decodes to the book with that status changed.
use mathlib.Core.Path.{◌≡◌, sym, ap, ◌∙◌}
use mathlib.Core.Logic.{◌≢◌}
use mathlib.Core.List.{List}
use Prim.Native.Nat.{ℕ, ◌+◌, ◌-◌, ◌*◌, ◌<◌, ◌≤◌}
use native.Mathlib.Nat.{mul-le-mul_left}
use native.Mathlib.Omega.{arith}
use lib.ListN.{length, get_or, set, length-set}
use lib.Seq.{get_or-set_same, get_or-set_other}
use Rattle.answer.specs.Answer.{Accepted}
use Rattle.rows.specs.Row.{nth, up_to}
use Rattle.rows.specs.Bit.{bit_at}
use Rattle.rows.specs.Sum.{all}
use Rattle.rows.proofs.Row.{length_up_to, get_d_up_to}
use Rattle.rows.proofs.Sum.{side, below, equal, above, over_same}
use Rattle.quantity.specs.Signed.{pos_part, neg_part}
use Rattle.bits.specs.Field.{field, set_bit}
use Rattle.bits.specs.Fields.{total, reads}
use Rattle.bits.proofs.ReadAsPut.{length_set_bit, bytes_set_bit, bit_same, bit_other, field_same, field_one}
use Rattle.bits.proofs.Fields.{reads_same}
use Rattle.layout.specs.declared.Form.{Form}
use Rattle.layout.specs.declared.Branch.{Branch}
use Rattle.quantity.specs.Rating.{in_kva}
use Rattle.layout.specs.Form.{form_of, branch_widths, branch_of}
use Rattle.layout.specs.Book.{Book, count, no_branch, restated, with_status, GoodBranch, WellFormed}
use Rattle.layout.specs.Fault.{bus_fault, branch_fault}
use Rattle.layout.specs.Layout.{head_widths, bus_widths, status_bit, bits_for, bytes_for, buses_in, branches_in, factor_in, form_in, bus_at, injection_of, injection_at, branch_after, branch_at, tail_in, book_of, encode}
use Rattle.layout.specs.Check.{check_of, decode, book}
use Rattle.layout.proofs.FirstPlaces.{up_to_list, up_to_same}
use Rattle.layout.proofs.Forms.{wide, kva2_read, status_read}
use Rattle.layout.proofs.Faults.{sound_branch, branch_sound}
use Rattle.layout.proofs.AcceptedWhere.{Valid, accepted_valid, valid_accepted, decode_accepted, decoded}
use Rattle.layout.proofs.WellFormed.{count_of}
use Rattle.layout.proofs.DecodeEncode.{bytes_encode, count_encode, valid_encode, book_encode, encode_valid}

module _ (bs : List ℕ) (k v : ℕ) (two : v < 2) (there : k < branches_in bs) (long : length bs ≡ bytes_for (form_in bs) (buses_in bs) (branches_in bs)) where
  abbrev at : ℕ
  at = status_bit bs k

  abbrev form : Form
  form = form_in bs

  abbrev width : ℕ
  width = total (branch_widths form)

  abbrev changed : List ℕ
  changed = set_bit bs at v

  room : at < 8 * length bs
  room = omega (arith, (wide form).some, mul-le-mul_left width there)

  other : (i : ℕ) → i ≢ at → bit_at changed i ≡ bit_at bs i
  other i ne = bit_other bs at i v two ne

  pub head_kept : reads changed 0 head_widths ≡ reads bs 0 head_widths
  head_kept = reads_same changed bs 0 head_widths (λ i a b. other i (λ e. omega arith))

  pub buses_kept : buses_in changed ≡ buses_in bs
  buses_kept = ap (λ (l : List ℕ). nth l 0) head_kept

  pub count_kept : branches_in changed ≡ branches_in bs
  count_kept = ap (λ (l : List ℕ). nth l 1) head_kept

  factor_kept : factor_in changed ≡ factor_in bs
  factor_kept = ap (λ (l : List ℕ). nth l 2) head_kept

  pub form_kept : form_in changed ≡ form
  form_kept = ap (λ (l : List ℕ). form_of (nth l 3)) head_kept

  -- The status bits stand where they stood.
  pub bit_kept : (j : ℕ) → status_bit changed j ≡ status_bit bs j
  bit_kept j = ap (λ (l : List ℕ). bits_for (form_of (nth l 3)) (nth l 0) j + (total (branch_widths (form_of (nth l 3))) - 1)) head_kept

  bus_kept : (j : ℕ) → j < buses_in bs → bus_at changed j ≡ bus_at bs j
  bus_kept j h = reads_same changed bs _ bus_widths (λ i a b. other i (λ e. omega (arith, mul-le-mul_left 21 h)))

  placed_kept : (j : ℕ) → branch_at changed j ≡ branch_after form (buses_in bs) changed j
  placed_kept j = ap (λ (f : Form). branch_after f (buses_in changed) changed j) form_kept ∙ ap (λ (n : ℕ). branch_after form n changed j) buses_kept

  branch_kept : (j : ℕ) → j ≢ k → branch_at changed j ≡ branch_at bs j
  branch_kept j ne =
      placed_kept j
      ∙ ap (λ (l : List ℕ). branch_of form (nth l)) (reads_same changed bs _ (branch_widths form) (λ i a b. other i (λ e. apart i a b e)))
    where
      apart : (i : ℕ) → bits_for form (buses_in bs) j ≤ i → i < bits_for form (buses_in bs) j + width → i ≡ at → ⊥
      apart i a b e = elim (side j k) [
        | below l ↦ omega (arith, (wide form).some, mul-le-mul_left width l)
        | equal l ↦ ne l
        | above l ↦ omega (arith, (wide form).some, mul-le-mul_left width l)
      ]

  branch_changed : branch_at changed k ≡ restated (branch_at bs k) v
  branch_changed =
      let p = bits_for form (buses_in bs) k in
      let w = (wide form).some in
      let e₁ = field_same changed bs p 7 (λ i a b. other i (λ e. omega arith)) in
      let e₂ = field_same changed bs (p + 7) 7 (λ i a b. other i (λ e. omega arith)) in
      let e₃ = field_same changed bs (p + 7 + 7) 20 (λ i a b. other i (λ e. omega arith)) in
      let e₄ = kva2_read form changed p ∙ field_same changed bs (p + (width - 1) - 20) 20 (λ i a b. other i (λ e. omega arith)) ∙ sym (kva2_read form bs p) in
      let e₅ = status_read form changed p ∙ field_one changed at ∙ bit_same bs at v two room in
      placed_kept k ∙ (λ i. record { first = e₁ i; second = e₂ i; kva = in_kva (e₃ i); kva2 = in_kva (e₄ i); status = e₅ i })

  tail_kept : tail_in changed ≡ tail_in bs
  tail_kept =
      ap (λ (l : List ℕ). field changed (bits_for (form_of (nth l 3)) (nth l 0) (nth l 1)) 7) head_kept
      ∙ field_same changed bs _ 7 (λ i a b. other i (λ e. omega (arith, (wide form).some, mul-le-mul_left width there)))

  good_changed : Valid bs → (j : ℕ) → j < branches_in bs → GoodBranch (buses_in bs) (branch_at changed j)
  good_changed w j h =
      let g = sound_branch form (buses_in bs) (branch_at bs j) (w.branch_sound j h) in
      elim (side j k) [
        | below l ↦ rw (branch_kept j (λ e. omega arith)) g
        | equal l ↦
            let g' = sound_branch form (buses_in bs) (branch_at bs k) (w.branch_sound k there) in
            rw (l, branch_changed) (record { first_there = g'.first_there; second_there = g'.second_there; apart = g'.apart; rating = g'.rating; not_below = g'.not_below; second_rating = g'.second_rating; flag = omega arith })
        | above l ↦ rw (branch_kept j (λ e. omega arith)) g
      ]

  pub valid_changed : Valid bs → Valid changed
  valid_changed w =
      let p = buses_kept in
      let q = count_kept in
      let f = factor_kept in
      let o = form_kept in
      record {
        range = rw (p, q, f) w.range;
        spare = ap (λ (l : List ℕ). nth l 4) head_kept ∙ w.spare;
        exact = rw (o, p, q) (length_set_bit bs at v ∙ w.exact);
        bus_sound = λ j h.
            let l : j < buses_in bs = omega arith in
            ap (λ (vs : List ℕ). bus_fault (nth vs 0) (nth vs 1)) (bus_kept j l) ∙ w.bus_sound j l;
        branch_sound = λ j h. ap (λ (n : ℕ). branch_fault (form_in changed) n (branch_at changed j)) p ∙ branch_sound (form_in changed) (buses_in bs) (branch_at changed j) (good_changed w j (omega arith));
        tail = tail_kept ∙ w.tail;
        balance = rw p
            (over_same (buses_in bs) all all _ _ (λ j h. ap (λ (vs : List ℕ). pos_part (injection_of vs)) (bus_kept j h))
            ∙ w.balance
            ∙ sym (over_same (buses_in bs) all all _ _ (λ j h. ap (λ (vs : List ℕ). neg_part (injection_of vs)) (bus_kept j h))));
      }

  restated_at : (j : ℕ) → j < branches_in bs → branch_at changed j ≡ get_or (set (up_to (branches_in bs) (branch_at bs)) k (restated (branch_at bs k) v)) j no_branch
  restated_at j h =
      let old = up_to (branches_in bs) (branch_at bs) in
      let new = restated (branch_at bs k) v in
      let l = length_up_to (branches_in bs) (branch_at bs) in
      elim (side j k) [
        | below u ↦ branch_kept j (λ e. omega arith) ∙ sym (get_or-set_other old k j new no_branch (λ e. omega arith) ∙ get_d_up_to (branches_in bs) (branch_at bs) j no_branch h)
        | equal u ↦ rw u (branch_changed ∙ sym (get_or-set_same old k new no_branch (omega arith)))
        | above u ↦ branch_kept j (λ e. omega arith) ∙ sym (get_or-set_other old k j new no_branch (λ e. omega arith) ∙ get_d_up_to (branches_in bs) (branch_at bs) j no_branch h)
      ]

  pub book_changed : book_of changed ≡ with_status (book_of bs) k v
  unfolding book_of
  book_changed =
      let x : up_to (buses_in changed) (injection_at changed) ≡ up_to (buses_in bs) (injection_at bs) =
      rw buses_kept (up_to_same (buses_in bs) (injection_at changed) (injection_at bs) (λ j h. ap injection_of (bus_kept j h))) in
      let y : up_to (branches_in changed) (branch_at changed) ≡ set (up_to (branches_in bs) (branch_at bs)) k (restated (branch_at bs k) v) =
      rw count_kept
      (up_to_list _ no_branch (branches_in bs) (branch_at changed) (length-set (up_to (branches_in bs) (branch_at bs)) k _ ∙ length_up_to (branches_in bs) (branch_at bs)) restated_at) in
      let z : restated (branch_at bs k) v ≡ restated (get_or (up_to (branches_in bs) (branch_at bs)) k no_branch) v =
      ap (λ (u : Branch). restated u v) (sym (get_d_up_to (branches_in bs) (branch_at bs) k no_branch there)) in
      let y' = y ∙ ap (λ (u : Branch). set (up_to (branches_in bs) (branch_at bs)) k u) z in
      λ i. record { form = form_kept i; factor = factor_kept i; injections = x i; branches = y' i }

-- An accepted book with branch k's status bit made v is accepted, and says the same but for that status.
module _ (bs : List ℕ) (e : check_of bs ≡ Accepted) (k v : ℕ) (there : k < branches_in bs) (two : v < 2) where
  pub status_accepted : check_of (set_bit bs (status_bit bs k) v) ≡ Accepted
  status_accepted = let w = accepted_valid bs e in valid_accepted _ (valid_changed bs k v two there w.exact w)

  pub status_book : book_of (set_bit bs (status_bit bs k) v) ≡ with_status (book_of bs) k v
  status_book = book_changed bs k v two there (accepted_valid bs e).exact

-- The bytes of a book with branch k's status bit made v are those of the book with that status.
pub encode_status : (b : Book) → WellFormed b → (k v : ℕ) → k < count b → v < 2 → set_bit (encode b) (status_bit (encode b) k) v ≡ encode (with_status b k v)
encode_status b w k v h two =
    let bs = encode b in
    let e = valid_encode b w in
    let there : k < branches_in bs = omega (arith, count_encode b w) in
    sym (encode_valid _ (bytes_set_bit bs (status_bit bs k) v two (bytes_encode b)) (valid_changed bs k v two there e.exact e))
    ∙ ap encode (book_changed bs k v two there e.exact ∙ ap (λ (x : Book). with_status x k v) (book_encode b w))

pub decode_status : (bs : List ℕ) (b : Book) (k v : ℕ) → decode bs ≡ book b → k < count b → v < 2 → decode (set_bit bs (status_bit bs k) v) ≡ book (with_status b k v)
decode_status bs b k v e h two =
    let d = decoded bs b e in
    let q : branches_in bs ≡ count b = sym (count_of bs) ∙ ap count d.1 in
    let l : k < branches_in bs = omega arith in
    rw (← d.1) (decode_accepted _ (status_accepted bs d.0 k v l two) ∙ ap book (status_book bs d.0 k v l two))
