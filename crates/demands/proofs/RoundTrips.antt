-- Reading and writing undo each other, by their promises alone.
use mathlib.Core.Path.{◌≡◌, refl, sym, ap, ◌∙◌}
use mathlib.Core.List.{List, ◌++◌}
use Prim.Native.Nat.{ℕ, ◌*◌, ◌<◌, ◌≤◌}
use native.Mathlib.Omega.{arith}
use borrow.Author.Tests.{eq-eqb}
use lib.IntN.{ℤ, pos}
use lib.ListN.{length, take, drop, length-append, get_or-append}
use lib.Seq.{take_at}
use Rattle.answer.specs.Answer.{Answer, Accepted}
use Rattle.rows.specs.Row.{nth, up_to}
use Rattle.rows.specs.Sum.{all}
use Rattle.rows.proofs.Row.{length_up_to, get_d_up_to}
use Rattle.rows.proofs.Sum.{over_same}
use Rattle.quantity.specs.Signed.{pos_part, neg_part}
use Rattle.bits.proofs.ReadAsPut.{field_lt}
use Rattle.bits.specs.Fields.{item}
use Rattle.layout.specs.declared.Form.{Form}
use Rattle.layout.specs.declared.Branch.{Branch}
use Rattle.layout.specs.Book.{Book, no_branch, WellFormed}
use Rattle.layout.specs.Fault.{bus_fault, branch_fault}
use Rattle.layout.specs.Form.{branch_widths, fields}
use Rattle.layout.specs.Layout.{branch_start, bytes_for, buses_in, branches_in, factor_in, form_in, bus_values, injection_at, branch_at, book_of, table_of, encode}
use Rattle.layout.proofs.Forms.{one_figure}
use Rattle.layout.proofs.Faults.{sound_bus, sound_first}
use Rattle.layout.proofs.SignAndSize.{bus_injection}
use Rattle.layout.proofs.AcceptedWhere.{Valid, accepted_valid, valid_accepted}
use Rattle.layout.proofs.DecodeEncode.{form_encode, buses_encode, count_encode, valid_encode, book_encode, encode_valid}
use Rattle.layout.proofs.FirstPlaces.{up_to_same}
use Rattle.layout.proofs.NumbersABranch.{length_table}
use Rattle.pack.proofs.Given.{write_answer}
use Rattle.pack.specs.Write.{entry, row_at, book_from, entry_fault, row_fault, BookWritten}
use Rattle.pack.proofs.Writable.{Writable, write_accepted, accepted_write, form_from, buses_from, count_from}
use Rattle.pack.proofs.TablesHold.{row_of_table, table_of_rows, entries_taken}
use Rattle.pack.proofs.WrittenOnce.{writable_well, long_encode}
use Rattle.book.specs.Read.{BookRead}
use Rattle.book.proofs.ReadOnce.{read_checked, readable, read_answer}

pub outcome_is : (o : Answer) (r : Answer) → r ≡ o → r ≡ Accepted → o ≡ Accepted
outcome_is o r e a = ap (λ (x : Answer). x) (sym e ∙ a)

-- ---- what was written is read

-- What was packed into bs: the form, the counts and the power factor stand in its header, and the reader leaves the tables.
pub record ReadBack (bs : List ℕ) (form : Form) (n m factor : ℕ) (inj old new : List ℤ) (bra old' new' : List ℕ) (r : Answer) : Type 0 where
  pub taken : r ≡ Accepted
  pub form_is : form_in bs ≡ form
  pub buses_are : buses_in bs ≡ n
  pub count_is : branches_in bs ≡ m
  pub factor_is : factor_in bs ≡ factor
  pub injections : new ≡ take n inj ++ drop n old
  pub branches : new' ≡ take (fields form * m) bra ++ drop (fields form * m) old'

module _ (form : Form) (n m factor : ℕ) (inj : List ℤ) (bra : List ℕ) (room : ℕ) (w : Writable form n m factor inj bra room) where
  abbrev made : Book
  made = book_from form n m factor inj bra

  abbrev well : WellFormed made
  well = writable_well form n m factor inj bra room w

  made_injections : (book_of (encode made)).injections ≡ take n inj
  unfolding book_from
  made_injections = ap (λ (x : Book). x.injections) (book_encode made well) ∙ entries_taken inj n w.injections_long

  made_branches : table_of form (book_of (encode made)).branches ≡ take (fields form * m) bra
  unfolding book_from
  made_branches = ap (λ (x : Book). table_of form x.branches) (book_encode made well) ∙ table_of_rows form bra m w.branches_long

  made_factor : factor_in (encode made) ≡ factor
  unfolding book_from book_of
  made_factor = ap (λ (x : Book). x.factor) (book_encode made well)

  read_made : (old new : List ℤ) (old' new' : List ℕ) (r : Answer) → n ≤ length old → fields form * m ≤ length old' → BookRead (encode made) old new old' new' r
      → (r ≡ Accepted) × (form_in (encode made) ≡ form) × (buses_in (encode made) ≡ n) × (branches_in (encode made) ≡ m) × (factor_in (encode made) ≡ factor)
      × (new ≡ take n inj ++ drop n old) × (new' ≡ take (fields form * m) bra ++ drop (fields form * m) old')
  read_made old new old' new' r u v d =
      let o : form_in (encode made) ≡ form = form_encode made well ∙ form_from form n m factor inj bra in
      let p : buses_in (encode made) ≡ n = buses_encode made well ∙ buses_from form n m factor inj bra in
      let q : branches_in (encode made) ≡ m = count_encode made well ∙ count_from form n m factor inj bra in
      let s = readable (encode made) (length old) (length old') (valid_accepted (encode made) (valid_encode made well)) (omega arith) (rw (o, q) v) in (
        read_answer d ∙ s,
        o,
        p,
        q,
        made_factor,
        (rw s at d.injections_left) ∙ rw (made_injections, p) refl,
        (rw s at d.branches_left) ∙ rw (o, made_branches, q) refl,
      )

-- The writer's output in either form, read into tables that are long enough, gives the form asked for and the writer's counts, power factor and tables back.
pub write_read : (form : Form) (n m factor : ℕ) (inj : List ℤ) (bra out out' : List ℕ) (r : Answer) (old new : List ℤ) (old' new' : List ℕ) (r' : Answer)
    → BookWritten form n m factor inj bra out out' r → r ≡ Accepted → n ≤ length old → fields form * m ≤ length old'
    → BookRead (take (bytes_for form n m) out') old new old' new' r' → ReadBack (take (bytes_for form n m) out') form n m factor inj old new bra old' new' r'
write_read form n m factor inj bra out out' r old new old' new' r' w a u v d =
    let s = outcome_is _ r (write_answer form n m factor inj bra w) a in
    let g = write_accepted form n m factor inj bra (length out) s in
    let e : out' ≡ encode (book_from form n m factor inj bra) ++ drop (bytes_for form n m) out = rw s at w.left in
    let t : take (bytes_for form n m) out' ≡ encode (book_from form n m factor inj bra) =
    rw e (take_at (encode (book_from form n m factor inj bra)) (drop (bytes_for form n m) out) (bytes_for form n m) (long_encode form n m factor inj bra (length out) g)) in
    let z = read_made form n m factor inj bra (length out) g old new old' new' r' u v (rw t at d) in
    rw t (record {
      taken = z.0;
      form_is = z.1;
      buses_are = z.2;
      count_is = z.3;
      factor_is = z.4;
      injections = z.5;
      branches = z.6;
    })

-- ---- what was read is written

module _ (bs : List ℕ) (v : Valid bs) (inj : List ℤ) (bra : List ℕ) (rest : List ℤ) (rest' : List ℕ)
    (i-are : inj ≡ (book_of bs).injections ++ rest) (b-are : bra ≡ table_of (form_in bs) (book_of bs).branches ++ rest') where
  entry_read : (k : ℕ) → k < buses_in bs → entry inj k ≡ injection_at bs k
  unfolding book_of
  entry_read k h = rw i-are
      (get_or-append (up_to (buses_in bs) (injection_at bs)) rest (pos 0) k (omega (arith, length_up_to (buses_in bs) (injection_at bs)))
      ∙ get_d_up_to (buses_in bs) (injection_at bs) k (pos 0) h)

  row_read : (k : ℕ) → k < branches_in bs → row_at (form_in bs) bra k ≡ branch_at bs k
  unfolding book_of
  row_read k h = rw b-are
      (row_of_table (form_in bs) (up_to (branches_in bs) (branch_at bs)) rest' k (omega (arith, length_up_to (branches_in bs) (branch_at bs)))
      (λ e. rw (get_d_up_to (branches_in bs) (branch_at bs) k no_branch h) (one_figure (form_in bs) (nth (item (branch_widths (form_in bs)) bs (branch_start (buses_in bs)) k)) e))
      ∙ get_d_up_to (branches_in bs) (branch_at bs) k no_branch h)

  book_read : book_from (form_in bs) (buses_in bs) (branches_in bs) (factor_in bs) inj bra ≡ book_of bs
  unfolding book_of book_from
  book_read =
      let x = up_to_same (buses_in bs) (entry inj) (injection_at bs) entry_read in
      let y = up_to_same (branches_in bs) (row_at (form_in bs) bra) (branch_at bs) row_read in
      λ i. record { form = form_in bs; factor = factor_in bs; injections = x i; branches = y i }

  long_inj : buses_in bs ≤ length inj
  unfolding book_of
  long_inj = rw (i-are, length-append) (omega (arith, length_up_to (buses_in bs) (injection_at bs)))

  long_bra : fields (form_in bs) * branches_in bs ≤ length bra
  unfolding book_of
  long_bra =
      let e = length_table (form_in bs) (up_to (branches_in bs) (branch_at bs)) ∙ ap (λ (k : ℕ). fields (form_in bs) * k) (length_up_to (branches_in bs) (branch_at bs)) in
      rw (b-are, length-append) (omega (arith, e))

  read_writable : (room : ℕ) → length bs ≤ room → Writable (form_in bs) (buses_in bs) (branches_in bs) (factor_in bs) inj bra room
  read_writable room l = record {
    range = v.range;
    injections_long = long_inj;
    branches_long = long_bra;
    entries = sound_first (entry_fault inj) (buses_in bs) (λ k h.
        ap (λ (z : ℤ). bus_fault (nth (bus_values z) 0) (nth (bus_values z) 1)) (entry_read k h)
        ∙ ap (λ (vs : List ℕ). bus_fault (nth vs 0) (nth vs 1)) (bus_injection _ _ (field_lt bs _ 1) (sound_bus _ _ (v.bus_sound k h)))
        ∙ v.bus_sound k h);
    rows = sound_first (row_fault (form_in bs) (buses_in bs) bra) (branches_in bs) (λ k h. ap (λ (x : Branch). branch_fault (form_in bs) (buses_in bs) x) (row_read k h) ∙ v.branch_sound k h);
    level = eq-eqb _ _
        (over_same (buses_in bs) all all _ _ (λ k h. ap pos_part (entry_read k h))
        ∙ v.balance
        ∙ sym (over_same (buses_in bs) all all _ _ (λ k h. ap neg_part (entry_read k h))));
    fits = omega (arith, v.exact);
  }

pub record WrittenBack (bs out out' : List ℕ) (r : Answer) : Type 0 where
  pub taken : r ≡ Accepted
  pub bytes : out' ≡ bs ++ drop (length bs) out

-- The reader's tables, written with the book's form, counts and factor into a row that is long enough, give the book back.
pub read_write : (bs : List ℕ) (old inj : List ℤ) (old' bra : List ℕ) (r : Answer) (out out' : List ℕ) (r' : Answer)
    → BookRead bs old inj old' bra r → r ≡ Accepted → length bs ≤ length out
    → BookWritten (form_in bs) (buses_in bs) (branches_in bs) (factor_in bs) inj bra out out' r' → WrittenBack bs out out' r'
read_write bs old inj old' bra r out out' r' d a l w =
    let s = outcome_is _ r (read_answer d) a in
    let v = accepted_valid bs (read_checked bs (length old) (length old') s) in
    let i-are = rw s at d.injections_left in
    let b-are = rw s at d.branches_left in
    let g = accepted_write _ _ _ _ inj bra (length out) (read_writable bs v inj bra _ _ i-are b-are (length out) l) in
    let e = rw (g, book_read bs v inj bra _ _ i-are b-are, encode_valid bs d.bytes v, ← v.exact) at w.left in
    record { taken = write_answer _ _ _ _ _ _ w ∙ g; bytes = e }
