-- Computed tests of a row, and what each gives.
use mathlib.Core.Path.{◌≡◌, refl, sym, ap, ap₂, ◌∙◌}
use mathlib.Core.Bool.{Bool, true, false, not, ◌||◌, true≢false}
use mathlib.Core.List.{List, [], ◌∷◌, append-nil}
use Prim.Native.Nat.{ℕ, zero, suc, ◌+◌, ◌≤◌, ◌<◌}
use native.Mathlib.Omega.{arith}
use borrow.Author.Tests.{leb-true, ltb-true, eqb-true, not-true, le-leb}
use lib.Dec.{leb, ltb, eqb}
use lib.IntN.{ℤ, pos, nat_abs, ◌-ℤ◌}
use lib.ListN.{length, take, length-append, length-take, get_or-append}
use lib.Seq.{get_or-take, ext_get_or}
use Rattle.rows.specs.Row.{nth, every}
use Rattle.rows.specs.Bit.{has}
use Rattle.rows.specs.Sum.{any, pick}
use Rattle.answer.specs.Answer.{no_group}
use Rattle.rows.proofs.Row.{every_at}
use Rattle.quantity.specs.Signed.{pos_part, neg_part}
use Rattle.quantity.proofs.Parts.{by_parts, size_parts}
use Rattle.bits.specs.Field.{Bytes}
use Rattle.bits.proofs.ReadAsPut.{length_set_bit, bytes_set_bit, bytes_zeros}
use Rattle.grid.proofs.Islands.{together, together_sound, together_complete}
use Rattle.grid.proofs.Without.{ends_without}
use Rattle.grid.proofs.Tests.{◌&◌, ◌⇒◌, and_left, and_right, imply}
use Rattle.grid.proofs.Trial.{any_decided, crosses_decided, most_test, most_sound, smallest_test, smallest_sound}
use Rattle.quantity.specs.Rating.{in_kva}
use Rattle.layout.specs.declared.Form.{Form}
use Rattle.layout.specs.declared.Form.TheVariants.{Old, New}
use Rattle.layout.specs.declared.Branch.{Branch}
use Rattle.layout.specs.Book.{Book, buses, count, injection, branch, in_form, size, WellFormed}
use Rattle.layout.specs.Fault.{branch_fault}
use Rattle.layout.specs.Check.{outside, balances}
use Rattle.layout.proofs.Faults.{sound_branch}
use Rattle.layout.proofs.AcceptedWhere.{in_range}
use Rattle.layout.proofs.WellFormed.{balance_sum}
use Rattle.verdict.specs.Case.{Case, Posed, out as without, leaving, arriving, Fits}
use Rattle.verdict.specs.Excess.{one_end, NoExcess, Overload, Short, Carries}
use Rattle.verdict.proofs.Plain.{base, loss_net, overload_plain, no_excess_plain, short_plain, carries_plain}
use Rattle.verdict.specs.Record.{verdict_in, shortage_in, group_in, Zero, Told, is_out, carries, short, TrueRecord}
use Rattle.verdict.specs.Island.{ShortNumber, joined, islands as alone}
use Rattle.verdict.proofs.Fitting.{ends}
use Rattle.verdict.proofs.Loss.{never_both}
use Rattle.verdict.proofs.VerdictByCase.{first_twenty}
use Rattle.record.specs.Inside.{record_bytes}
use Rattle.record.proofs.Made.{record_verdict, record_plain}
use Rattle.state.proofs.TrueRecords.{none, none_at, clipped, short_record}
use Rattle.examples.specs.Row.{Sight, out, carries, short, islands, group_bytes, sight_bytes}

-- ---- A well-formed book.
abbrev is_new : Form → Bool
is_new Old = false
is_new New = true

by_old : (a : Bool) (f : Form) → f ≡ Old → a || is_new f ≡ true → a ≡ true
by_old true f e t = refl
by_old false Old e t = t
by_old false New e t = let z : ◌≡◌ {A = ℕ} 0 1 = cc in absurd (omega arith)

unfoldable pub well_test : Book → Bool
well_test b =
    not (outside (buses b) (count b) b.factor)
    & (every (buses b) (λ k. leb (size (injection b k)) 1000000)
    & (every (count b) (λ k. eqb (branch_fault b.form (buses b) (branch b k)) 0)
    & ((every (count b) (λ k. eqb (branch b k).kva2.0 (branch b k).kva.0) || is_new b.form)
    & balances (buses b) (injection b))))

pub well_sound : (b : Book) → well_test b ≡ true → WellFormed b
unfolding well_test
well_sound b t =
    let t₁ = and_right _ _ t in
    let t₂ = and_right _ _ t₁ in
    let t₃ = and_right _ _ t₂ in
    let r = in_range (buses b) (count b) b.factor (not-true _ (and_left _ _ t)) in
    record {
      some_bus = r.some_bus;
      few_buses = r.few_buses;
      few_branches = r.few_branches;
      some_factor = r.some_factor;
      small_factor = r.small_factor;
      sizes = λ k u. leb-true _ _ (every_at _ (buses b) (and_left _ _ t₁) k u);
      good = λ k u. sound_branch b.form (buses b) (branch b k) (eqb-true _ _ (every_at _ (count b) (and_left _ _ t₂) k u));
      one_figure = λ e k u.
          let z = eqb-true _ _ (every_at (λ k. eqb (branch b k).kva2.0 (branch b k).kva.0) (count b) (by_old _ b.form e (and_left _ _ t₃)) k u) in
          λ i. in_kva (z i);
      balanced = balance_sum (buses b) (injection b) (eqb-true _ _ (and_right _ _ t₃));
    }

-- ---- Signed numbers.
unfoldable pub same_rows : {A : Type 0} → (A → A → Bool) → List A → List A → Bool
same_rows same [] [] = true
same_rows same [] (y ∷ ys) = false
same_rows same (x ∷ xs) [] = false
same_rows same (x ∷ xs) (y ∷ ys) = same x y & same_rows same xs ys

rows_same : {A : Type 0} (same : A → A → Bool) → ((x y : A) → same x y ≡ true → x ≡ y) → (xs ys : List A) → same_rows same xs ys ≡ true → xs ≡ ys
unfolding same_rows
rows_same same sound [] [] t = refl
rows_same same sound [] (y ∷ ys) t = absurd (true≢false (sym t))
rows_same same sound (x ∷ xs) [] t = absurd (true≢false (sym t))
rows_same same sound (x ∷ xs) (y ∷ ys) t = ap₂ ◌∷◌ (sound x y (and_left _ _ t)) (rows_same same sound xs ys (and_right _ _ t))

abbrev same_number : ℤ → ℤ → Bool
same_number x y = eqb (pos_part x + neg_part y) (neg_part x + pos_part y)

abbrev pub same_numbers : List ℤ → List ℤ → Bool
same_numbers xs ys = same_rows same_number xs ys

pub same_sound : (xs ys : List ℤ) → same_numbers xs ys ≡ true → xs ≡ ys
same_sound = rows_same _ (λ x y t. by_parts x y (eqb-true _ _ t))

-- ---- Books that say the same, but for their form.
abbrev same_branch : Branch → Branch → Bool
same_branch x y =
    eqb x.first y.first & (eqb x.second y.second & (eqb x.kva.0 y.kva.0 & (eqb x.kva2.0 y.kva2.0 & eqb x.status y.status)))

branch_same : (x y : Branch) → same_branch x y ≡ true → x ≡ y
branch_same x y t =
    let t₁ = and_right _ _ t in
    let t₂ = and_right _ _ t₁ in
    let t₃ = and_right _ _ t₂ in
    let e₁ = eqb-true _ _ (and_left _ _ t) in
    let e₂ = eqb-true _ _ (and_left _ _ t₁) in
    let e₃ = eqb-true _ _ (and_left _ _ t₂) in
    let e₄ = eqb-true _ _ (and_left _ _ t₃) in
    let e₅ = eqb-true _ _ (and_right _ _ t₃) in
    λ i. record { first = e₁ i; second = e₂ i; kva = in_kva (e₃ i); kva2 = in_kva (e₄ i); status = e₅ i }

unfoldable pub same_books : Book → Book → Bool
same_books b d = eqb b.factor d.factor & (same_numbers b.injections d.injections & same_rows same_branch b.branches d.branches)

pub books_sound : (b d : Book) → same_books b d ≡ true → b ≡ in_form b.form d
unfolding same_books
books_sound b d t =
    let t₁ = and_right _ _ t in
    let e₁ = eqb-true _ _ (and_left _ _ t) in
    let e₂ = same_sound _ _ (and_left _ _ t₁) in
    let e₃ = rows_same same_branch branch_same _ _ (and_right _ _ t₁) in
    λ i. record { form = b.form; factor = e₁ i; injections = e₂ i; branches = e₃ i }

-- ---- The bytes of a group.
pub long_group : (g : List ℕ) → length (group_bytes g) ≡ 16
unfolding group_bytes
long_group [] = refl
long_group (i ∷ g) = length_set_bit (group_bytes g) i 1 ∙ long_group g

pub bytes_group : (g : List ℕ) → Bytes (group_bytes g)
unfolding group_bytes
bytes_group [] = bytes_zeros 16
bytes_group (i ∷ g) = bytes_set_bit (group_bytes g) i 1 (omega arith) (bytes_group g)

-- It has no bus from n on.
unfoldable pub inside_test : ℕ → List ℕ → Bool
inside_test n g = every 128 (λ i. leb n i ⇒ not (has (group_bytes g) i))

pub inside_sound : (n : ℕ) (g : List ℕ) → inside_test n g ≡ true → (i : ℕ) → n ≤ i → has (group_bytes g) i ≡ false
unfolding inside_test
inside_sound n g t =
    clipped n (group_bytes g) (long_group g) (λ i l u. not-true _ (imply (leb n i) _ (every_at (λ i. leb n i ⇒ not (has (group_bytes g) i)) 128 t i u) (le-leb n i l)))

-- ---- The case.
unfoldable pub overload_test : Case → ℕ → List ℕ → Bool
overload_test C v g = ltb 0 v & (smallest_test (base C) any (has (group_bytes g)) v & inside_test C.buses g)

unfoldable pub no_excess_test : Case → Bool
no_excess_test C = most_test (base C) any 0

-- It is short by v with the group g.
unfoldable pub missing_test : Case → ℕ → ℕ → List ℕ → Bool
missing_test C k v g =
    C.served k
    & (ltb 0 v
    & (ltb v 16777216
    & (smallest_test (loss_net C k) (one_end C k) (has (group_bytes g)) v
    & inside_test C.buses g)))

abbrev joined_test : Case → ℕ → Bool
joined_test C k = together C.first C.second (without C k).served C.branches (C.first k) (C.second k)

unfoldable pub sight_test : Case → ℕ → Sight → Bool
sight_test C k out = not (C.served k)
sight_test C k carries = C.served k & most_test (loss_net C k) (one_end C k) 0
sight_test C k (short v g) = missing_test C k v g & joined_test C k
sight_test C k (islands v g) = missing_test C k v g & not (joined_test C k)

module _ (C : Case) (p : Posed C) where
  pub overload_sound : (v : ℕ) (g : List ℕ) → overload_test C v g ≡ true → Overload C v (has (group_bytes g))
  unfolding overload_test
  overload_sound v g t =
      let t₁ = and_right _ _ t in
      (overload_plain C v (has (group_bytes g))).1 (record {
        above = ltb-true _ _ (and_left _ _ t);
        smallest = smallest_sound (base C) (ends C C.limit p) any (any_decided (base C)) (has (group_bytes g)) v (and_left _ _ t₁);
        beyond = inside_sound C.buses g (and_right _ _ t₁);
      })

  pub no_excess_sound : no_excess_test C ≡ true → NoExcess C
  unfolding no_excess_test
  no_excess_sound t = (no_excess_plain C).1 (λ S. most_sound (base C) (ends C C.limit p) any (any_decided (base C)) 0 t S refl)

  module _ (k : ℕ) (u : k < C.branches) where
    carries_sound : most_test (loss_net C k) (one_end C k) 0 ≡ true → Carries C k
    carries_sound t =
        let e = ends_without _ k (ends C C.loss_limit p) in
        (carries_plain C k).1 (most_sound (loss_net C k) e (one_end C k) (crosses_decided (loss_net C k) e k u) 0 t)

    short_sound : (v : ℕ) (g : List ℕ) → ltb 0 v ≡ true → smallest_test (loss_net C k) (one_end C k) (has (group_bytes g)) v ≡ true → inside_test C.buses g ≡ true → Short C k v (has (group_bytes g))
    short_sound v g a t i =
        let e = ends_without _ k (ends C C.loss_limit p) in
        (short_plain C k v (has (group_bytes g))).1 (record {
          above = ltb-true _ _ a;
          smallest = smallest_sound (loss_net C k) e (one_end C k) (crosses_decided (loss_net C k) e k u) (has (group_bytes g)) v t;
          beyond = inside_sound C.buses g i;
        })

-- ---- A flow that fits.
unfoldable pub fits_test : Case → (ℕ → ℕ) → (ℕ → ℤ) → Bool
fits_test C limit f =
    every C.branches (λ k. leb (nat_abs (f k)) (pick (C.served k) (limit k))) & every C.buses
    (λ i. same_number (leaving C f i -ℤ arriving C f i) (C.injection i))

pub fits_sound : (C : Case) (limit : ℕ → ℕ) (f : ℕ → ℤ) → fits_test C limit f ≡ true → Fits C limit f
unfolding fits_test
fits_sound C limit f t = record {
  still = λ k u o. by_parts (f k) (pos 0) (omega (arith, size_parts (f k), rw o at (small k u)));
  within = λ k u o. rw o at (small k u);
  bus = λ i u. by_parts _ _ (eqb-true _ _ (every_at _ C.buses (and_right _ _ t) i u));
}
  where
    small : (k : ℕ) → k < C.branches → nat_abs (f k) ≤ pick (C.served k) (limit k)
    small k u = leb-true _ _ (every_at (λ k. leb (nat_abs (f k)) (pick (C.served k) (limit k))) C.branches (and_left _ _ t) k u)

-- ---- Bytes 0 to 19 of a true record.
front_bytes : (v s : ℕ) (g h : List ℕ) → length g ≡ 16 → (j : ℕ) → j < 20 → nth (record_bytes v s g h) j ≡ nth (record_bytes v s g []) j
unfolding record_bytes
front_bytes v s g h l zero u = refl
front_bytes v s g h l (suc zero) u = refl
front_bytes v s g h l (suc (suc zero)) u = refl
front_bytes v s g h l (suc (suc (suc zero))) u = refl
front_bytes v s g h l (suc (suc (suc (suc j)))) u = get_or-append g h 0 j (omega arith) ∙ ap (λ (x : List ℕ). nth x j) (sym (append-nil g))

long_front : (v s : ℕ) (g : List ℕ) → length g ≡ 16 → length (record_bytes v s g []) ≡ 20
unfolding record_bytes
long_front v s g l = simp length-append (omega arith)

front_is : (rec : List ℕ) (v s : ℕ) (g h : List ℕ) → length rec ≡ 52 → length g ≡ 16 → ((j : ℕ) → j < 20 → nth rec j ≡ nth (record_bytes v s g h) j) → take 20 rec ≡ record_bytes v s g []
front_is rec v s g h lr lg e =
    let long : length (take 20 rec) ≡ 20 = length-take 20 rec ∙ omega arith in
    ext_get_or 0 (take 20 rec) (record_bytes v s g []) (long ∙ sym (long_front v s g lg)) (λ j l.
    let l' : j < 20 = omega arith in
    get_or-take 20 rec j 0 l' ∙ e j l' ∙ front_bytes v s g h lg j l')

-- A record without shortage and group.
plain_front : (rec : List ℕ) (v : ℕ) → verdict_in rec ≡ v → Zero rec 1 20 → (j : ℕ) → j < 20 → nth rec j ≡ nth (record_bytes v 0 no_group (none 32)) j
plain_front rec v e z zero u = e ∙ sym (record_verdict v 0 no_group (none 32) refl refl)
plain_front rec v e z (suc j) u = z (suc j) (omega arith) u ∙ sym (record_plain v 0 no_group (none 32) refl refl refl (none_at 16) (suc j) (omega arith) u)

-- A short branch's record, with its number, is the one that is true.
missing_front : (C : Case) (f : ℕ → ℤ) (k : ℕ) (rec : List ℕ) → Posed C → k < C.branches → TrueRecord C f k rec → (v n : ℕ) (g : List ℕ)
    → missing_test C k v g ≡ true → ShortNumber C k n → take 20 rec ≡ record_bytes n v (group_bytes g) []
unfolding missing_test
missing_front C f k rec p u t v n g w number =
    let w₁ = and_right _ _ w in
    let w₂ = and_right _ _ w₁ in
    let w₃ = and_right _ _ w₂ in
    let s = short_sound C p k u v g (and_left _ _ w₁) (and_left _ _ w₃) (and_right _ _ w₃) in
    let canon = short_record C f k v n (group_bytes g) (long_group g) (bytes_group g) (and_left _ _ w) (ltb-true _ _ (and_left _ _ w₂)) s number in
    front_is rec n v (group_bytes g) (none 32) t.long (long_group g) (first_twenty C f f k rec (record_bytes n v (group_bytes g) (none 32)) t canon)

pub sight_sound : (C : Case) (f : ℕ → ℤ) (k : ℕ) (rec : List ℕ) → Posed C → k < C.branches → TrueRecord C f k rec → (s : Sight) → sight_test C k s ≡ true → take 20 rec ≡ sight_bytes s
unfolding sight_test sight_bytes
sight_sound C f k rec p u t out w = front_is rec 0 0 no_group (none 32) t.long refl (go t.told)
  where
    off : C.served k ≡ false
    off = not-true _ w

    go : Told C f k rec → (j : ℕ) → j < 20 → nth rec j ≡ nth (record_bytes 0 0 no_group (none 32)) j
    go (is_out i v z) = plain_front rec 0 v (λ j l h. z j l (omega arith))
    go (carries i c v z m) = absurd (true≢false (sym i ∙ off))
    go (short i s v z) = absurd (true≢false (sym i ∙ off))
sight_sound C f k rec p u t carries w = front_is rec 1 0 no_group (none 32) t.long refl (go t.told)
  where
    go : Told C f k rec → (j : ℕ) → j < 20 → nth rec j ≡ nth (record_bytes 1 0 no_group (none 32)) j
    go (is_out i v z) = absurd (true≢false (sym (and_left _ _ w) ∙ i))
    go (carries i c v z m) = plain_front rec 1 v z
    go (short i s v z) = absurd (never_both C k (shortage_in rec) (group_in rec) (carries_sound C p k u (and_right _ _ w)) s)
sight_sound C f k rec p u t (short v g) w =
    missing_front C f k rec p u t v 2 g (and_left _ _ w)
    (joined (together_sound C.first C.second (without C k).served C.branches (C.first k) (C.second k) (and_right _ _ w)) refl)
sight_sound C f k rec p u t (islands v g) w =
    missing_front C f k rec p u t v 3 g (and_left _ _ w)
    (alone (λ j.
    true≢false (sym (together_complete C.first C.second (without C k).served C.branches (C.first k) (C.second k) j)
    ∙ not-true _ (and_right _ _ w))) refl)
