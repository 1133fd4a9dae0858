-- Books that differ in status bits alone: two of them that have the same status of every branch are equal, byte for byte.
use mathlib.Core.Path.{◌≡◌, refl, sym, ◌∙◌}
use mathlib.Core.List.{List}
use Prim.Native.Nat.{ℕ, zero, suc, ◌/◌, ◌<◌}
use native.Mathlib.Omega.{arith}
use native.Mathlib.Decide.{ℕ_discrete}
use lib.ListN.{length}
use Rattle.rows.specs.Row.{nth}
use Rattle.rows.specs.Bit.{bit_at}
use Rattle.answer.specs.Answer.{Accepted}
use Rattle.bits.specs.Field.{set_bit}
use Rattle.bits.proofs.ReadAsPut.{length_set_bit, set_bit_above, bit_other, ext_row}
use Rattle.layout.specs.Layout.{branches_in, status_bit}
use Rattle.layout.specs.Check.{check_of}
use Rattle.layout.proofs.AcceptedWhere.{accepted_valid}
use Rattle.layout.proofs.StatusChanged.{count_kept, bit_kept}

-- bs' is bs but for the status bits of its branches.
pub record ButStatus (bs bs' : List ℕ) : Type 0 where
  pub long : length bs' ≡ length bs
  pub above : (k : ℕ) → nth bs' k / 256 ≡ nth bs k / 256
  pub count : branches_in bs' ≡ branches_in bs
  pub status_at : (k : ℕ) → status_bit bs' k ≡ status_bit bs k
  pub elsewhere : (i : ℕ) → ((k : ℕ) → k < branches_in bs → i ≡ status_bit bs k → ⊥) → bit_at bs' i ≡ bit_at bs i

pub but_itself : (bs : List ℕ) → ButStatus bs bs
but_itself bs = record { long = refl; above = λ k. refl; count = refl; status_at = λ k. refl; elsewhere = λ i n. refl }

pub but_then : {xs ys zs : List ℕ} → ButStatus xs ys → ButStatus ys zs → ButStatus xs zs
but_then {xs} {ys} {zs} a b = record {
  long = b.long ∙ a.long;
  above = λ k. b.above k ∙ a.above k;
  count = b.count ∙ a.count;
  status_at = λ k. b.status_at k ∙ a.status_at k;
  elsewhere = λ i n. b.elsewhere i (λ k l e. n k (omega (arith, a.count)) (e ∙ a.status_at k)) ∙ a.elsewhere i n;
}

pub but_set : (bs : List ℕ) (b v : ℕ) → check_of bs ≡ Accepted → b < branches_in bs → v < 2 → ButStatus bs (set_bit bs (status_bit bs b) v)
but_set bs b v ok there two =
    let long = (accepted_valid bs ok).exact in
    record {
      long = length_set_bit bs (status_bit bs b) v;
      above = λ k. set_bit_above bs (status_bit bs b) v k two;
      count = count_kept bs b v two there long;
      status_at = bit_kept bs b v two there long;
      elsewhere = λ i n. bit_other bs (status_bit bs b) i v two (n b there);
    }

-- Whether bit i is the status bit of one of the first n branches.
data Which (bs : List ℕ) (i n : ℕ) : Type 0 where
  of : (k : ℕ) → k < n → i ≡ status_bit bs k → Which bs i n
  none : ((k : ℕ) → k < n → i ≡ status_bit bs k → ⊥) → Which bs i n

which : (bs : List ℕ) (i n : ℕ) → Which bs i n
which bs i zero = none (λ k l e. omega arith)
which bs i (suc n) = go (ℕ_discrete i (status_bit bs n)) (which bs i n)
  where
    go : Dec (i ≡ status_bit bs n) → Which bs i n → Which bs i (suc n)
    go (yes e) w = of n (omega arith) e
    go (no d) (of k l e) = of k (omega arith) e
    go (no d) (none h) = none (λ k l e. last k l e (ℕ_discrete k n))
      where
        last : (k : ℕ) → k < suc n → i ≡ status_bit bs k → Dec (k ≡ n) → ⊥
        last k l e (yes q) = d (rw q at e)
        last k l e (no q) = h k (omega arith) e

pub same_statuses : {bs xs ys : List ℕ} → ButStatus bs xs → ButStatus bs ys
    → ((k : ℕ) → k < branches_in bs → bit_at xs (status_bit bs k) ≡ bit_at ys (status_bit bs k)) → xs ≡ ys
same_statuses {bs} {xs} {ys} a b same =
    ext_row xs ys (a.long ∙ sym b.long) (λ k. a.above k ∙ sym (b.above k)) (λ i l. go i (which bs i (branches_in bs)))
  where
    go : (i : ℕ) → Which bs i (branches_in bs) → bit_at xs i ≡ bit_at ys i
    go i (of k l e) = rw e (same k l)
    go i (none n) = a.elsewhere i n ∙ sym (b.elsewhere i n)
