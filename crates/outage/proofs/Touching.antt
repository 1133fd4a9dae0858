-- The bits of touched branches, and the losses that are judged for the shortlist.
use mathlib.Core.Path.{◌≡◌, refl, sym, ◌∙◌}
use mathlib.Core.Bool.{Bool, true, false, ◌&&◌}
use mathlib.Core.List.{List}
use mathlib.Core.Logic.{◌⊎◌, inl, inr}
use Prim.Native.Nat.{ℕ, ◌≤◌, ◌<◌}
use native.Mathlib.Omega.{arith}
use native.Mathlib.Decide.{ℕ_discrete}
use lib.ListN.{get_or}
use Rattle.rows.specs.Row.{nth}
use Rattle.rows.proofs.Row.{and_false}
use Rattle.rows.specs.Bit.{has}
use Rattle.bits.specs.Field.{set_bit}
use Rattle.verdict.specs.Case.{Case}
use Rattle.verdict.specs.Update.{Shortlisted}
use Rattle.state.specs.Inside.{Differs, Changed, Listing, judged_of}
use Rattle.bits.proofs.Marking.{bit_noted, bit_left}
use Rattle.shortlist.specs.Inside.{listed_at}
use Rattle.shortlist.proofs.Shortlisting.{shortlisted_listed, unlisted}
use Rattle.outage.specs.Inside.{Marked}
use Rattle.outage.specs.Promise.{Judges}

-- The branch taken out is marked beside those whose flow changed.
pub marked : {n : ℕ} {a b : List ℕ} {k : ℕ} {row : List ℕ} → n ≤ 256 → k < n → Changed n a b k row → Marked n a b k (set_bit row k 1)
marked {n} {a} {b} {k} {row} few u c =
    record {
      itself = here;
      differing = λ j v d. differ j v d (ℕ_discrete j k);
      only = λ j q. one j q (ℕ_discrete j k);
    }
  where
    here : has (set_bit row k 1) k ≡ true
    here = bit_noted row k c.long (omega arith)

    differ : (j : ℕ) → j < n → (nth a j ≡ nth b j → ⊥) → Dec (j ≡ k) → has (set_bit row k 1) j ≡ true
    differ j v d (yes e) = rw e (bit_noted row k c.long (omega arith))
    differ j v d (no m) = bit_left row k j m ∙ c.names j v m d

    one : (j : ℕ) → has (set_bit row k 1) j ≡ true → Dec (j ≡ k) → (j ≡ k) ⊎ Differs n a b k j
    one j q (yes e) = inl e
    one j q (no m) = inr (c.named j (sym (bit_left row k j m) ∙ q))

module _ (C : Case) (served : List Bool) (touched : List ℕ) (T : ℕ → Type 0) (few : C.branches ≤ 256)
    (served_is : (k : ℕ) → get_or served k false ≡ C.served k)
    (marks : (j : ℕ) → j < C.branches → T j → has touched j ≡ true)
    (marked-only : (j : ℕ) → has touched j ≡ true → (j < C.branches) × T j) (table : List ℕ)
    (bits : List ℕ) (shown : Listing C.branches (listed_at served touched table) bits) where
  -- The losses counted are those of shortlisted records in service.
  pub judges : {n : ℕ} → n ≡ judged_of served bits C.branches → Judges C T table n
  judges e = record {
    judged = λ k. has bits k && get_or served k false;
    if_listed = λ k u h s. rw (
      shown.bit k u,
      shortlisted_listed C served touched T few served_is marks marked-only table k u h,
      served_is k,
      s,
    ) refl;
    if_not = λ k u h. off k u h (C.served k) refl;
    count = e;
  }
    where
      off : (k : ℕ) → k < C.branches → (Shortlisted C table T k → C.served k ≡ true → ⊥) → (s : Bool) → C.served k ≡ s
          → (has bits k && get_or served k false) ≡ false
      off k u h true e = rw (shown.bit k u, unlisted C served touched T few served_is marks marked-only table k u (λ l. h l e)) refl
      off k u h false e = rw (served_is k, e) (and_false (has bits k))
