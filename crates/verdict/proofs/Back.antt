-- A branch comes back: the flow that fitted still fits, every carrying record stays true, and the record of a branch in service without flow is the empty one.
use mathlib.Core.Path.{◌≡◌, refl, sym, ap, ◌∙◌, fun_ext}
use mathlib.Core.Bool.{true, false, cond, true≢false}
use mathlib.Core.List.{List, ◌∷◌}
use Prim.Native.Nat.{ℕ, zero, suc, ◌≤◌, ◌<◌}
use native.Mathlib.Omega.{arith}
use native.Mathlib.Decide.{ℕ_discrete}
use borrow.Author.Tests.{eq-eqb, ne_eqb}
use lib.Dec.{eqb}
use lib.IntN.{ℤ, pos, nat_abs}
use lib.ListN.{replicate}
use Rattle.rows.specs.Row.{nth}
use Rattle.bits.specs.Field.{Bytes}
use Rattle.verdict.specs.Case.{Case, Posed, out, back, Fits}
use Rattle.verdict.specs.Record.{verdict_in, names, Zero, Told, is_out, carries, short, TrueRecord}
use Rattle.verdict.proofs.Fitting.{served_self, served_other, posed_status}
use Rattle.verdict.proofs.Islanding.{number_above}
use Rattle.verdict.proofs.Keep.{Wired, keep_reroute, keep_carries}
use Rattle.verdict.proofs.Loss.{fits_carries, never_both}
use Rattle.verdict.proofs.Named.{names_only, zero_names}
use Rattle.verdict.proofs.VerdictByCase.{clash, same_record}

pub wired_back : (C : Case) (b : ℕ) → Wired C (back C b)
wired_back C b = record { same_buses = refl; same_branches = refl; same_first = refl; same_second = refl; same_limit = refl }

-- Out and back again is the case as it was.
pub back_out : (C : Case) (b : ℕ) → C.served b ≡ true → back (out C b) b ≡ C
back_out C b e =
    let s : (λ (k : ℕ). cond (eqb k b) true (cond (eqb k b) false (C.served k))) ≡ C.served = fun_ext (λ k. at k (ℕ_discrete k b)) in
    λ i. record {
      buses = C.buses;
      branches = C.branches;
      first = C.first;
      second = C.second;
      served = s i;
      injection = C.injection;
      limit = C.limit;
      loss_limit = C.loss_limit;
    }
  where
    at : (k : ℕ) → Dec (k ≡ b) → cond (eqb k b) true (cond (eqb k b) false (C.served k)) ≡ C.served k
    at k (yes q) = rw (q, eq-eqb b b refl) (sym e)
    at k (no n) = rw (ne_eqb k b n) refl

module _ (C : Case) (b : ℕ) (off : C.served b ≡ false) where
  -- The flow of the branch is 0 before and after.
  pub fits_back : (limit : ℕ → ℕ) (f : ℕ → ℤ) → Fits C limit f → Fits (back C b) limit f
  fits_back limit f h = record { still = λ k u o. still k u o (ℕ_discrete k b); within = λ k u o. within k u o (ℕ_discrete k b); bus = h.bus }
    where
      still : (k : ℕ) → k < C.branches → (back C b).served k ≡ false → Dec (k ≡ b) → f k ≡ pos 0
      still k u o (yes e) = clash (ap (back C b).served e ∙ served_self C b true) o
      still k u o (no n) = h.still k u (sym (served_other C b true k n) ∙ o)

      within : (k : ℕ) → k < C.branches → (back C b).served k ≡ true → Dec (k ≡ b) → nat_abs (f k) ≤ limit k
      within k u o (yes e) = rw (h.still k u (ap C.served e ∙ off)) (omega arith)
      within k u o (no n) = h.within k u (sym (served_other C b true k n) ∙ o)

  -- A record of byte 0 = 1 names no branch out of service, so nothing that it rests on has changed.
  pub keep_back : (f : ℕ → ℤ) (k : ℕ) (rec : List ℕ) → Posed C → Fits C C.limit f → k < C.branches → verdict_in rec ≡ 1 → TrueRecord C f k rec → TrueRecord (back C b) f k rec
  keep_back f k rec p ff u v r = record { long = r.long; bytes = r.bytes; told = go r.told }
    where
      serving : (j : ℕ) → C.served j ≡ true → C.served j ≡ (back C b).served j
      serving j i = sym (served_other C b true j (λ e. true≢false (sym i ∙ ap C.served e ∙ off)))

      go : Told C f k rec → Told (back C b) f k rec
      go (is_out i w z) = absurd (omega arith)
      go (short i s w z) = absurd (omega (arith, number_above w))
      go (carries i c w z m) =
          let clear : (j : ℕ) → j < C.branches → names rec j ≡ true → (f j ≡ f j) × (C.served j ≡ (back C b).served j) =
          λ j l e. (refl, serving j (names_only C f k rec ff (carries i c w z m) j e).in_service) in
          let q = posed_status C b true p in
          let fg = fits_back C.limit f ff in
          carries (sym (serving k i) ∙ i) (keep_carries C (back C b) (wired_back C b) f f k rec q ff fg u refl m clear) w z
          (keep_reroute C (back C b) (wired_back C b) f f k rec q ff fg u refl m clear)

-- The record of a branch in service without flow: verdict 1, and all else zero.
zero_past : (j : ℕ) → 1 ≤ j → nth (1 ∷ replicate 51 0) j ≡ 0
zero_past (suc j) u = zeros 51 j
  where
    zeros : (n i : ℕ) → nth (replicate n 0) i ≡ 0
    zeros zero i = refl
    zeros (suc n) zero = refl
    zeros (suc n) (suc i) = zeros n i
zero_past zero u = elim u [ ]

pub idle_record : (C : Case) (f : ℕ → ℤ) (b : ℕ) (rec : List ℕ) → Posed C → C.served b ≡ true → f b ≡ pos 0 → Fits (out C b) C.loss_limit f → TrueRecord C f b rec
    → rec ≡ 1 ∷ replicate 51 0
idle_record C f b rec p on z fits r = go r.told
  where
    small : Bytes (1 ∷ replicate 51 0)
    small zero = omega arith
    small (suc j) = rw (zero_past (suc j) (omega arith)) (omega arith)

    front : verdict_in rec ≡ 1 → Zero rec 1 20 → (j : ℕ) → j < 20 → nth rec j ≡ nth (1 ∷ replicate 51 0) j
    front v w zero u = v
    front v w (suc j) u = w (suc j) (omega arith) u ∙ sym (zero_past (suc j) (omega arith))

    go : Told C f b rec → rec ≡ 1 ∷ replicate 51 0
    go (is_out i v w) = clash on i
    go (short i s v w) = absurd (never_both C b _ _ (fits_carries C f b p fits) s)
    go (carries i c v w m) =
        same_record rec (1 ∷ replicate 51 0) r.long refl r.bytes small (front v w)
        (λ j. m.idle z j ∙ sym (zero_names (1 ∷ replicate 51 0) (λ n l h. zero_past n (omega arith)) j))
