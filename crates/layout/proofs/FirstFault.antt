-- A scan for the first fault: how far it has come, and how it ends.
use mathlib.Core.Path.{◌≡◌, refl, sym, ap, ◌∙◌}
use Prim.Native.Nat.{ℕ, zero, suc, ◌+◌, ◌<◌, ◌≤◌}
use native.Mathlib.Omega.{arith}
use Rattle.std.specs.Prelude.{Some, None}
use Rattle.answer.specs.Answer.{At, Nowhere}
use Rattle.layout.specs.Fault.{field_at, first_fault}
use Rattle.layout.proofs.Faults.{first_none, first_more, first_stops}

pub record Scanned (f : ℕ → ℕ) (n k : ℕ) : Type 0 where
  pub here : k ≤ n
  pub sound : first_fault f k ≡ Nowhere

pub scan_start : (f : ℕ → ℕ) (n : ℕ) → Scanned f n 0
scan_start f n = record { here = omega arith; sound = first_none f }

pub scan_more : (f : ℕ → ℕ) (n k : ℕ) → k < n → Scanned f n k → None ≡ field_at (f k) → Scanned f n (k + 1)
scan_more f n k l s e = record { here = omega arith; sound = first_more f k s.sound (sound (f k) e) }
  where
    sound : (v : ℕ) → None ≡ field_at v → v ≡ 0
    sound zero e = refl
    sound (suc v) e = absurd (cc)

pub scan_stop : (f : ℕ → ℕ) (n k x : ℕ) → k < n → Scanned f n k → Some x ≡ field_at (f k) → At k x ≡ first_fault f n
scan_stop f n k x l s e = at (f k) refl e
  where
    at : (v : ℕ) → f k ≡ v → Some x ≡ field_at v → At k x ≡ first_fault f n
    at zero h e = absurd (cc)
    at (suc v) h e = let same : x ≡ suc v = cc in ap (At k) same ∙ sym (first_stops f n k (suc v) l s.sound h (omega arith))

pub scan_end : (f : ℕ → ℕ) (n k : ℕ) → n ≤ k → Scanned f n k → Nowhere ≡ first_fault f n
scan_end f n k h s = let e : k ≡ n = omega arith in sym (rw e at s.sound)
