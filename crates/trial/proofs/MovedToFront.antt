-- The rest of the input, moved to the front, and more read after it.
use mathlib.Core.Path.{◌≡◌, sym, ap, ◌∙◌}
use mathlib.Core.List.{List}
use Prim.Native.Nat.{ℕ, ◌+◌, ◌-◌, ◌≤◌}
use native.Mathlib.Omega.{arith}
use lib.ListN.{length, take, drop, length-drop}
use borrow.Rule.Slice.PartMut.{mid_of, put_mid, same_len_mid, mid_len, take_put}
use Rattle.std.specs.List.{copy_within}
use Rattle.std.proofs.lemmas.List.Edits.{take-paste}
use Rattle.trial.specs.Inside.{Refilled}

module _ {l m : List ℕ} {at e : ℕ} (new : List ℕ) (u : at ≤ e) (v : e ≤ length l) (moved : m ≡ copy_within l at e 0) (long : length m ≡ length l)
    (as_long : length new ≡ length (mid_of (e - at) (length m - (e - at)) m)) where
  pub refilled : {n : ℕ} → n ≤ length new → Refilled l at e (put_mid (e - at) (length m - (e - at)) m new) 0 (e - at + n)
  refilled {n} few =
      let here : e - at ≤ length m = omega arith in
      let mid : length (mid_of (e - at) (length m - (e - at)) m) ≡ length m - (e - at) = mid_len (e - at) (length m) m (omega arith) in
      let z : 0 + (e - at) ≡ e - at = omega arith in
      record {
        more = omega arith;
        inside = rw (same_len_mid (e - at) (length m - (e - at)) m new as_long) (omega arith);
        kept = take_put (e - at) (length m - (e - at)) m new here ∙ ap (take (e - at)) moved
            ∙ ap (λ (k : ℕ). take k (copy_within l at e 0)) (sym z)
            ∙ take-paste l 0 (drop at l) (e - at) (omega arith) (omega (arith, length-drop at l));
      }

  -- Nothing is said of what was read before a read fails.
  pub left_in_front : Refilled l at e (put_mid (e - at) (length m - (e - at)) m new) 0 (e - at)
  left_in_front =
      let k : e - at + 0 ≡ e - at = omega arith in
      rw k at (refilled {n = 0} (omega arith))
