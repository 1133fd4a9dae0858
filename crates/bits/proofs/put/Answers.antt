-- `put` leaves the low bits of the number in the bits from its place on: the last bit first, and each step by one law.
use native.Mathlib.Omega.{arith}
use native.Mathlib.Numerals.{sub-one}
use mathlib.Core.Path.{◌≡◌, ◌∙◌}
use mathlib.Core.List.{List}
use Prim.Native.Nat.{ℕ, zero, suc, ◌+◌, ◌-◌, ◌/◌, ◌%◌, ◌≤◌, ◌<◌}
use Rattle.bits.specs.Field.{set_bit, put}
use Rattle.bits.proofs.put.Goals as goal

put_step : (out o' : List ℕ) (at i x : ℕ) → 0 < i → o' ≡ set_bit out (at + (i - 1)) (x % 2) → put o' at (i - 1) (x / 2) ≡ put out at i x
unfolding put
put_step out o' at (suc i) x h e = rw e (simp sub-one)
put_step out o' at zero x h e = elim h [ ]

pub loop-i-preserved : goal.loop-i-preserved
loop-i-preserved c = put_step _ _ _ _ _ (omega arith) c.set_bit.ensures ∙ c.loop-i.invariant

end : (out out₀ : List ℕ) (at i x w v : ℕ) → i ≤ 0 → put out at i x ≡ put out₀ at w v → out ≡ put out₀ at w v
unfolding put
end out out₀ at zero x w v h e = e
end out out₀ at (suc _) x w v h e = elim h [ ]

pub returns : goal.returns
returns c = end _ _ _ _ _ _ _ (omega arith) c.loop-i.invariant
