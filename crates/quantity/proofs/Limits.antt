-- The limit of a rating: examples by computation; at 100 it is document 01's, it is never above the kVA, and it rises with the kVA and with the
-- percentage.
use Rattle.std.proofs.Common.{◌≡◌, ℕ, ◌*◌, ◌/◌, ◌≤◌, false, ltb, refl, mul-le-mul, mul-le-mul_left, arith, ltb-false}
use Rattle.rows.proofs.Row.{either_false}
use Rattle.quantity.specs.Rating.{limit_of, percent_out}

-- ---- Document 01's examples, and one in summer.
one_kva : limit_of 1 999 100 ≡ 0
one_kva = refl

thousand_kva : limit_of 1000 999 100 ≡ 999
thousand_kva = refl

-- Rounded down once: 762.28 kW. The kW of the nameplate, 952.85, rounded down before the percentage is taken would give 761.
rounded_once : limit_of 1003 950 80 ≡ 762
rounded_once = refl

rounded_twice : limit_of 1003 950 100 * 80 / 100 ≡ 761
rounded_twice = refl

-- ---- Laws.
-- Document 01: a branch's limit in kW is kVA times power factor divided by 1000, rounded down.
pub limit_full : (kva factor : ℕ) → limit_of kva factor 100 ≡ kva * factor / 1000
limit_full kva factor = omega arith

-- A limit never falls as the percentage rises.
pub limit_by_percent : (kva factor : ℕ) {p q : ℕ} → p ≤ q → limit_of kva factor p ≤ limit_of kva factor q
limit_by_percent kva factor {p} {q} h = let m : kva * factor * p ≤ kva * factor * q = mul-le-mul_left (kva * factor) h in omega arith

pub limit_by_kva : {kva kva2 : ℕ} (factor percent : ℕ) → kva ≤ kva2 → limit_of kva factor percent ≤ limit_of kva2 factor percent
limit_by_kva {kva} {kva2} factor percent h =
    let m : kva * factor * percent ≤ kva2 * factor * percent = mul-le-mul (mul-le-mul h (omega arith)) (omega arith) in omega arith

-- No product on the way is above that of the full power factor at 100, so that kW never come to more than the kVA.
pub times_factor : (kva : ℕ) {factor : ℕ} → factor ≤ 1000 → kva * factor ≤ kva * 1000
times_factor kva f = mul-le-mul_left kva f

pub times_percent : (kva : ℕ) {factor percent : ℕ} → factor ≤ 1000 → percent ≤ 100 → kva * factor * percent ≤ kva * 100000
times_percent kva {factor} {percent} f p =
    let n : kva * factor * percent ≤ kva * factor * 100 = mul-le-mul_left (kva * factor) p in omega (arith, times_factor kva f)

pub limit_within : (kva factor percent : ℕ) → factor ≤ 1000 → percent ≤ 100 → limit_of kva factor percent ≤ kva
limit_within kva factor percent f p = omega (arith, times_percent kva f p)

-- A percentage that isn't refused is at most 100.
pub full_at_most : {percent : ℕ} → percent_out percent ≡ false → percent ≤ 100
unfolding percent_out
full_at_most {percent} e = ltb-false 100 percent (either_false (ltb percent 50) (ltb 100 percent) e).1

-- 100 is in range.
pub full_in_range : percent_out 100 ≡ false
unfolding percent_out
full_in_range = refl
