-- Rows that differ at one place: something taken away there, alone there, or nothing left there.
use mathlib.Core.Path.{◌≡◌, refl, sym}
use mathlib.Core.Bool.{Bool, true, false, cond}
use mathlib.Core.List.{List}
use Prim.Native.Nat.{ℕ, ◌+◌, ◌-◌, ◌<◌, ◌≤◌}
use native.Mathlib.Omega.{arith}
use native.Mathlib.Decide.{ℕ_discrete}
use borrow.Author.Tests.{eq-eqb, ne_eqb}
use lib.Dec.{eqb}
use lib.ListN.{length, set, replicate, length-replicate}
use lib.Seq.{get_or-set_same, get_or-set_other}
use Rattle.rows.specs.Row.{nth}
use Rattle.rows.specs.Sum.{pick}
use Rattle.search.specs.declared.Latent.{Latent}
use Rattle.search.proofs.Marking.{blank}
use Rattle.reroute.specs.InsideMoves.{SameAt, NoneAt}
use Rattle.reroute.specs.Inside.{cut_at}

pub pick_sub : (c : Bool) (x y : ℕ) → x ≤ y → pick c (y - x) + pick c x ≡ pick c y
pick_sub true x y l = omega arith
pick_sub false x y l = refl

-- x taken away at place j.
pub set_less : (l : List ℕ) (j x i : ℕ) → j < length l → x ≤ nth l j → nth (set l j (nth l j - x)) i + pick (eqb j i) x ≡ nth l i
set_less l j x i h g = which (ℕ_discrete i j)
  where
    which : Dec (i ≡ j) → nth (set l j (nth l j - x)) i + pick (eqb j i) x ≡ nth l i
    which (yes e) = rw (e, eq-eqb j j refl, get_or-set_same l j (nth l j - x) 0 h) (omega arith)
    which (no n) = rw (get_or-set_other l j i (nth l j - x) 0 n, ne_eqb j i (λ e. n (sym e))) (omega arith)

-- x alone, at place u of a row of zeros.
pub one_at : (n u x i : ℕ) → u < n → nth (set (replicate n 0) u x) i ≡ pick (eqb u i) x
one_at n u x i h = which (ℕ_discrete i u)
  where
    which : Dec (i ≡ u) → nth (set (replicate n 0) u x) i ≡ pick (eqb u i) x
    which (yes e) = rw (e, eq-eqb u u refl) (get_or-set_same (replicate n 0) u x 0 (omega (arith, length-replicate {A = ℕ} n 0)))
    which (no d) = rw (ne_eqb u i (λ e. d (sym e)), get_or-set_other (replicate n 0) u i x 0 d) (blank n i)

-- A row with 0 stored at k is the row without k.
pub set_zero : (l : List ℕ) (k i : ℕ) → k < length l → nth (set l k 0) i ≡ cond (eqb i k) 0 (nth l i)
set_zero l k i h = which (ℕ_discrete i k)
  where
    which : Dec (i ≡ k) → nth (set l k 0) i ≡ cond (eqb i k) 0 (nth l i)
    which (yes e) = rw (e, eq-eqb k k refl) (get_or-set_same l k 0 0 h)
    which (no n) = rw (ne_eqb i k n) (get_or-set_other l k i 0 0 n)

pub cut_same : (latent : Latent) (k j : ℕ) → (j ≡ k → ⊥) → SameAt (cut_at latent k) latent j
cut_same latent k j n = (get_or-set_other latent.ahead k j 0 0 n, get_or-set_other latent.back k j 0 0 n)

pub cut_none : (latent : Latent) (k : ℕ) → k < 256 → length latent.ahead ≡ 256 → length latent.back ≡ 256 → NoneAt (cut_at latent k) k
cut_none latent k h la lb = (get_or-set_same latent.ahead k 0 0 (omega arith), get_or-set_same latent.back k 0 0 (omega arith))
