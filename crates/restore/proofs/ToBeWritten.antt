-- The records to be written anew, as the code tests them, are those of the promise.
use mathlib.Core.Path.{◌≡◌, refl, sym, ap, ◌∙◌}
use mathlib.Core.Bool.{Bool, true, false, not, ◌||◌}
use mathlib.Core.List.{List}
use Prim.Native.Nat.{ℕ}
use native.Mathlib.Decide.{ℕ_discrete}
use borrow.Author.Tests.{eq-eqb, ne_eqb}
use lib.Dec.{eqb}
use Rattle.rows.proofs.Row.{or_true}
use Rattle.verdict.specs.Record.{record_at, verdict_in}
use Rattle.restore.specs.Inside.{anew_if, anew_at}
use Rattle.restore.specs.Promise.{Anew, itself, not_carrying}

-- ---- The test of one record.
module _ (rec : List ℕ) (b k : ℕ) where
  pub by_itself : {told : Bool} → k ≡ b → told ≡ true → told ≡ anew_if rec b k
  unfolding anew_if
  by_itself e t = t ∙ rw (eq-eqb k b e) refl

  pub by_record : (k ≡ b → ⊥) → not (eqb (verdict_in rec) 1) ≡ anew_if rec b k
  unfolding anew_if
  by_record n = rw (ne_eqb k b n) refl

-- The test on a stretch is that of the record.
pub tested : (table : List ℕ) (b k : ℕ) {rec : List ℕ} {t v : Bool} → t ≡ anew_if rec b k → rec ≡ record_at table k → t ≡ v → anew_at table b k ≡ v
unfolding anew_at
tested table b k {rec} i r e = sym (ap (λ (x : List ℕ). anew_if x b k) r) ∙ sym i ∙ e

module _ (table : List ℕ) (b k : ℕ) where
  pub anew_listed : Anew table b k → anew_at table b k ≡ true
  unfolding anew_at anew_if
  anew_listed (itself e) = rw (eq-eqb k b e) refl
  anew_listed (not_carrying n) = rw (ne_eqb (verdict_in (record_at table k)) 1 n) (or_true (eqb k b))

  pub anew_unlisted : (Anew table b k → ⊥) → anew_at table b k ≡ false
  unfolding anew_at anew_if
  anew_unlisted n = go (ℕ_discrete k b) (ℕ_discrete (verdict_in (record_at table k)) 1)
    where
      go : Dec (k ≡ b) → Dec (verdict_in (record_at table k) ≡ 1) → (eqb k b || not (eqb (verdict_in (record_at table k)) 1)) ≡ false
      go (yes e) d = absurd (n (itself e))
      go (no m) (no v) = absurd (n (not_carrying v))
      go (no m) (yes v) = rw (ne_eqb k b m, eq-eqb (verdict_in (record_at table k)) 1 v) refl

-- Which records are written anew is decided.
pub anew? : (table : List ℕ) (b k : ℕ) → Dec (Anew table b k)
anew? table b k = go (ℕ_discrete k b) (ℕ_discrete (verdict_in (record_at table k)) 1)
  where
    none : (k ≡ b → ⊥) → verdict_in (record_at table k) ≡ 1 → Anew table b k → ⊥
    none n v (itself e) = n e
    none n v (not_carrying m) = m v

    go : Dec (k ≡ b) → Dec (verdict_in (record_at table k) ≡ 1) → Dec (Anew table b k)
    go (yes e) d = yes (itself e)
    go (no n) (no v) = yes (not_carrying v)
    go (no n) (yes v) = no (none n v)
