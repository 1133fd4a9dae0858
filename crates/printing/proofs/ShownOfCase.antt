-- What a true record shows follows from the case alone: out, carries, or short or islands with the shortage and group of any that is the largest and
-- smallest.
use mathlib.Core.Path.{◌≡◌, refl, sym, ap, ◌∙◌}
use mathlib.Core.Bool.{Bool, true, false}
use mathlib.Core.List.{List, ◌++◌}
use Prim.Native.Nat.{ℕ, ◌≤◌}
use native.Mathlib.Omega.{arith}
use borrow.Author.Tests.{eq-eqb, ne_eqb}
use lib.IntN.{ℤ}
use lib.ListN.{take, drop}
use Rattle.rows.specs.Sum.{Group}
use Rattle.verdict.specs.Case.{Case}
use Rattle.verdict.specs.Excess.{Largest, Short, Carries}
use Rattle.verdict.specs.Island.{Joined, ShortNumber, joined, islands}
use Rattle.verdict.specs.Record.{verdict_in, shortage_in, group_in, Told, is_out, carries, short}
use Rattle.verdict.proofs.Loss.{never_both}
use Rattle.verdict.proofs.Islanding.{number_above, number_same}
use Rattle.verdict.proofs.VerdictByCase.{clash, largest_unique}
use Rattle.rows.specs.Bit.{has}
use Rattle.line.specs.Text.{next_of}
use Rattle.line.specs.AnswerText.{members_text}
use Rattle.line.proofs.Members.{members_same}
use Rattle.printing.specs.Lines.{out_word, carries_word, short_word, islands_word, missing_word, short_text, shown_text}

-- Shortage and members, the members counted over the n buses that there are.
abbrev pub short_over : ℕ → ℕ → Group → List ℕ
short_over n v S = next_of v ++ members_text n S

-- A shortage with a group in 16 bytes, and any that is the largest value with its smallest group.
pub short_over_lem : {n : ℕ} {among : Group → Bool} {e : Group → ℤ} {v w : ℕ} {S : Group} (group : List ℕ)
    → n ≤ 128 → Largest n among e v S → Largest n among e w (has group) → short_text w group ≡ short_over n v S
short_over_lem {n} {v = v} {w} {S} group few s r =
    let one = largest_unique s r in
    let m : members_text 128 (has group) ≡ members_text n S = members_same n 128 S (has group) few s.beyond one.1 in
    rw (one.0, m) refl

module _ (C : Case) (few : C.buses ≤ 128) (k : ℕ) (rec : List ℕ) where
  pub shows_out : (f : ℕ → ℤ) → Told C f k rec → C.served k ≡ false → shown_text rec ≡ out_word
  shows_out f (is_out i v z) h = rw (eq-eqb (verdict_in rec) 0 v) refl
  shows_out f (carries i c v z m) h = clash i h
  shows_out f (short i s v z) h = clash i h

  pub shows_carries : (f : ℕ → ℤ) → Told C f k rec → C.served k ≡ true → Carries C k → shown_text rec ≡ carries_word
  shows_carries f (is_out i v z) h c = clash h i
  shows_carries f (carries i c' v z m) h c = rw v refl
  shows_carries f (short i s v z) h c = absurd (never_both C k (shortage_in rec) (group_in rec) c s)

  -- Short by v with the group S, and numbered n.
  pub shows_missing : (f : ℕ → ℤ) → Told C f k rec → C.served k ≡ true → (v n : ℕ) (S : Group) → Short C k v S → ShortNumber C k n
      → shown_text rec ≡ missing_word n ++ short_over C.buses v S
  shows_missing f (is_out i v' z) h v n S s m = clash h i
  shows_missing f (carries i c v' z m') h v n S s m = absurd (never_both C k v S c s)
  shows_missing f (short i s' v' z) h v n S s m =
      rw (number_same v' m, ne_eqb n 0 (λ e. omega (arith, number_above m)), ne_eqb n 1 (λ e. omega (arith, number_above m)))
      (ap (λ (t : List ℕ). missing_word n ++ t) (short_over_lem (take 16 (drop 4 rec)) few s s'))

  pub shows_short : (f : ℕ → ℤ) → Told C f k rec → C.served k ≡ true → (v : ℕ) (S : Group) → Short C k v S → Joined C k
      → shown_text rec ≡ short_word ++ short_over C.buses v S
  shows_short f t h v S s j = shows_missing f t h v 2 S s (joined j refl)

  pub shows_islands : (f : ℕ → ℤ) → Told C f k rec → C.served k ≡ true → (v : ℕ) (S : Group) → Short C k v S → (Joined C k → ⊥)
      → shown_text rec ≡ islands_word ++ short_over C.buses v S
  shows_islands f t h v S s n = shows_missing f t h v 3 S s (islands n refl)

-- Two true records of a branch show the same, whatever flow each belongs to.
pub shows_same : (C : Case) → C.buses ≤ 128 → (k : ℕ) (r s : List ℕ) (f g : ℕ → ℤ) → Told C f k r → Told C g k s → shown_text r ≡ shown_text s
shows_same C few k r s f g (is_out i v z) b = shows_out C few k r f (is_out i v z) i ∙ sym (shows_out C few k s g b i)
shows_same C few k r s f g (carries i c v z m) b = shows_carries C few k r f (carries i c v z m) i c ∙ sym (shows_carries C few k s g b i c)
shows_same C few k r s f g (short i l v z) b =
    shows_missing C few k r f (short i l v z) i (shortage_in r) (verdict_in r) (group_in r) l v
    ∙ sym (shows_missing C few k s g b i (shortage_in r) (verdict_in r) (group_in r) l v)
