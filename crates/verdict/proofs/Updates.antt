-- A true table stays true: proved once from what isn't listed may be kept; and document 01's shortlist lists what may not.
use mathlib.Core.Path.{◌≡◌, refl, sym, ◌∙◌, subst}
use mathlib.Core.Bool.{Bool, true, false, true≢false}
use mathlib.Core.List.{List}
use Prim.Native.Nat.{ℕ, zero, suc, ◌<◌}
use native.Mathlib.Omega.{arith}
use native.Mathlib.Decide.{ℕ_discrete}
use lib.IntN.{ℤ}
use Rattle.rows.proofs.Sum.{side, below, equal, above}
use Rattle.verdict.specs.Case.{Case, Posed, on, Fits}
use Rattle.verdict.specs.Record.{record_at, verdict_in, names, Told, is_out, carries, short, TrueRecord, TrueTable}
use Rattle.verdict.specs.Update.{Shortlisted, not_served, not_carrying, is_touched, names_touched, Lent, Renewed}
use Rattle.verdict.proofs.Islanding.{number_above}
use Rattle.verdict.proofs.Keep.{Wired, keep_reroute, keep_carries}

module _ (P : ℕ → Type 0) (p? : (j : ℕ) → Dec (P j)) where
  -- Some j below n has P.
  pub some? : (n : ℕ) → Dec ((j : ℕ) × (j < n) × P j)
  some? zero = no (λ s. omega (arith, s.1))
  some? (suc n) = elim (p? n) [
    | yes p ↦ yes (n, omega arith, p)
    | no q ↦ elim (some? n) [
      | yes s ↦ yes (s.0, omega (arith, s.1), s.2)
      | no r ↦ no (λ s. elim (side s.0 n) [
        | below d ↦ r (s.0, d, s.2)
        | equal e ↦ q (subst P e s.2)
        | above d ↦ absurd (omega (arith, s.1))
      ])
    ]
  ]

-- The shortlist is decided where the touched set is.
module _ (C : Case) (t : List ℕ) (T : ℕ → Type 0) (touched? : (j : ℕ) → Dec (T j)) (k : ℕ) where
  Hit : ℕ → Type 0
  Hit j = (names (record_at t k) j ≡ true) × T j

  hit? : (j : ℕ) → Dec (Hit j)
  unfolding Hit
  hit? j = go (names (record_at t k) j) refl
    where
      go : (s : Bool) → names (record_at t k) j ≡ s → Dec ((names (record_at t k) j ≡ true) × T j)
      go true e = elim (touched? j) [ yes p ↦ yes (e, p) | no q ↦ no (λ x. q x.1) ]
      go false e = no (λ x. true≢false (sym x.0 ∙ e))

  pub shortlisted? : Dec (Shortlisted C t T k)
  unfolding Hit
  shortlisted? = go (C.served k) refl (ℕ_discrete (verdict_in (record_at t k)) 1) (touched? k) (some? Hit hit? C.branches)
    where
      none : C.served k ≡ true → verdict_in (record_at t k) ≡ 1 → (T k → ⊥) → ((j : ℕ) × (j < C.branches) × ((names (record_at t k) j ≡ true) × T j) → ⊥) → Shortlisted C t T k → ⊥
      none i v n m (not_served o) = true≢false (sym i ∙ o)
      none i v n m (not_carrying o) = o v
      none i v n m (is_touched o) = n o
      none i v n m (names_touched j u e o) = m (j, u, (e, o))

      go : (s : Bool) → C.served k ≡ s → Dec (verdict_in (record_at t k) ≡ 1) → Dec (T k) → Dec ((j : ℕ) × (j < C.branches) × ((names (record_at t k) j ≡ true) × T j)) → Dec (Shortlisted C t T k)
      go false e v n m = yes (not_served e)
      go true e (no v) n m = yes (not_carrying v)
      go true e (yes v) (yes n) m = yes (is_touched n)
      go true e (yes v) (no n) (yes m) = yes (names_touched m.0 m.1 m.2.0 m.2.1)
      go true e (yes v) (no n) (no m) = no (none e v n m)

-- A true table stays true where every listed record is written anew and what isn't listed may be kept: it is as true of D and the new flow as it was of C and the old.
pub stays_true : (C D : Case) (listed : ℕ → Type 0) (before after : Lent) → C.branches ≡ D.branches → ((k : ℕ) → Dec (listed k))
    → ((k : ℕ) → k < D.branches → (listed k → ⊥) → TrueRecord C (on before.flow) k (record_at before.table k) → TrueRecord D (on after.flow) k (record_at before.table k))
    → TrueTable C before.flow before.table → Renewed D listed before after → TrueTable D after.flow after.table
stays_true C D listed before after same listed? may-keep a o = record {
  room = omega (arith, a.room, o.beyond.flow_long);
  long = omega (arith, a.long, o.beyond.table_long);
  fits = o.fits;
  each = λ k l. elim (listed? k) [
    | yes s ↦ o.rewritten k l s
    | no n ↦ rw (o.kept k l n) (may-keep k l n (a.each k (omega arith)))
  ];
}

-- Untouched: the same flow and the same status.
abbrev pub Untouched : Case → Case → List ℤ → List ℤ → ℕ → Type 0
Untouched C D f g j = (on g j ≡ on f j) × (C.served j ≡ D.served j)

-- What may be kept, of a whole record: what document 01's shortlist doesn't name.
pub keep : (C D : Case) (T : ℕ → Type 0) (f g : List ℤ) (t : List ℕ) (k : ℕ) → Wired C D → Posed D → Fits C C.limit (on f) → Fits D D.limit (on g) → k < D.branches
    → ((j : ℕ) → j < D.branches → (T j → ⊥) → Untouched C D f g j) → (Shortlisted D t T k → ⊥) → TrueRecord C (on f) k (record_at t k) → TrueRecord D (on g) k (record_at t k)
keep C D T f g t k w p ff fg lk same n r = record { long = r.long; bytes = r.bytes; told = go r.told }
  where
    here : Untouched C D f g k
    here = same k lk (λ x. n (is_touched x))

    clear : (j : ℕ) → j < D.branches → names (record_at t k) j ≡ true → Untouched C D f g j
    clear j u e = same j u (λ x. n (names_touched j u e x))

    go : Told C (on f) k (record_at t k) → Told D (on g) k (record_at t k)
    go (is_out i v z) = absurd (n (not_carrying (λ e. omega arith)))
    go (short i s v z) = absurd (n (not_carrying (λ e. omega (arith, number_above v))))
    go (carries i c v z m) =
        carries (sym here.1 ∙ i) (keep_carries C D w (on f) (on g) k (record_at t k) p ff fg lk here.0 m clear) v z
        (keep_reroute C D w (on f) (on g) k (record_at t k) p ff fg lk here.0 m clear)
