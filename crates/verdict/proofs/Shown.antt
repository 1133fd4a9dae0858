-- What a true record says, over signed sums: short, and then joined or islanding, carrying or out, and never two of these.
use mathlib.Core.Path.{◌≡◌, sym, ap, ◌∙◌}
use mathlib.Core.Bool.{true, false, true≢false}
use mathlib.Core.List.{List}
use mathlib.Core.Logic.{◌↔◌, ◌⊎◌, inl, inr}
use Prim.Native.Nat.{ℕ, ◌+◌, ◌≤◌, ◌<◌}
use native.Mathlib.Omega.{arith}
use lib.IntN.{ℤ, pos, nat_abs}
use lib.Signed.{◌≤ℤ◌, ◌<ℤ◌}
use Rattle.rows.specs.Sum.{Group}
use Rattle.quantity.specs.Signed.{pos_part, neg_part}
use Rattle.quantity.proofs.Parts.{one_side, size_parts, minus_parts, at_most, neg_pos, neg_neg}
use Rattle.grid.proofs.Net.{gains, loads, ratings}
use Rattle.verdict.specs.Case.{Case, Posed, out, Fits}
use Rattle.verdict.specs.Excess.{P, RWithout, one_end, excess_without, Overload, Short, Carries}
use Rattle.verdict.specs.Island.{Joined, ShortNumber, joined, islands}
use Rattle.verdict.specs.Record.{verdict_in, SaysShort, shortage_in, group_in, Zero, Told, is_out, carries, short, TrueRecord}
use Rattle.verdict.proofs.Plain.{loss_net, power_over, without_above, power_above, overload_plain, short_plain, carries_plain}
use Rattle.verdict.proofs.Loss.{fits_carries, never_both}
use Rattle.verdict.proofs.Islanding.{number_above, number_joined, number_islands, islands_by_flow}
use Rattle.verdict.proofs.Rest.{rest, rest_one_end, rest_without, rest_power}

-- Looking at surplus groups only loses nothing: a deficit group's rest has the same surplus.
pub both_ways_lem : (C : Case) (k v : ℕ) → Posed C → ((T : Group) → one_end C k T ≡ true → excess_without C k T ≤ℤ pos v)
    → (T : Group) → one_end C k T ≡ true → nat_abs (P C T) ≤ RWithout C k T + v
both_ways_lem C k v p h T o =
    omega (
      arith,
      size_parts (P C T),
      one_side (P C T),
      below T o,
      below (rest T) (rest_one_end C T k ∙ o),
      rest_without C T k,
      ap pos_part (rest_power C T p),
      ap neg_part (rest_power C T p),
      neg_pos (P C T),
      neg_neg (P C T),
    )
  where
    below : (T : Group) → one_end C k T ≡ true → pos_part (P C T) ≤ neg_part (P C T) + RWithout C k T + v
    below T o = omega (arith, minus_parts (P C T) (pos (RWithout C k T)), (at_most (excess_without C k T) v).0 (h T o))

-- The group shown of a short branch is a surplus group, and no group has a larger deficit than surplus and shortage allow.
pub short_surplus : (C : Case) (k v : ℕ) (S : Group) → Short C k v S → pos 0 <ℤ P C S
short_surplus C k v S s = let m = (short_plain C k v S).0 s in (power_above C S).1 (omega (arith, m.above, m.smallest.reaches))

pub overload_surplus : (C : Case) (v : ℕ) (S : Group) → Overload C v S → pos 0 <ℤ P C S
overload_surplus C v S o = let m = (overload_plain C v S).0 o in (power_above C S).1 (omega (arith, m.above, m.smallest.reaches))

-- Some group that holds exactly one end of b has a surplus above what the other branches leaving it may carry.
abbrev pub Overrun : Case → ℕ → Type 0
Overrun C b = (S : Group) × (one_end C b S ≡ true) × (pos (RWithout C b S) <ℤ P C S)

module _ (C : Case) (p : Posed C) (f : ℕ → ℤ) (k : ℕ) (rec : List ℕ) (t : TrueRecord C f k rec) where
  -- Out exactly if not in service.
  pub out_exactly : (verdict_in rec ≡ 0) ↔ (C.served k ≡ false)
  out_exactly = (to t.told, from t.told)
    where
      to : Told C f k rec → verdict_in rec ≡ 0 → C.served k ≡ false
      to (is_out i v z) e = i
      to (carries i c v z m) e = absurd (omega arith)
      to (short i s v z) e = absurd (omega (arith, number_above v))

      from : Told C f k rec → C.served k ≡ false → verdict_in rec ≡ 0
      from (is_out i v z) e = v
      from (carries i c v z m) e = absurd (true≢false (sym i ∙ e))
      from (short i s v z) e = absurd (true≢false (sym i ∙ e))

  -- What is shown of a short branch.
  pub short_shows : SaysShort rec → Short C k (shortage_in rec) (group_in rec)
  short_shows e = go t.told
    where
      go : Told C f k rec → Short C k (shortage_in rec) (group_in rec)
      go (is_out i v z) = absurd (omega arith)
      go (carries i c v z m) = absurd (omega arith)
      go (short i s v z) = s

  -- Of a branch that isn't short neither shortage nor group is shown.
  pub else_zero : (SaysShort rec → ⊥) → Zero rec 1 20
  else_zero n = go t.told
    where
      go : Told C f k rec → Zero rec 1 20
      go (is_out i v z) = λ j l u. z j l (omega arith)
      go (carries i c v z m) = z
      go (short i s v z) = absurd (n (number_above v))

  numbered : SaysShort rec → ShortNumber C k (verdict_in rec)
  numbered e = go t.told
    where
      go : Told C f k rec → ShortNumber C k (verdict_in rec)
      go (is_out i v z) = absurd (omega arith)
      go (carries i c v z m) = absurd (omega arith)
      go (short i s v z) = v

  -- What is shown of an islanding branch: its shortage is its whole flow, whichever flow fits.
  pub island_shows : verdict_in rec ≡ 3 → k < C.branches → (g : ℕ → ℤ) → Fits C C.limit g → shortage_in rec ≡ nat_abs (g k)
  island_shows e u g w =
      islands_by_flow C g k p w (shortage_in rec) (group_in rec) u (number_islands (numbered (omega arith)) e) (short_shows (omega arith))

  module _ (in_service : C.served k ≡ true) where
    -- Carries or short, and not both.
    pub one_of_two : (verdict_in rec ≡ 1) ⊎ SaysShort rec
    one_of_two = go t.told
      where
        go : Told C f k rec → (verdict_in rec ≡ 1) ⊎ SaysShort rec
        go (is_out i v z) = absurd (true≢false (sym in_service ∙ i))
        go (carries i c v z m) = inl v
        go (short i s v z) = inr (number_above v)

    pub not_both : Carries C k → (v : ℕ) (S : Group) → Short C k v S → ⊥
    not_both c v S s = never_both C k v S c s

    -- Short exactly if some group holding exactly one end has P(S) above R(S) without k.
    pub short_exactly : SaysShort rec ↔ Overrun C k
    short_exactly = (
      λ e.
          let l = short_shows e in
          (group_in rec, l.admitted, (without_above C k (group_in rec)).1 (omega (arith, l.above, ((short_plain C k (shortage_in rec) (group_in rec)).0 l).smallest.reaches))),
      λ w. from t.told w.0 w.1 ((without_above C k w.0).0 w.2),
    )
      where
        from : Told C f k rec → (S : Group) → one_end C k S ≡ true → loads (loss_net C k) S + ratings (loss_net C k) S < gains (loss_net C k) S
            → SaysShort rec
        from (is_out i v z) S o a = absurd (true≢false (sym in_service ∙ i))
        from (carries i c v z m) S o a = absurd (omega (arith, (carries_plain C k).0 c S o))
        from (short i s v z) S o a = number_above v

    -- 2 exactly if it is short and other branches in service join its ends, 3 exactly if it is short and none do.
    pub joined_exactly : (verdict_in rec ≡ 2) ↔ (Overrun C k × Joined C k)
    joined_exactly = (
      λ e. (short_exactly.0 (omega arith), number_joined (numbered (omega arith)) e),
      λ w. elim (numbered (short_exactly.1 w.0)) [ joined j e ↦ e | islands n e ↦ absurd (n w.1) ],
    )

    pub islands_exactly : (verdict_in rec ≡ 3) ↔ (Overrun C k × (Joined C k → ⊥))
    islands_exactly = (
      λ e. (short_exactly.0 (omega arith), number_islands (numbered (omega arith)) e),
      λ w. elim (numbered (short_exactly.1 w.0)) [ joined j e ↦ absurd (w.1 j) | islands n e ↦ e ],
    )

    -- Carries exactly if none has.
    pub carries_exactly : (verdict_in rec ≡ 1) ↔ ((S : Group) → one_end C k S ≡ true → excess_without C k S ≤ℤ pos 0)
    carries_exactly = (to t.told, from t.told)
      where
        to : Told C f k rec → verdict_in rec ≡ 1 → (S : Group) → one_end C k S ≡ true → excess_without C k S ≤ℤ pos 0
        to (is_out i v z) e S o = absurd (true≢false (sym in_service ∙ i))
        to (carries i c v z m) e S o = c S o
        to (short i s v z) e S o = absurd (omega (arith, number_above v))

        from : Told C f k rec → ((S : Group) → one_end C k S ≡ true → excess_without C k S ≤ℤ pos 0) → verdict_in rec ≡ 1
        from (is_out i v z) h = absurd (true≢false (sym in_service ∙ i))
        from (carries i c v z m) h = v
        from (short i s v z) h =
            absurd (never_both C k (shortage_in rec) (group_in rec) h s)

    -- Short exactly if some such group has a surplus or a deficit above R(S) without k.
    pub short_either : SaysShort rec ↔ ((S : Group) × (one_end C k S ≡ true) × (RWithout C k S < nat_abs (P C S)))
    short_either = (
      λ e. let w = short_exactly.0 e in (w.0, w.1, power_over (P C w.0) (RWithout C k w.0) w.2),
      λ w. elim one_of_two [
        | inl v ↦ absurd (omega (arith, w.2, both_ways_lem C k 0 p (carries_exactly.0 v) w.0 w.1))
        | inr v ↦ v
      ],
    )

    -- Carries exactly if the case without it has a fitting flow.
    pub carries_flow : (verdict_in rec ≡ 1) ↔ ((g : ℕ → ℤ) × Fits (out C k) C.loss_limit g)
    carries_flow = (to t.told, λ w. carries_exactly.1 (fits_carries C w.0 k p w.1))
      where
        to : Told C f k rec → verdict_in rec ≡ 1 → (g : ℕ → ℤ) × Fits (out C k) C.loss_limit g
        to (is_out i v z) e = absurd (omega arith)
        to (carries i c v z m) e = (m.flow, m.fits)
        to (short i s v z) e = absurd (omega (arith, number_above v))
