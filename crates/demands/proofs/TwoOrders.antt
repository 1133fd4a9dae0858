-- Two different branches switched in either order, from a true table: two outages, two returns, an outage and a return. Any number of them:
-- Orders.antt.
use mathlib.Core.Path.{◌≡◌, refl, sym, ◌∙◌, subst}
use mathlib.Core.Bool.{Bool, true, false, not, ◌&&◌, ◌||◌, cond}
use mathlib.Core.List.{List, [], ◌∷◌}
use Prim.Native.Nat.{ℕ, ◌<◌}
use native.Mathlib.Omega.{arith}
use borrow.Author.Tests.{ne_eqb}
use lib.Dec.{eqb}
use Rattle.rows.specs.Sum.{differ}
use Rattle.rows.proofs.Row.{and_false}
use Rattle.answer.specs.Answer.{Answer, Accepted}
use Rattle.layout.specs.Layout.{branches_in}
use Rattle.verdict.specs.Case.{Case, out}
use Rattle.verdict.specs.Excess.{Spare}
use Rattle.verdict.specs.Record.{TrueTable}
use Rattle.verdict.specs.Update.{Lent}
use Rattle.verdict.proofs.Fewer.{more_none}
use Rattle.state.specs.Case.{case_in}
use Rattle.outage.specs.Promise.{TakeEnds}
use Rattle.restore.specs.Promise.{BackEnds}
use Rattle.demands.specs.Order.{Switching, Step, SwitchEnds, asks, AnotherOrder, ShowSame, EitherOrder}
use Rattle.demands.proofs.Demand3.{Stands, back_stands}
use Rattle.demands.proofs.Returns.{stands_returns}
use Rattle.demands.proofs.Switchings.{SwitchDone, switch_done, passed_stands, left_served}
use Rattle.demands.proofs.Orders.{take_exactly, both_or_neither, order_same}

abbrev asking : ℕ → Bool → Switching
asking b v = record { branch = b; served = v }

abbrev step : Answer → Lent → Step
step r l = record { answer = r; left = l }

other_way : (b c : ℕ) (v w : Bool) → (b ≡ c → ⊥) → AnotherOrder (asking b v ∷ asking c w ∷ []) (asking c w ∷ asking b v ∷ [])
other_way b c v w apart = record {
  once = (λ x. alone b c w x apart, (λ x. refl, tt));
  again = (λ x. alone c b v x (λ e. apart (sym e)), (λ x. refl, tt));
  same = λ x k. swap (not (differ v x) && eqb k b) (not (differ w x) && eqb k c);
}
  where
    alone : (i j : ℕ) (u x : Bool) → (i ≡ j → ⊥) → asks (asking j u ∷ []) x i ≡ false
    alone i j u x n = rw (ne_eqb i j n, and_false (not (differ u x))) refl

    swap : (x y : Bool) → x || (y || false) ≡ y || (x || false)
    swap true true = refl
    swap true false = refl
    swap false true = refl
    swap false false = refl

-- Branch b is to be v, and branch c w.
module _ (percent b c : ℕ) (before one both other too : Lent) (r s r' s' : Answer) (apart : b ≡ c → ⊥)
    (t : TrueTable (case_in percent before.book) before.flow before.table) where
  abbrev calls : List Step
  calls = step r one ∷ step s both ∷ []

  abbrev turned : List Step
  turned = step r' other ∷ step s' too ∷ []

  module _ (v w : Bool) (e : SwitchEnds percent b v before one r) (f : SwitchEnds percent c w one both s)
      (g : SwitchEnds percent c w before other r') (h : SwitchEnds percent b v other too s') where
    left_same : (r ≡ Accepted) × (s ≡ Accepted) → (r' ≡ Accepted) × (s' ≡ Accepted) → ShowSame percent both too
    left_same p q =
        order_same percent before before refl t t (other_way b c v w apart) calls turned (e, (f, tt)) (g, (h, tt))
        (p.0, (p.1, tt)) (q.0, (q.1, tt))

  -- Both of one kind.
  either_order : (v : Bool) → SwitchEnds percent b v before one r → SwitchEnds percent c v one both s
      → SwitchEnds percent c v before other r' → SwitchEnds percent b v other too s'
      → EitherOrder percent r s r' s' both too
  either_order v e f g h =
      let full = both_or_neither percent before before refl t t (other_way b c v v apart) calls turned (e, (f, tt)) (g, (h, tt)) v (none v) in
      let there : (r ≡ Accepted) × (s ≡ Accepted) → (r' ≡ Accepted) × (s' ≡ Accepted) = λ p. let y = full.0 (p.0, (p.1, tt)) in (y.0, y.1.0) in
      record {
        both_or_neither = (there, λ p. let y = full.1 (p.0, (p.1, tt)) in (y.0, y.1.0));
        same = λ p. left_same v v e f g h p (there p);
      }
    where
      none : (v : Bool) (k : ℕ) → asks (asking b v ∷ asking c v ∷ []) (not v) k ≡ false
      none true k = refl
      none false k = refl

module _ {percent : ℕ} {before one both other too : Lent} {r s r' s' : Answer} {b c : ℕ} (apart : b ≡ c → ⊥)
    (t : TrueTable (case_in percent before.book) before.flow before.table) where
  -- ---- Two outages: b and then c, c and then b.
  pub two_outages : TakeEnds percent b before one r → TakeEnds percent c one both s → TakeEnds percent c before other r'
      → TakeEnds percent b other too s' → EitherOrder percent r s r' s' both too
  two_outages e f g h = either_order percent b c before one both other too r s r' s' apart t false e f g h

  -- ---- Two returns.
  pub two_returns : BackEnds percent b before one r → BackEnds percent c one both s → BackEnds percent c before other r'
      → BackEnds percent b other too s' → EitherOrder percent r s r' s' both too
  two_returns e f g h = either_order percent b c before one both other too r s r' s' apart t true e f g h

  -- ---- An outage and a return, where both orders are accepted.
  pub outage_and_return : TakeEnds percent b before one r → BackEnds percent c one both s → BackEnds percent c before other r'
      → TakeEnds percent b other too s'
      → (r ≡ Accepted) × (s ≡ Accepted) → (r' ≡ Accepted) × (s' ≡ Accepted) → ShowSame percent both too
  outage_and_return e f g h = left_same percent b c before one both other too r s r' s' apart t false true e f g h

  -- An outage that is accepted before the return is accepted after it; the other way round it needn't be (`only_after_return` of the examples).
  pub return_first : TakeEnds percent b before one r → BackEnds percent c one both s → BackEnds percent c before other r'
      → TakeEnds percent b other too s'
      → (r ≡ Accepted) × (s ≡ Accepted) → (r' ≡ Accepted) × (s' ≡ Accepted)
  return_first e f g h p = (returned, (take_exactly (back_stands stands g returned) there on_now h).1 spared)
    where
      C : Case
      C = case_in percent before.book

      out_first : SwitchDone percent b false before one
      out_first = switch_done b false e p.0

      stands : Stands percent before
      stands = passed_stands out_first.passes t

      -- c was out of service from the start
      awaits : SwitchDone percent c true one both
      awaits = switch_done c true f p.1

      returned : r' ≡ Accepted
      returned =
          stands_returns stands (omega (arith, out_first.but_status.count, awaits.there))
          (sym (left_served out_first c (λ q. apart (sym q))) ∙ awaits.other) g

      back : SwitchDone percent c true before other
      back = switch_done c true g returned

      there : b < branches_in other.book
      there = omega (arith, back.but_status.count, out_first.there)

      on_now : (case_in percent other.book).served b ≡ true
      on_now = left_served back b apart ∙ out_first.other

      more : (x y s : Bool) → cond x false s ≡ true → cond x false (cond y true s) ≡ true
      more true y s q = q
      more false true s q = refl
      more false false s q = q

      spared : Spare (case_in percent other.book) b
      spared =
          subst (λ (D : Case). Spare D b) (sym back.case_is)
          (more_none C (out C b).served (λ k. cond (eqb k b) false (cond (eqb k c) true (C.served k))) (λ k. more (eqb k b) (eqb k c) (C.served k))
          ((take_exactly stands out_first.there out_first.other e).0 p.0))
