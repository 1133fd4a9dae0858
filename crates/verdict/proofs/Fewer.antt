-- Limits only fall where fewer branches are in service: a case without an excess has none with more of them.
use mathlib.Core.Path.{◌≡◌, refl, ap, fun_ext}
use mathlib.Core.Bool.{Bool, true, false, not, ◌&&◌, ◌||◌, cond}
use Prim.Native.Nat.{ℕ, ◌≤◌}
use native.Mathlib.Omega.{arith}
use lib.Dec.{eqb}
use Rattle.rows.specs.Sum.{Group, pick}
use Rattle.rows.proofs.Sum.{over_le, pick_le}
use Rattle.grid.proofs.Net.{crosses, ratings}
use Rattle.verdict.specs.Case.{Case, with_statuses, out, out_all}
use Rattle.verdict.specs.Excess.{NoExcess}
use Rattle.verdict.proofs.Plain.{base, no_excess_plain}

module _ (C : Case) (s t : ℕ → Bool) (more : (k : ℕ) → s k ≡ true → t k ≡ true) where
  served_more : (k x : ℕ) → pick (s k) x ≤ pick (t k) x
  served_more k x = go (s k) refl
    where
      go : (v : Bool) → s k ≡ v → pick (s k) x ≤ pick (t k) x
      go true e = rw (e, more k e) (omega arith)
      go false e = rw e (omega arith)

  pub more_none : NoExcess (with_statuses C s) → NoExcess (with_statuses C t)
  more_none h = (no_excess_plain (with_statuses C t)).1 (λ S. omega (arith, (no_excess_plain (with_statuses C s)).0 h S, fewer S))
    where
      fewer : (S : Group) → ratings (base (with_statuses C s)) S ≤ ratings (base (with_statuses C t)) S
      fewer S = over_le C.branches _ _ _ _ (λ k u. pick_le (crosses (base C) S k) _ _ (served_more k (C.limit k)))

-- A case without an excess where all of T are out has none where they are in.
pub out_all_none : (C : Case) (T : Group) → NoExcess (out_all C T) → NoExcess C
out_all_none C T = more_none C (out_all C T).served C.served (λ k e. still (C.served k) (T k) e)
  where
    still : (s t : Bool) → s && not t ≡ true → s ≡ true
    still true t e = refl
    still false t e = e

-- One after another: b out, and then all of T.
pub out_all_next : (C : Case) (b : ℕ) (T : Group) → out_all C (λ k. eqb k b || T k) ≡ out_all (out C b) T
out_all_next C b T = ap (with_statuses C) (fun_ext (λ k. one (eqb k b) (C.served k) (T k)))
  where
    one : (q s t : Bool) → s && not (q || t) ≡ cond q false s && not t
    one true true t = refl
    one true false t = refl
    one false s t = refl
