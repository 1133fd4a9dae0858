-- An outage or a return keeps a true table true.
use mathlib.Core.Path.{◌≡◌, refl, sym}
use mathlib.Core.Bool.{false}
use Prim.Native.Nat.{ℕ}
use native.Mathlib.Decide.{ℕ_discrete}
use lib.IntN.{ℤ, ℤ_discrete}
use mathlib.Core.List.{List}
use Rattle.verdict.specs.Case.{Case, Posed, out, back, on}
use Rattle.verdict.specs.Record.{record_at, verdict_in, TrueTable}
use Rattle.verdict.specs.Update.{Lent}
use Rattle.verdict.proofs.Fitting.{served_other, posed_status}
use Rattle.verdict.proofs.Keep.{Wired, stable}
use Rattle.verdict.proofs.Updates.{Untouched, shortlisted?, keep, stays_true}
use Rattle.verdict.proofs.Back.{keep_back}
use Rattle.state.specs.Case.{case_in}
use Rattle.outage.specs.Promise.{Touched, itself, changed, TakenOut}
use Rattle.restore.specs.Promise.{Anew, not_carrying, BroughtBack}
use Rattle.restore.proofs.ToBeWritten.{anew?}

-- ---- An outage.
pub touched? : (f g : ℕ → ℤ) (b j : ℕ) → Dec (Touched f g b j)
touched? f g b j = go (ℕ_discrete j b) (ℤ_discrete (f j) (g j))
  where
    none : (j ≡ b → ⊥) → f j ≡ g j → Touched f g b j → ⊥
    none n e (itself q) = n q
    none n e (changed d) = d e

    go : Dec (j ≡ b) → Dec (f j ≡ g j) → Dec (Touched f g b j)
    go (yes e) d = yes (itself e)
    go (no n) (yes e) = no (none n e)
    go (no n) (no d) = yes (changed d)

wired_out : (C : Case) (b : ℕ) → Wired C (out C b)
wired_out C b = record { same_buses = refl; same_branches = refl; same_first = refl; same_second = refl; same_limit = refl }

untouched : (C : Case) (f g : List ℤ) (b j : ℕ) → (Touched (on f) (on g) b j → ⊥) → Untouched C (out C b) f g j
untouched C f g b j n = (sym (stable (on f j) (on g j) (λ d. n (changed d))), sym (served_other C b false j (λ e. n (itself e))))

pub call_true : {percent b : ℕ} {before after : Lent} → Posed (case_in percent before.book) → TakenOut percent b before after
    → TrueTable (case_in percent before.book) before.flow before.table
    → TrueTable (out (case_in percent before.book) b) after.flow after.table
call_true {percent} {b} {before} {after} p o t =
    let C = case_in percent before.book in
    let T = Touched (on before.flow) (on after.flow) b in
    stays_true C (out C b) _ before after refl (shortlisted? (out C b) before.table T (touched? (on before.flow) (on after.flow) b))
    (λ k l n r. keep C (out C b) T before.flow after.flow before.table k (wired_out C b) (posed_status C b false p) t.fits o.updated.fits l
    (λ j u m. untouched C before.flow after.flow b j m) n r)
    t o.updated

-- ---- A return.
-- A record that isn't written anew has byte 0 = 1.
carrying : (table : List ℕ) (b k : ℕ) → (Anew table b k → ⊥) → verdict_in (record_at table k) ≡ 1
carrying table b k n = elim (ℕ_discrete (verdict_in (record_at table k)) 1) [ yes v ↦ v | no m ↦ absurd (n (not_carrying m)) ]

-- Every record that isn't written anew is as true of the changed book and of the same flow.
pub back_true : {percent b : ℕ} {before after : Lent} → Posed (case_in percent before.book) → (case_in percent before.book).served b ≡ false
    → BroughtBack percent b before after
    → TrueTable (case_in percent before.book) before.flow before.table
    → TrueTable (back (case_in percent before.book) b) after.flow after.table
back_true {percent} {b} {before} {after} p off o t =
    let C = case_in percent before.book in
    stays_true C (back C b) _ before after refl (anew? before.table b)
    (λ k l n r. rw o.flow_is
    (keep_back C b off (on before.flow) k (record_at before.table k) p t.fits l (carrying before.table b k n) r))
    t o.renewed
