-- In a run, what a call on a branch in service answers beside what the table shows of it. Accepted: it was shown as carrying. Shown as short: refused
-- with 12, by no less. Where both figures are equal on every branch: accepted exactly if shown as carrying, and refused with the shortage and the
-- group shown exactly if shown as short.
use mathlib.Core.Path.{◌≡◌, sym, ◌∙◌}
use mathlib.Core.Bool.{true, true≢false}
use mathlib.Core.List.{List}
use mathlib.Core.Logic.{◌↔◌}
use Prim.Native.Nat.{ℕ, ◌≤◌, ◌<◌}
use native.Mathlib.Omega.{arith}
use lib.IntN.{ℤ}
use lib.ListN.{length, take, drop, length-take, length-drop}
use lib.Seq.{get_or-take, get_or-drop}
use Rattle.rows.specs.Bit.{has}
use Rattle.answer.specs.Answer.{Answer, Accepted, number_of, overloaded, shortage_of}
use Rattle.answer.proofs.Said.{said_overloaded}
use Rattle.bits.specs.Field.{Bytes}
use Rattle.layout.specs.Layout.{branches_in, book_of}
use Rattle.verdict.specs.Case.{Case, Posed, out, on}
use Rattle.verdict.specs.Excess.{NoExcess}
use Rattle.verdict.specs.Record.{record_at, verdict_in, SaysShort, shortage_in, group_in, Told, is_out, carries, short, TrueRecord}
use Rattle.verdict.specs.Update.{Lent}
use Rattle.verdict.proofs.Fitting.{fits_none}
use Rattle.verdict.proofs.Loss.{Level, short_overload, carries_spare, never_overload}
use Rattle.verdict.proofs.Normal.{spare_carries, short_at_most}
use Rattle.verdict.proofs.Islanding.{number_above}
use Rattle.verdict.proofs.Shown.{carries_exactly, short_shows}
use Rattle.forms.proofs.MovedBook.{Equal}
use Rattle.state.specs.Case.{case_in}
use Rattle.state.specs.Call.{OverloadSaid, refuses, unfit, overloads, accepts}
use Rattle.state.proofs.TrueRecords.{group_bytes_lem}
use Rattle.state.proofs.Status.{branches_of, level_of}
use Rattle.state.proofs.OneOverload.{overloaded_same}
use Rattle.outage.specs.Promise.{Confined, TakeEnds}
use Rattle.demands.specs.Run.{Run}
use Rattle.demands.proofs.Ends.{number_of_lem, never_accepted, is_accepted, take_done}
use Rattle.demands.proofs.Demand3.{run_true, run_posed, run_fits, call_confined, equal_reroute, call_checked, posed_out}

-- The group bytes of a record.
abbrev shown_group : List ℕ → List ℕ
shown_group rec = take 16 (drop 4 rec)

module _ (rec : List ℕ) (long : length rec ≡ 52) (bytes : Bytes rec) where
  long_shown : length (shown_group rec) ≡ 16
  long_shown = simp (length-take, length-drop) (omega arith)

  bytes_shown : Bytes (shown_group rec)
  bytes_shown = group_bytes_lem (shown_group rec) long_shown (λ j l. rw (get_or-take 16 (drop 4 rec) j 0 l, get_or-drop 4 rec j 0) (bytes _))

-- What a true record of a branch in service says of the case without it.
data Without (C : Case) (b : ℕ) (rec : List ℕ) : Type 0 where
  spared : verdict_in rec ≡ 1 → NoExcess (out C b) → Without C b rec
  missed : SaysShort rec → OverloadSaid (out C b) (overloaded (shortage_in rec) (shown_group rec)) → Without C b rec

without : (C : Case) (f : ℕ → ℤ) (b : ℕ) (rec : List ℕ) → Posed C → NoExcess C → Level C → C.served b ≡ true → TrueRecord C f b rec → Without C b rec
without C f b rec p h l i t = go t.told
  where
    go : Told C f b rec → Without C b rec
    go (is_out o v z) = absurd (true≢false (sym i ∙ o))
    go (carries o c v z m) = spared v ((carries_spare C b p h l).0 c)
    go (short o s v z) = missed (number_above v) (record {
      shortage = shortage_in rec;
      group = shown_group rec;
      answer = said_overloaded (shortage_in rec) (shown_group rec);
      long = long_shown rec t.long t.bytes;
      bytes = bytes_shown rec t.long t.bytes;
      overload = (short_overload C b (shortage_in rec) (group_in rec) p h l).0 s;
    })

module _ {percent : ℕ} {now : Lent} (run : Run percent now) {after : Lent} {b : ℕ} {r : Answer} (e : TakeEnds percent b now after r)
    (there : b < branches_in now.book)
    (in_service : (case_in percent now.book).served b ≡ true) where
  abbrev rec : List ℕ
  rec = record_at now.table b

  shown : TrueRecord (case_in percent now.book) (on now.flow) b rec
  shown = (run_true run).each b (omega (arith, branches_of percent now.book))

  -- Accepted: it may be taken out for good, so it carries for a short time.
  pub accepted_carried : r ≡ Accepted → verdict_in rec ≡ 1
  accepted_carried a =
      let C = case_in percent now.book in
      (carries_exactly C (run_posed run) (on now.flow) b rec shown in_service).1
      (spare_carries C b (run_posed run)
      (fits_none (out C b) (on after.flow) (posed_out run e there in_service) (take_done e a).took.updated.fits))

  -- Shown as short by v: refused with 12, and by v or more.
  pub short_refused : SaysShort rec → (number_of r ≡ 12) × (shortage_in rec ≤ shortage_of r)
  short_refused v = go e
    where
      go : TakeEnds percent b now after r → (number_of r ≡ 12) × (shortage_in rec ≤ shortage_of r)
      go (refuses n a k) = absurd (n (call_checked run e there in_service))
      go (unfit c n a k) = absurd (n (run_fits run))
      go (overloads c f o k) =
          let C = case_in percent now.book in
          let s = short_shows C (run_posed run) (on now.flow) b rec shown v in (
            o.answer.number_is,
            omega (
              arith,
              o.answer.shortage_is,
              short_at_most C b (shortage_in rec) o.shortage (group_in rec) (has o.group) (run_posed run) s
                  o.overload,
            ),
          )
      go (accepts c f a o) = absurd (omega (arith, v, accepted_carried (is_accepted a)))

  -- Where both figures are equal on every branch, the word shown is the answer.
  module _ (equal : Equal (book_of now.book)) where
    says : Without (case_in percent now.book) b rec
    says =
        let C = case_in percent now.book in
        without C (on now.flow) b rec (run_posed run) (fits_none C (on now.flow) (run_posed run) (run_fits run))
        (level_of percent (book_of now.book) equal) in_service shown

    -- Which of the two it is.
    data Which : Type 0 where
      was_carrying : verdict_in rec ≡ 1 → r ≡ Accepted → Which
      was_short : SaysShort rec → r ≡ overloaded (shortage_in rec) (shown_group rec) → Which

    which : Which
    which = go says e
      where
        go : Without (case_in percent now.book) b rec → TakeEnds percent b now after r → Which
        go w (refuses n a k) = absurd (n (call_checked run e there in_service))
        go w (unfit c n a k) = absurd (n (run_fits run))
        go (spared v h) (overloads c f o k) = absurd (never_overload (out (case_in percent now.book) b) o.shortage (has o.group) h
            o.overload)
        go (spared v h) (accepts c f a o) = was_carrying v (is_accepted a)
        go (missed v x) (overloads c f o k) = was_short v (overloaded_same (out (case_in percent now.book) b) r _ o x)
        go (missed v x) (accepts c f a o) = absurd (omega (arith, v, accepted_carried (is_accepted a)))

    pub accepted_as_shown : (r ≡ Accepted) ↔ (verdict_in rec ≡ 1)
    accepted_as_shown = elim which [
      | was_carrying v a ↦ (λ q. v, λ q. a)
      | was_short v o ↦ (λ q. absurd (never_accepted (number_of_lem o) (λ z. omega arith) q), λ q. absurd (omega arith))
    ]

    pub refused_as_shown : (r ≡ overloaded (shortage_in rec) (take 16 (drop 4 rec))) ↔ SaysShort rec
    refused_as_shown = elim which [
      | was_carrying v a ↦ (λ q. absurd (never_accepted (number_of_lem q) (λ z. omega arith) a), λ q. absurd (omega arith))
      | was_short v o ↦ (λ q. v, λ q. o)
    ]

    -- An accepted call changed flow only on its branch and on branches that its recorded reroute names.
    pub equal_confined : r ≡ Accepted → Confined (case_in percent now.book) (on now.flow) rec b (on after.flow)
    equal_confined a = let h = equal_reroute run e equal there (accepted_carried a) in call_confined run e a h.0 h.1.0 h.1.1
