-- A book written into the first bytes of a space: what stands there, what stands beyond them, and its length.
use mathlib.Core.Path.{◌≡◌, refl, sym, ap, ◌∙◌}
use mathlib.Core.Bool.{Bool, true, false, false≢true}
use mathlib.Core.List.{List, ◌++◌}
use Prim.Native.Nat.{ℕ, ◌≤◌}
use native.Mathlib.Omega.{arith}
use lib.IntN.{ℤ}
use lib.ListN.{length, take, drop}
use lib.Seq.{take_at}
use Rattle.std.proofs.Common.{Some, Ok, Err, is_ok}
use Rattle.std.proofs.lemmas.List.{length-take}
use Rattle.std.proofs.lemmas.Slice.{drop-append-drop}
use Rattle.answer.specs.Answer.{Answer, Accepted}
use Rattle.layout.specs.declared.Form.{Form}
use Rattle.layout.specs.Layout.{bytes_for}
use Rattle.pack.proofs.Given.{write_answer}
use Rattle.pack.specs.Write.{BookWritten}
use Rattle.pack.proofs.Writable.{Writable, write_accepted}
use Rattle.tables.specs.declared.Writing.{Writing}
use Rattle.tables.specs.Inside.{WriteAsked, WriteRun, ran}

-- `is_ok` tells whether an answer is `Accepted`.
pub is_accepted : {t : Bool} (r : Answer) → t ≡ is_ok r → t ≡ true → r ≡ Accepted
is_accepted (Ok u) e h = refl
is_accepted (Err why) e h = absurd (false≢true (sym e ∙ h))

pub is_refused : {t : Bool} (r : Answer) → t ≡ is_ok r → t ≡ false → r ≡ Accepted → ⊥
is_refused r e h a = false≢true (sym h ∙ e ∙ ap is_ok a)

pub written : {f : Form} {n m factor : ℕ} {inj : List ℤ} {bra out out' : List ℕ} {r : Answer}
    → BookWritten f n m factor inj bra out out' r → r ≡ Accepted → Writable f n m factor inj bra (length out)
written {f} {n} {m} {factor} {inj} {bra} {out} w a =
    write_accepted f n m factor inj bra (length out) (sym (write_answer f n m factor inj bra w) ∙ a)

module _ {f : Form} {rest : List ℕ} (injections : List ℤ) (branches : List ℕ) {book last : List ℕ} {w : Writing} {r : Answer}
    (a : WriteAsked rest (length injections) (length branches) (length book) w) (long : length last ≡ length (take w.room book))
    (b : BookWritten f w.buses w.count w.factor (take w.injections injections) (take w.branches branches) (take w.room book) last r) where
  pub written_into : {bytes bytes' : ℕ} → (r ≡ Accepted → bytes' ≡ bytes_for f w.buses w.count) → ((r ≡ Accepted → ⊥) → bytes' ≡ bytes)
      → bytes' ≤ length book → WriteRun f rest injections branches book bytes (last ++ drop w.room book) bytes' (Some 13)
  written_into p q h =
      let k : length last ≡ w.room = omega (arith, long, length-take w.room book, a.few_bytes) in
      ran a.fine refl (rw (← a.buses_is, ← a.count_is, ← a.factor_is, ← a.injections_is, ← a.branches_is, ← a.room_is) (record {
        answer = r;
        written = rw (take_at last (drop w.room book) w.room k) b;
        kept = drop-append-drop w.room book last w.room (omega arith) k;
        if_accepted = p;
        if_refused = q;
        within = h;
      }))
