-- `write` leaves the 52 bytes of the record.
use borrow.Author.Rules.{rules}
use native.Mathlib.Omega.{arith}
use mathlib.Core.Path.{◌∙◌, ap}
use lib.ListN.{take, drop}
use mathlib.Core.List.{List}
use Prim.Native.Nat.{ℕ}
use Rattle.record.proofs.Made.{made}
use Rattle.record.proofs.write.Goals as goal

pub returns : goal.returns
returns c =
    let a = c.args in
    made a.rec.now a.verdict a.shortage _ _ _ a.group a.reroute (omega arith) (omega arith) (search rules) (search rules)
    (c.copy_from_slice.ensures.after ∙ ap (λ (l : List ℕ). take 3 (drop 1 l)) c.to_be_bytes.ensures)
    c.copy_from_slice-2.ensures.after
    c.copy_from_slice-3.ensures.after
