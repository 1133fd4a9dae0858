-- One status bit made 0 or 1 leaves an accepted book that differs in that status alone.
use mathlib.Core.Path.{◌≡◌}
use mathlib.Core.List.{List}
use Prim.Native.Nat.{ℕ, ◌*◌, ◌<◌}
use native.Mathlib.Nat.{mul-le-mul_left}
use native.Mathlib.Omega.{arith}
use lib.ListN.{length}
use Rattle.answer.specs.Answer.{Accepted}
use Rattle.bits.specs.Field.{set_bit, OneBit}
use Rattle.bits.proofs.ReadAsPut.{set_bit_one}
use Rattle.layout.specs.Book.{with_status}
use Rattle.bits.specs.Fields.{total}
use Rattle.layout.specs.Form.{branch_widths}
use Rattle.layout.specs.Layout.{branches_in, form_in, status_bit, book_of}
use Rattle.layout.specs.Check.{check_of}
use Rattle.layout.proofs.Forms.{wide}
use Rattle.layout.proofs.AcceptedWhere.{accepted_valid}
use Rattle.layout.proofs.StatusChanged.{status_accepted, status_book}

-- A status bit of an accepted book made v: no other bit changes, and the book is the same but for that status.
pub record StatusSet (bs bs' : List ℕ) (k v : ℕ) : Type 0 where
  pub one_bit : OneBit bs bs' (status_bit bs k) v
  pub accepted_still : check_of bs' ≡ Accepted
  pub says : book_of bs' ≡ with_status (book_of bs) k v

pub status_set : (bs bs' : List ℕ) (k v : ℕ) → check_of bs ≡ Accepted → k < branches_in bs → v < 2 → bs' ≡ set_bit bs (status_bit bs k) v → StatusSet bs bs' k v
status_set bs bs' k v e h two q =
    let x = (accepted_valid bs e).exact in
    let room : status_bit bs k < 8 * length bs = omega (arith, (wide (form_in bs)).some, mul-le-mul_left (total (branch_widths (form_in bs))) h) in
    rw q
    (record {
      one_bit = set_bit_one bs (status_bit bs k) v two room;
      accepted_still = status_accepted bs e k v h two;
      says = status_book bs e k v h two;
    })
