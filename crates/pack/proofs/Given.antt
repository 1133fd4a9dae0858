-- Which numbers the writer may give; so its answer says document 01's number, and follows from it.
use mathlib.Core.Path.{◌≡◌, refl}
use mathlib.Core.Bool.{not, ◌||◌}
use mathlib.Core.List.{List}
use Prim.Native.Nat.{ℕ, ◌*◌}
use lib.Dec.{ltb}
use lib.IntN.{ℤ}
use lib.ListN.{length}
use Rattle.rows.specs.Row.{member}
use Rattle.answer.specs.declared.Refusal.TheVariants.{CountsOutside, BusWrong, BranchWrong, NotBalanced, TooShort}
use Rattle.answer.specs.Answer.{Answer, Accepted, SaidBy}
use Rattle.answer.proofs.Giving.{Gives}
use Rattle.answer.proofs.Numbers.{gives_if, gives_at, gives_said, said_is}
use Rattle.layout.specs.declared.Form.{Form}
use Rattle.layout.specs.Fault.{first_fault}
use Rattle.layout.specs.Form.{fields}
use Rattle.layout.specs.Layout.{bytes_for}
use Rattle.layout.specs.Check.{outside, balances}
use Rattle.pack.specs.Write.{entry, entry_fault, row_fault, write_check, write_numbers, BookWritten}

pub write_gives : (form : Form) (n m factor : ℕ) (inj : List ℤ) (bra : List ℕ) (room : ℕ) → Gives write_numbers (write_check form n m factor inj bra room)
unfolding write_check member
write_gives form n m factor inj bra room =
    gives_if write_numbers (outside n m factor) CountsOutside _ refl
    (gives_if write_numbers (ltb (length inj) n || ltb (length bra) (fields form * m)) TooShort _ refl
    (gives_at write_numbers (first_fault (entry_fault inj) n) BusWrong _ (λ at. refl)
    (gives_at write_numbers (first_fault (row_fault form n bra) m) BranchWrong _ (λ at. refl)
    (gives_if write_numbers (not (balances n (entry inj))) NotBalanced _ refl
    (gives_if write_numbers (ltb room (bytes_for form n m)) TooShort Accepted refl tt)))))

module _ (form : Form) (n m factor : ℕ) (inj : List ℤ) (bra : List ℕ) where
  pub write_said : (room : ℕ) {r : Answer} → r ≡ (write_check form n m factor inj bra room) → SaidBy (write_check form n m factor inj bra room) r
  unfolding member
  write_said room = gives_said write_numbers (write_check form n m factor inj bra room) refl (write_gives form n m factor inj bra room)

  pub write_answer : {out out' : List ℕ} {r : Answer} → BookWritten form n m factor inj bra out out' r → r ≡ (write_check form n m factor inj bra (length out))
  unfolding member
  write_answer {out} d = said_is write_numbers _ refl (write_gives form n m factor inj bra (length out)) d.answer
