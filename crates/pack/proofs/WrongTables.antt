-- Tables that are refused with a place are wrong there.
use mathlib.Core.Path.{◌≡◌, refl, sym, ap, subst, ◌∙◌}
use mathlib.Core.Bool.{not, ◌||◌}
use mathlib.Core.List.{List}
use Prim.Native.Nat.{ℕ, ◌+◌, ◌*◌}
use lib.Dec.{ltb}
use lib.IntN.{ℤ}
use lib.ListN.{length}
use Rattle.rows.specs.Row.{nth}
use Rattle.answer.specs.Answer.{Answer, Accepted, At, number_of, place_of}
use Rattle.answer.proofs.Refusals.{if_nowhere, placed_past}
use Rattle.layout.specs.declared.Form.{Form}
use Rattle.layout.specs.Form.{fields}
use Rattle.layout.specs.Layout.{bytes_for, bus_values}
use Rattle.layout.specs.Check.{outside, balances}
use Rattle.layout.proofs.Places.{wrong_of}
use Rattle.pack.specs.Write.{entry, WrongTables, write_check}

pub write_wrong : (f : Form) (n m factor : ℕ) (inj : List ℤ) (bra : List ℕ) (room : ℕ) {i j : ℕ}
    → place_of (write_check f n m factor inj bra room) ≡ At i j
    → WrongTables f n m inj bra (number_of (write_check f n m factor inj bra room)) i j
unfolding write_check
write_wrong f n m factor inj bra room {i} {j} e =
    let p = placed_past (outside n m factor) _ _ refl e in
    let q = placed_past (ltb (length inj) n || ltb (length bra) (fields f * m)) _ _ refl (ap place_of (sym p) ∙ e) in
    subst (λ (o : Answer). WrongTables f n m inj bra (number_of o) i j) (sym (p ∙ q))
    (wrong_of f n m (λ k. bus_values (entry inj k)) (λ k i. nth bra (fields f * k + i)) _
    (if_nowhere (not (balances n (entry inj))) _ _ refl (if_nowhere (ltb room (bytes_for f n m)) _ Accepted refl refl)) (ap place_of (sym (p ∙ q)) ∙ e))
