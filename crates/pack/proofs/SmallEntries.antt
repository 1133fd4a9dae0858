-- What entries without fault are.
use mathlib.Core.Path.{◌≡◌}
use mathlib.Core.List.{List}
use Prim.Native.Nat.{ℕ, ◌<◌, ◌≤◌}
use native.Mathlib.Omega.{arith}
use lib.IntN.{ℤ}
use Rattle.rows.specs.Row.{nth}
use Rattle.answer.specs.Answer.{Nowhere}
use Rattle.layout.specs.Book.{size}
use Rattle.layout.specs.Fault.{first_fault}
use Rattle.layout.specs.Layout.{bus_values}
use Rattle.layout.proofs.Faults.{first_sound, sound_bus}
use Rattle.pack.specs.Write.{entry, entry_fault}

pub small_entry : (l : List ℤ) (n k : ℕ) → first_fault (entry_fault l) n ≡ Nowhere → k < n → size (entry l k) ≤ 1048576
small_entry l n k e u = omega (arith, (sound_bus (nth (bus_values (entry l k)) 0) (nth (bus_values (entry l k)) 1) (first_sound (entry_fault l) n e k u)).small)
