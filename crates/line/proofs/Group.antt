-- The buses of a group as they are added to a line.
use mathlib.Core.Path.{◌≡◌, refl}
use mathlib.Core.Bool.{true, false, cond}
use mathlib.Core.List.{List, []}
use Prim.Native.Nat.{ℕ, ◌+◌, ◌*◌}
use native.Mathlib.Omega.{arith}
use mathlib.Core.List.{append-nil}
use Rattle.rows.specs.Bit.{has}
use Rattle.line.specs.declared.Line.{Line}
use Rattle.line.specs.Text.{next_of, joined}
use Rattle.line.specs.Inside.{Adds}
use Rattle.line.proofs.Adding.{adds_none, adds_then, adds_as}
use Rattle.rows.specs.Sum.{size}
use Rattle.line.specs.AnswerText.{group_text}
use Rattle.line.proofs.Joined.{joined_none, joined_more}

-- Bus i where it is in the group.
abbrev pub member_text : List ℕ → ℕ → List ℕ
member_text group i = cond (has group i) (next_of i) []

pub member_none : (group : List ℕ) (a : Line) → Adds (joined 0 (member_text group)) (21 * 0) a a
member_none group a = rw (joined_none (member_text group)) (adds_none a)

module _ (group : List ℕ) (i : ℕ) {a b : Line} (p : Adds (joined i (member_text group)) (21 * i) a b) where
  pub member_in : {c : Line} → has group i ≡ true → Adds (next_of i) 21 b c → Adds (joined (i + 1) (member_text group)) (21 * (i + 1)) a c
  member_in e q = adds_as (rw (joined_more i (member_text group), e) refl) (omega arith) (adds_then p q)

  pub member_out : has group i ≡ false → Adds (joined (i + 1) (member_text group)) (21 * (i + 1)) a b
  member_out e = adds_as (rw (joined_more i (member_text group), e, append-nil (joined i (member_text group))) refl) (omega arith) p

-- The count, then all the members.
pub group_added : (group : List ℕ) {count i : ℕ} {a b c : Line} → count ≡ size 128 (has group) → Adds (next_of count) 21 a b → i ≡ 128
    → Adds (joined i (member_text group)) (21 * i) b c → Adds (group_text group) 2709 a c
group_added group {i = i} e p h q =
    adds_then (rw e at p) (rw h at q)
