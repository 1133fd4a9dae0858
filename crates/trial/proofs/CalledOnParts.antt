-- A call on the first places of the spaces: its promise holds of them, and what stands beyond them is as it was.
use mathlib.Core.Path.{◌≡◌, refl}
use mathlib.Core.List.{List, ◌++◌}
use Prim.Native.Nat.{ℕ, ◌≤◌}
use native.Mathlib.Omega.{arith}
use lib.IntN.{ℤ}
use lib.ListN.{length, take, drop}
use lib.Seq.{take_at}
use Rattle.std.proofs.lemmas.List.{length-take}
use Rattle.std.proofs.lemmas.Slice.{drop-append-drop}
use Rattle.answer.specs.Answer.{Answer}
use Rattle.verdict.specs.Update.{Lent}
use Rattle.state.specs.Call.{lent}
use Rattle.trial.specs.InsideCalls.{Called}

-- A space of which the first n places now hold `last`.
pub record Part {A : Type 0} (n : ℕ) (t t' last : List A) : Type 0 where
  pub held : take n t' ≡ last
  pub kept : drop n t' ≡ drop n t

module _ {A : Type 0} {n : ℕ} {t : List A} where
  pub part_lent : {last : List A} → n ≤ length t → length last ≡ length (take n t) → Part n t (last ++ drop n t) last
  part_lent {last} h e =
      let long : length last ≡ n = omega (arith, e, length-take n t) in
      record { held = take_at last (drop n t) n long; kept = drop-append-drop n t last n (omega arith) long }

  -- A part that is only read.
  pub part_read : Part n t t (take n t)
  part_read = record { held = refl; kept = refl }

pub called : (promise : Lent → Lent → Answer → Type 0) (r : Answer) {book book' b : List ℕ} {flow flow' f : List ℤ} {table table' t : List ℕ}
    {n i j i' j' : ℕ} → Part n book book' b → Part i flow flow' f → Part j table table' t → i ≡ i' → j ≡ j'
    → promise (lent (take n book) (take i flow) (take j table)) (lent b f t) r
    → Called promise n i' j' (lent book flow table) (lent book' flow' table')
called promise r p q s e g h =
    rw (← e, ← g) (record { answer = r; ends = rw (p.held, q.held, s.held) h; kept = rw (p.kept, q.kept, s.kept) refl })
