-- The injections of a book are small enough to be summed.
use native.Mathlib.Omega.{arith}
use Rattle.layout.proofs.Balanced.{small_field}
use Rattle.book.proofs.is_balanced.Goals as goal

pub is_balanced-requires-clause-small : goal.is_balanced-requires-clause-small
is_balanced-requires-clause-small c = λ k l x e. rw e (small_field c.args.book.now k (omega (arith, c.requires)))
