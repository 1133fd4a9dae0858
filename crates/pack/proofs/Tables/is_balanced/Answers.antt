-- Injections without fault are small enough to be summed.
use Rattle.pack.proofs.SmallEntries.{small_entry}
use Rattle.pack.proofs.Tables.is_balanced.Goals as goal

pub is_balanced-requires-clause-small : goal.is_balanced-requires-clause-small
is_balanced-requires-clause-small c = λ k l x e. let s = small_entry c.args.self.injections.now _ k c.requires.2 l in rw e s
