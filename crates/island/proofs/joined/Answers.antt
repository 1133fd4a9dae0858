-- Shut, the branch is no way; whether the others lead from its first end to its second.
use borrow.Author.Rules.{rules}
use mathlib.Core.Path.{◌≡◌}
use lib.ListN.{length}
use Rattle.island.proofs.Ways.{joining}
use Rattle.island.proofs.joined.Goals as goal

pub returns : goal.returns
returns c =
    let long : length c.args.ways ≡ 256 = search rules in
    joining c.requires.0 c.requires.1 long (rw (c.from.ensures, c.from-2.ensures) at c.leads.ensures)
