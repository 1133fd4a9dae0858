-- Each record is tested on its stretch.
use borrow.Author.Rules.{rules}
use Rattle.restore.specs.Inside.{anew_at}
use Rattle.restore.proofs.anew.Goals as goal

pub returns : goal.returns
unfolding anew_at
returns c =
    let m = c.marked.ensures in
    record { bit = λ k u. let p = m.told k u in search rules }
