-- Each record is tested on its stretch.
use borrow.Author.Rules.{rules}
use Rattle.shortlist.specs.Inside.{listed_at}
use Rattle.shortlist.proofs.shortlist.Goals as goal

pub returns : goal.returns
unfolding listed_at
returns c =
    let m = c.marked.ensures in
    record { bit = λ k u. let p = m.told k u in search rules }
