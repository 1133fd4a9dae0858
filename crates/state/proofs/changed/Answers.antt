-- `changed` sets the bits of the branches, other than one, on which two rows differ.
use borrow.Author.Rules.{rules}
use Rattle.state.proofs.BranchByBranch.{changed_by}
use Rattle.state.proofs.changed.Goals as goal

pub returns : goal.returns
returns c =
    let m = c.marked.ensures in
    changed_by (record { long = m.long; bytes = m.bytes; told = λ k u. let p = m.told k u in search rules; beyond = m.beyond })
