-- The test of one record: the branch itself, or by its first byte.
use borrow.Author.Rules.{rules}
use mathlib.Core.Path.{ap, ◌∙◌}
use mathlib.Core.Bool.{not}
use Rattle.restore.proofs.ToBeWritten.{by_itself, by_record}
use Rattle.restore.proofs.is_anew.Goals as goal

-- Whatever the code writes for `true` there.
pub returns-then-k-branch : goal.returns-then-k-branch
returns-then-k-branch c = by_itself _ _ _ c.if-k-branch.true (search rules)

pub returns-else-k-branch : goal.returns-else-k-branch
returns-else-k-branch c = ap not c.carries.ensures ∙ by_record _ _ _ c.if-k-branch.false
