-- `list_line_in` adds its word, the list, and the newline last, whether the write fails or not.
use borrow.Author.Rules.{rules}
use mathlib.Core.Path.{refl}
use Rattle.line.proofs.Adding.{adds_then, adds_first}
use Rattle.line.proofs.whole.list_line_in.Goals as goal

pub returns-clause-added : goal.returns-clause-added
returns-clause-added g c =
    let all = adds_first refl (adds_then c.put.ensures (adds_then c.put_all.ensures c.write.ensures.added)) in
    search rules

pub returns-in_err-write-clause-added : goal.returns-in_err-write-clause-added
returns-in_err-write-clause-added g c =
    let all = adds_first refl (adds_then c.put.ensures (adds_then c.put_all.ensures c.write.ensures.added)) in
    search rules
