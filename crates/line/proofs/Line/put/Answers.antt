-- `put` adds the bytes of a text.
use native.Mathlib.Omega.{arith}
use mathlib.Core.Path.{refl}
use borrow.Rule.Slice.PartMut.{same_len_mid}
use Rattle.line.proofs.Adding.{added_part}
use Rattle.line.proofs.Line.put.Goals as goal

pub returns : goal.returns
returns c =
    let copied = c.copy_from_slice.ensures in
    record { added = added_part _ _ _ c.requires copied.after; short = omega arith; long = same_len_mid _ _ _ _ copied.len; same = refl }
