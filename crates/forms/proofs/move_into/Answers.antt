-- `move_into` writes the bytes of the book in the form asked for.
use Rattle.forms.proofs.Moving.{small_head, moved_bytes_lem}
use Rattle.forms.proofs.move_into.Goals as goal

pub put_head-requires : goal.put_head-requires
put_head-requires c = let s = small_head _ _ c.requires.head c.requires.book in record { few_buses = s.few_buses; few_branches = s.few_branches }

pub move_buses-requires : goal.move_buses-requires
move_buses-requires c = small_head _ _ c.requires.head c.requires.book

pub move_branches-requires : goal.move_branches-requires
move_branches-requires c = small_head _ _ c.requires.head c.requires.book

pub returns : goal.returns
returns c =
    moved_bytes_lem _ _ _ c.requires.head c.requires.book c.args.out.now _ _ _ _ c.requires.exact (c.fill.ensures.after (λ y e. e)) c.put_head.ensures
    c.move_buses.ensures c.move_branches.ensures
