-- `pack_into` writes the bytes of the tables' book.
use Rattle.pack.proofs.Writable.{write_accepted, written}
use Rattle.pack.proofs.Tables.pack_into.Goals as goal

pub put_head-requires : goal.put_head-requires
put_head-requires c =
    let r = (write_accepted _ _ _ _ _ _ _ c.requires.1).range in
    record { few_buses = r.few_buses; few_branches = r.few_branches }

pub put_buses-requires : goal.put_buses-requires
put_buses-requires c = let w = write_accepted _ _ _ _ _ _ _ c.requires.1 in (w.range.few_buses, w.injections_long)

pub put_branches-requires : goal.put_branches-requires
put_branches-requires c =
    let w = write_accepted _ _ _ _ _ _ _ c.requires.1 in (w.range.few_buses, w.range.few_branches, w.branches_long)

pub returns : goal.returns
returns c =
    written _ _ _ _ _ _ c.args.out.now _ _ _ _ c.requires.0 (c.fill.ensures.after (λ y e. e)) c.put_head.ensures c.put_buses.ensures c.put_branches.ensures
