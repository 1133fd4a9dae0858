-- `rows_with` gives rows that hold an accepted book.
use Rattle.book.proofs.RowsHoldBook.{head_in_range, rows_read}
use Rattle.book.proofs.cases.rows_with.Goals as goal

pub bus_rows-requires : goal.bus_rows-requires
bus_rows-requires c = (head_in_range _ _ c.requires.0 c.requires.1).few_buses

pub branch_rows-requires : goal.branch_rows-requires
branch_rows-requires c =
    let r = head_in_range _ _ c.requires.0 c.requires.1 in
    (record { few_buses = r.few_buses; few_branches = r.few_branches }, r.small_factor, c.requires.2)

pub returns : goal.returns
returns c =
    rows_read _ _ c.requires.0 _ _ _ c.bus_rows.ensures c.branch_rows.ensures
