use Rattle.reader.proofs.Ends.{one_more, one_short, one_done}
use Rattle.reader.proofs.deliver.one_row.Goals as goal

pub returns-then-next-flags : goal.returns-then-next-flags
returns-then-next-flags c =
    let a = c.args in
    rw c.at.ensures (one_more a.root a.next a.flags.now a.rows.now c.if-next-flags.true)

pub returns-then-put_row : goal.returns-then-put_row
returns-then-put_row c =
    let a = c.args in
    one_done a.root a.next a.flags.now a.rows.now c.if-next-flags.false _ c.row_word.ensures _ _ c.put_row.ensures c.if-put_row.true

pub returns-else-put_row : goal.returns-else-put_row
returns-else-put_row c =
    let a = c.args in
    rw c.at-else-put_row.ensures (one_short a.root a.next a.flags.now a.rows.now c.if-next-flags.false _ c.row_word.ensures _ _ c.put_row.ensures c.if-put_row.false)
