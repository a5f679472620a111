use Rattle.tree.specs.Kind.{luma}
use Rattle.walks.specs.Rooted.{Given}
use Rattle.writer.proofs.Whole.{leads_all, leads_some}
use Rattle.writer.proofs.test.stuck_end.Goals as goal
use Rattle.writer.proofs.test.stuck_end.Goals.{After-out}

-- what the search is given
given : (c : After-out) → Given (luma c.args.l) c.args.root c.luma_table-u.result c.row_word-row.result c.out.result c.open_splits-splits.result
given c = record { rooted = c.requires.0; table = c.luma_table-u.ensures; row_is = c.row_word-row.ensures; out_is = c.out.ensures; splits_are = c.open_splits-splits.ensures }

pub leading_rows-leading-requires : goal.leading_rows-leading-requires
leading_rows-leading-requires c = (record { kind = luma c.args.l; root = c.args.root; given = given (goal.at.leading_rows-leading-requires c).After-out }, c.requires.1)

pub returns-then-leading-rows : goal.returns-then-leading-rows
returns-then-leading-rows c =
    let a = c.args in
    rw c.at.ensures (leads_all c.requires.0 a.rows.now (c.leading_rows-leading.ensures (luma a.l) a.root (given (goal.at.returns-then-leading-rows c).After-out)) c.if-leading-rows.true)

pub returns-else-leading-rows : goal.returns-else-leading-rows
returns-else-leading-rows c =
    let a = c.args in
    rw c.at-else-leading-rows.ensures (leads_some c.requires.0 a.rows.now (c.leading_rows-leading.ensures (luma a.l) a.root (given (goal.at.returns-else-leading-rows c).After-out)) c.if-leading-rows.false)
