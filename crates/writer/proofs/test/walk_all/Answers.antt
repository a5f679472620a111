use Rattle.tree.specs.Kind.{luma}
use Rattle.walks.specs.Rooted.{Given}
use Rattle.writer.proofs.test.walk_all.Goals as goal
use Rattle.writer.proofs.test.walk_all.Goals.{After-out}

-- what the walk is given
given : (c : After-out) → Given (luma c.args.l) c.args.root c.luma_table-u.result c.row_word-row.result c.out.result c.open_splits-splits.result
given c = record { rooted = c.requires.0; table = c.luma_table-u.ensures; row_is = c.row_word-row.ensures; out_is = c.out.ensures; splits_are = c.open_splits-splits.ensures }

pub tree_back-requires : goal.tree_back-requires
tree_back-requires c = (record { kind = luma c.args.l; root = c.args.root; given = given (goal.at.tree_back-requires c).After-out }, c.requires.1, c.told-scratch)

pub returns : goal.returns
returns c = c.tree_back.ensures (luma c.args.l) c.args.root (given (goal.at.returns c).After-out)
