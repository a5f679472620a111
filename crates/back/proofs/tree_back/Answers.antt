use Rattle.std.proofs.Common.{arith}
use Rattle.walks.proofs.Roots.{root_room}
use Rattle.back.proofs.Whole.{starts_first, first_done}
use Rattle.back.proofs.tree_back.Goals as goal

pub root_back-requires : goal.root_back-requires
root_back-requires c =
    let some = c.requires.0 in
    (some, starts_first c.args.rows.now (root_room some.given _ (omega arith)), c.mark_tree.ensures)

pub returns : goal.returns
returns c k root g = first_done c.args.rows.now k root (c.root_back.ensures k root g)
