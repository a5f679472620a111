use Rattle.walks.proofs.UnitRoots.{rooted}
use Rattle.compare.proofs.compare_rows.Goals as goal

pub test_table-requires : goal.test_table-requires
test_table-requires c = rooted c.args.root.unit
