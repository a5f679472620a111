use Rattle.walks.proofs.UnitRoots.{rooted}
use Rattle.writer.proofs.test.test_rows.Goals as goal

pub test_walk-requires : goal.test_walk-requires
test_walk-requires c = (rooted c.args.root.unit, c.if-rows-ne0.false)
