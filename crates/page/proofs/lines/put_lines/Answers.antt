use Rattle.std.proofs.Common.{arith}
use Rattle.page.proofs.Stores.{row_small, begun_none, begun_next}
use Rattle.page.proofs.lines.put_lines.Goals as goal

pub loop-k-init : goal.loop-k-init
loop-k-init c = begun_none _ _ _

pub loop-k-preserved : goal.loop-k-preserved
loop-k-preserved c =
    begun_next _ _ _ _ c.loop-k.invariant c.six-text.ensures c.requires.0 (row_small _ _ c.loop-k-test.true c.requires.2) (omega arith) c.put_line.ensures
