-- The rows that are left decide for all rows.
use Rattle.std.proofs.Common.{◌≡◌}
use Rattle.tree.specs.Rows.{rows_in}
use Rattle.marks.specs.Table.{rows_left}
use Rattle.compare.specs.Tests.{corners_inside}
use Rattle.compare.proofs.tables.corners_inside.Given as goal

abbrev pub invariant-loop-k : goal.invariant-loop-k
invariant-loop-k l = corners_inside l.map (rows_left l.rows l.k) ≡ corners_inside l.map (rows_in l.rows)
