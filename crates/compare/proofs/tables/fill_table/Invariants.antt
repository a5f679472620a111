-- The rows that are left fill the map as all rows fill the first one.
use Rattle.std.proofs.Common.{◌≡◌, length}
use Rattle.tree.specs.Rows.{rows_in}
use Rattle.marks.specs.Table.{rows_left}
use Rattle.cells.specs.Held.{filled_by}
use Rattle.compare.proofs.tables.fill_table.Given as goal

abbrev pub invariant-loop-k : goal.invariant-loop-k
invariant-loop-k l = record { long : length l.map ≡ 1024; left : filled_by l.map (rows_left l.rows l.k) ≡ filled_by l.fn.map (rows_in l.rows) }
