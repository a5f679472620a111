-- The comparison as the code makes it, by a map of the other table, and what it asks of the two tables.
use Rattle.std.specs.Prelude.{ℕ, ◌≤◌, ◌≡◌, Bool, ◌&&◌, List, get_or}
use Rattle.tree.specs.declared.Node.{Node}
use Rattle.tree.specs.Kind.{Kind}
use Rattle.tree.specs.Rows.{Row, rows_in}
use Rattle.blocks.specs.RowNumbers.{row_word}
use Rattle.laws.specs.Every.{Every}
use Rattle.laws.specs.Geometry.{copies}
use Rattle.nodes.specs.RowNodes.{node_in}
use Rattle.refusals.specs.Said.{Accepted}
use Rattle.unit.specs.Answers.{answer_of}
use Rattle.unit.specs.Writer.{test_rows}
use Rattle.cells.specs.Map.{cell_at}
use Rattle.cells.specs.Held.{Celled}
use Rattle.compare.specs.Finer.{every_row, span_in}

-- a node lies inside another
abbrev pub node_inside : Node → Node → Bool
node_inside n b = span_in n.x n.w b.x b.w && span_in n.y n.h b.y b.h

-- a row, as one number, lies inside the row that the map has at its corner
abbrev pub corner_inside : List ℕ → ℕ → Bool
corner_inside map row = node_inside (node_in row) (node_in (get_or map (cell_at (node_in row).x (node_in row).y) 0))

-- and every row of a table does
abbrev pub corners_inside : List ℕ → List Row → Bool
corners_inside map rows = every_row (λ r. corner_inside map (row_word r)) rows

-- rows of whole cells in one square of 128 by 128, no sample twice
pub record Tiles (rows : List Row) : Type 0 where
  pub across : ℕ
  pub down : ℕ
  pub celled : Every (Celled across down) rows
  pub once : (px py : ℕ) → copies px py rows ≤ 1

-- two tables with the same samples
pub record Comparable (rows others : List Row) : Type 0 where
  pub one : Tiles rows
  pub other : Tiles others
  pub same : (px py : ℕ) → copies px py rows ≡ copies px py others

-- a table passes the test of the way back
pub record Passes (k : Kind) (root : Node) (bytes : List ℕ) : Type 0 where
  pub flags : ℕ
  pub answer : answer_of (test_rows k root bytes) ≡ Accepted flags

-- a root whose tables can be compared
pub record Tabled (k : Kind) (root : Node) : Type 0 where
  pub comparable : (first second : List ℕ) → Passes k root first → Passes k root second → Comparable (rows_in first) (rows_in second)
