-- A map that holds the rows of a unit, and what is asked of them.
use Rattle.std.specs.Prelude.{ℕ, ◌+◌, ◌≤◌, ◌<◌, ◌≡◌, List, [], ◌∷◌, get_or}
use Rattle.tree.specs.declared.Node.{Node}
use Rattle.tree.specs.Kind.{Kind}
use Rattle.tree.specs.Rows.{Row}
use Rattle.blocks.specs.RowNumbers.{row_word}
use Rattle.laws.specs.Geometry.{in_row, OfWholeCells, SmallRow}
use Rattle.laws.specs.CellOrder.{RowIn, RowAt}
use Rattle.cells.specs.Map.{cell_at, filled}

-- a row of whole cells in the square of 128 by 128 samples with these numbers, small enough for its bytes
pub record Celled (across down : ℕ) (r : Row) : Type 0 where
  pub small : SmallRow r
  pub whole : OfWholeCells 4 r
  pub lies : RowIn 128 across down r

-- the cell of each sample of a row holds the row's number
pub record Held (map : List ℕ) (r : Row) : Type 0 where
  pub at : (px py : ℕ) → 0 < in_row r px py → get_or map (cell_at px py) 0 ≡ row_word r

-- a map after rows were filled in, one after the other
unfoldable pub filled_by : List ℕ → List Row → List ℕ
filled_by map [] = map
filled_by map (r ∷ rows) = filled_by (filled map (row_word r)) rows

-- Each cell inside the unit and the picture holds its row: of the rows of a unit, given its root, some row has the sample, and the sample's cell holds its number.
pub record HoldsUnit (k : Kind) (root : Node) (rows : List Row) (map : List ℕ) : Type 0 where
  pub each : (px py : ℕ) → root.x ≤ px → px < root.x + root.w → root.y ≤ py → py < root.y + root.h → px < k.limits.width → py < k.limits.height
      → (i : ℕ) × RowAt (λ r. (0 < in_row r px py) × (get_or map (cell_at px py) 0 ≡ row_word r)) rows i
