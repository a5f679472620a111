-- R-14, "Units arrive whole": the order in which a table has the rows and the samples of cells, which are squares of a side,
-- laid side by side from (0, 0). A cell is named by how many there are to its left and above it.
use Rattle.std.specs.Prelude.{ℕ, ◌/◌, ◌<◌, ◌≡◌, List, take, drop}
use Rattle.std.proofs.Math.Option.{some}
use Rattle.std.proofs.Math.ListN.{get_elem?}
use Rattle.tree.specs.Rows.{Row}
use Rattle.laws.specs.Geometry.{copies, InOneCell}

-- the sample (px, py) lies in the cell
abbrev pub SampleIn : (side across down : ℕ) → ℕ → ℕ → Type 0
SampleIn side across down px py = (px / side ≡ across) × (py / side ≡ down)

-- "lying in one pipeline unit": the row is inside one cell, and its corner is in this one
pub record RowIn (side across down : ℕ) (r : Row) : Type 0 where
  pub one : InOneCell side r
  pub corner : SampleIn side across down r.x r.y

-- some sample of the cell is in the rows
pub record Begun (side across down : ℕ) (rows : List Row) : Type 0 where
  pub px : ℕ
  pub py : ℕ
  pub sample : SampleIn side across down px py
  pub there : 0 < copies px py rows

-- every sample of the cell that lies in a picture of a width and a height is in exactly one of the rows
abbrev pub Full : (side width height across down : ℕ) → List Row → Type 0
Full side width height across down rows =
    (px py : ℕ) → SampleIn side across down px py → px < width → py < height → copies px py rows ≡ 1

-- row number i of a table, counted from 0, has a property: there is such a row, and it has it
pub record RowAt (P : Row → Type 0) (rows : List Row) (i : ℕ) : Type 0 where
  pub row : Row
  pub is : get_elem? rows i ≡ some row
  pub has : P row

-- a table that has the cells of a side one after the other, in a picture of a width and a height
pub record CellByCell (side width height : ℕ) (rows : List Row) : Type 0 where
  -- "the rows lying in one pipeline unit are consecutive in its table"
  pub consecutive : (across down i j k : ℕ) → i < j → j < k → RowAt (RowIn side across down) rows i
      → RowAt (RowIn side across down) rows k → RowAt (RowIn side across down) rows j
  -- "when the first row of the next one appears": where row number `next` does not lie in a cell, or the table ends before
  -- it, and the rows before it have a sample of the cell, they have each of its samples in the picture, once, and neither
  -- row `next` nor one after it has any
  pub complete : (across down next : ℕ) → ¬ RowAt (RowIn side across down) rows next
      → Begun side across down (take next rows)
      → Full side width height across down (take next rows) × ¬ Begun side across down (drop next rows)
