-- Rows as rectangles of samples: what "covers", "inside one pipeline unit" and "small enough for its bytes" mean.
use Rattle.std.specs.Prelude.{ℕ, ◌+◌, ◌-◌, ◌*◌, ◌/◌, ◌%◌, ◌^◌, ◌≤◌, ◌<◌, min, ◌≡◌, ◌&&◌, List, [], ◌∷◌, ◌⊎◌, leb, ltb}
use Rattle.tree.specs.Splits.{bit}
use Rattle.tree.specs.Rows.{Row}

-- 1 where p is one of the l samples from a on, else 0
unfoldable pub span : ℕ → ℕ → ℕ → ℕ
span a l p = bit (leb a p && ltb p (a + l)) 1

-- 1 where the sample (px, py) lies in the rectangle with the corner (x, y) and the sides w and h, else 0
abbrev pub rectangle : ℕ → ℕ → ℕ → ℕ → ℕ → ℕ → ℕ
rectangle x y w h px py = span x w px * span y h py

-- 1 where a row has the sample (px, py), else 0; a row's sides are 2 to its exponents
abbrev pub in_row : Row → ℕ → ℕ → ℕ
in_row r px py = rectangle r.x r.y (2 ^ r.ew) (2 ^ r.eh) px py

-- how many rows contain the sample (px, py)
unfoldable pub copies : ℕ → ℕ → List Row → ℕ
copies px py [] = 0
copies px py (r ∷ rs) = in_row r px py + copies px py rs

-- how many samples the rows have, each row for itself
unfoldable pub area_of : List Row → ℕ
area_of [] = 0
area_of (r ∷ rs) = 2 ^ r.ew * 2 ^ r.eh + area_of rs

-- how many of the l samples from a on come before an end
abbrev pub clip : ℕ → ℕ → ℕ → ℕ
clip end a l = min end (a + l) - min end a

-- Cells are squares of a side, laid side by side from (0, 0). A row inside one cell: its first and its last sample are in the same one, each way
pub record InOneCell (side : ℕ) (r : Row) : Type 0 where
  pub across : r.x / side ≡ (r.x + 2 ^ r.ew - 1) / side
  pub down : r.y / side ≡ (r.y + 2 ^ r.eh - 1) / side

-- a row that consists of whole cells
pub record OfWholeCells (side : ℕ) (r : Row) : Type 0 where
  pub left : r.x % side ≡ 0
  pub top : r.y % side ≡ 0
  pub wide : 2 ^ r.ew % side ≡ 0
  pub high : 2 ^ r.eh % side ≡ 0

-- "Pipeline units are squares of 64 by 64, laid side by side from (0, 0)", here cells of any side: a row lies inside one
-- or consists of whole ones
abbrev pub InPipeline : (side : ℕ) → Row → Type 0
InPipeline side r = InOneCell side r ⊎ OfWholeCells side r

-- R-4: the side of the pipeline units, in which the board holds the samples, by the CTU side: "the smaller of 64 and the
-- CTU side". No setting, split or flag depends on it: the 64 of the settings' ranges and of clauses 6.4.1 to 6.4.3 is the
-- standard's (tree/specs/Splits.antt).
abbrev pub pipeline_side : (ctu : ℕ) → ℕ
pipeline_side ctu = min 64 ctu

-- a row of which the bytes lose nothing
pub record SmallRow (r : Row) : Type 0 where
  pub x_fits : r.x < 2 ^ 16
  pub y_fits : r.y < 2 ^ 16
  pub least_w : 2 ≤ r.ew
  pub most_w : r.ew ≤ 7
  pub least_h : 2 ≤ r.eh
  pub most_h : r.eh ≤ 7
  pub depths : r.qt + r.mtt ≤ 255
