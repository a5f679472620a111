-- The line store after a unit.
use Rattle.std.specs.Prelude.{ℕ, ◌+◌, ◌-◌, ◌/◌, ◌%◌, ◌≤◌, ◌<◌, min, ◌≡◌, cond, List, ltb, eqb}
use Rattle.settings.specs.declared.Square.{Square}
use Rattle.tree.specs.declared.Direction.TheVariants.{Horizontal, Vertical}
use Rattle.tree.specs.Rows.{Row}
use Rattle.numbers.specs.Standard.{among, seen_at}
use Rattle.numbers.specs.Map.{changed, Cell, cell_at}
use Rattle.numbers.specs.Store.{column_told, line_told}

-- a unit's cell columns and cell rows inside the picture
abbrev pub columns_in : ℕ → Square → ℕ
columns_in width q = min q.side (width - q.x) / 4

abbrev pub lines_in : ℕ → Square → ℕ
lines_in height q = min q.side (height - q.y) / 4

-- the first or the second byte of a pair
abbrev pub of_pair : ℕ → ℕ → ℕ → ℕ
of_pair i exponent depth = cond (eqb (i % 2) 0) exponent depth

-- "each of its cell columns inside the picture holds its lowest block inside the picture"
abbrev pub column_byte : ℕ → ℕ → Square → List Cell → ℕ → ℕ → ℕ
column_byte width height q map i old =
    let c = cell_at map (i / 2 - q.x / 4) (lines_in height q - 1) in
    cond (among (q.x / 4) (columns_in width q) (i / 2)) (of_pair i c.ew c.qt) old

-- "each of its cell rows inside the picture the rightmost such block"
abbrev pub line_byte : ℕ → ℕ → Square → List Cell → ℕ → ℕ → ℕ
line_byte width height q map i old =
    let c = cell_at map (columns_in width q - 1) (i / 2) in
    cond (ltb (i / 2) (lines_in height q)) (of_pair i c.eh c.qt) old

-- "all other bytes stay"
abbrev pub byte_after : ℕ → ℕ → Square → List Cell → ℕ → ℕ → ℕ
byte_after width height q map i old =
    cond (ltb i (width / 2)) (column_byte width height q map i old) (line_byte width height q map (i - width / 2) old)

unfoldable pub store_after : ℕ → ℕ → Square → List Cell → List ℕ → List ℕ
store_after width height q map store = changed (byte_after width height q map) 0 store

-- What a unit's cell columns and cell rows hold then, by samples: what is seen of its lowest and of its rightmost block inside the picture, among the
-- rows coded
pub record Edges (width height : ℕ) (q : Square) (store : List ℕ) (done : List Row) : Type 0 where
  pub columns : (px : ℕ) → q.x ≤ px → px < q.x + q.side → px < width
      → column_told store (px / 4) ≡ seen_at Vertical px (min (q.y + q.side) height - 1) done
  pub lines : (py : ℕ) → q.y ≤ py → py < q.y + q.side → py < height
      → line_told width store ((py - q.y) / 4) ≡ seen_at Horizontal (min (q.x + q.side) width - 1) py done
