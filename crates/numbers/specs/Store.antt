-- R-2's neighbours: from a unit's map and the lent line store; and the stores that 26 does not refuse.
use Rattle.std.specs.Prelude.{ℕ, ◌+◌, ◌-◌, ◌*◌, ◌/◌, ◌%◌, Bool, true, cond, ◌&&◌, ◌||◌, List, [], ◌∷◌, get_or, leb, eqb}
use Rattle.settings.specs.declared.Square.{Square}
use Rattle.tree.specs.declared.Direction.{Direction}
use Rattle.tree.specs.declared.Direction.TheVariants.{Horizontal, Vertical}
use Rattle.tree.specs.Splits.{pick}
use Rattle.numbers.specs.Numbers.{Seen, unavailable, block}
use Rattle.numbers.specs.Walk.{Finder}
use Rattle.numbers.specs.Map.{changed, Cell, cell_at, filled}

-- "A zero exponent means no block yet": what two bytes say
abbrev pub told : ℕ → ℕ → Seen
told exponent depth = cond (eqb exponent 0) unavailable (block exponent depth)

-- what is told of a cell's block: its width from below, its height from the right
abbrev pub cell_told : Direction → Cell → Seen
cell_told d c = told (pick d c.eh c.ew) c.qt

-- "across the picture, two bytes per cell: width exponent and QT depth of the block above"
abbrev pub column_told : List ℕ → ℕ → Seen
column_told store column = told (get_or store (2 * column) 0) (get_or store (2 * column + 1) 0)

-- "Its last 64 bytes carry, for 32 cells down, height exponent and QT depth of the block to the left of the unit"
abbrev pub line_told : ℕ → List ℕ → ℕ → Seen
line_told width store line = told (get_or store (width / 2 + 2 * line) 0) (get_or store (width / 2 + (2 * line + 1)) 0)

-- the neighbours of a unit's nodes: at the unit's top row from the store's columns, at its left column from the last 64 bytes, else from the map
abbrev pub stored : ℕ → Square → List ℕ → Finder (List Cell)
stored width q store = record {
  above = λ map x y.
      cond (eqb y 0) unavailable
      (cond (eqb y q.y) (column_told store (x / 4)) (cell_told Vertical (cell_at map ((x - q.x) / 4) ((y - q.y) / 4 - 1))));
  left = λ map x y.
      cond (eqb x 0) unavailable
      (cond (eqb x q.x) (line_told width store ((y - q.y) / 4)) (cell_told Horizontal (cell_at map ((x - q.x) / 4 - 1) ((y - q.y) / 4))));
  put = λ r map. changed (filled q r) 0 map;
}

-- ---- 26

-- "when a stored exponent is neither 0 nor 2 to 7, or a depth is above 5"
abbrev pub exponent_fits : ℕ → Bool
exponent_fits exponent = eqb exponent 0 || (leb 2 exponent && leb exponent 7)

abbrev pub depth_fits : ℕ → Bool
depth_fits depth = leb depth 5

-- exponents stand at even places, depths at odd ones
abbrev pub byte_fits : ℕ → ℕ → Bool
byte_fits i byte = cond (eqb (i % 2) 0) (exponent_fits byte) (depth_fits byte)

-- all bytes from a place on
unfoldable pub store_fits : ℕ → List ℕ → Bool
store_fits at [] = true
store_fits at (byte ∷ rest) = byte_fits at byte && store_fits (at + 1) rest
