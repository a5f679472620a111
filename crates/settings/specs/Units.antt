-- The units of a picture: how many there are, and the square of each; by a unit's side and the picture's sides, and for H.266's settings.
use Rattle.std.specs.Prelude.{ℕ, ◌+◌, ◌-◌, ◌*◌, ◌/◌, ◌%◌, ◌^◌, ◌≤◌, ◌<◌, ◌≡◌, cond, leb, eqb, Result, Ok, Err}
use Rattle.sides.specs.Side.{exponent}
use Rattle.settings.specs.declared.Settings.{Settings}
use Rattle.settings.specs.declared.Square.{Square}
use Rattle.settings.specs.Checks.{settings_refusal}

-- "a unit at the right or bottom edge counts as one": the units that reach over n samples
unfoldable pub units_over : ℕ → ℕ → ℕ
units_over side n = (n + (side - 1)) / side

-- the unit count
unfoldable pub count_in : (side width height : ℕ) → ℕ
count_in side width height = units_over side width * units_over side height

-- "The unit address counts units from 0, left to right, then down"
unfoldable pub square_in : (side width address : ℕ) → Square
square_in side width address = record {
  x = address % units_over side width * side;
  y = address / units_over side width * side;
  side = side;
}

-- the sides of units and pictures that are counted: what passes the checks has such ones
pub record Gridded (side width height : ℕ) : Type 0 where
  pub power : side ≡ 2 ^ exponent side
  pub least : 16 ≤ side
  pub most : side ≤ 128
  pub wide : (0 < width) × (width ≤ 16384)
  pub high : (0 < height) × (height ≤ 16384)

-- the refusal of a unit, by that of the settings, 0 where they pass, and the unit count: then 10 where there is no such unit; 0 where there is one
unfoldable pub refusal_at : (refusal count address : ℕ) → ℕ
refusal_at refusal count address = cond (eqb refusal 0) (cond (leb count address) 10 0) refusal

-- a number of units, and a unit's square, or the number of the refusal of the settings or of the address
abbrev pub Count : Type 0
Count = Result ℕ ℕ

abbrev pub Located : Type 0
Located = Result Square ℕ

unfoldable pub counted_by : (refusal count : ℕ) → Count
counted_by refusal units = cond (eqb refusal 0) (Ok units) (Err refusal)

unfoldable pub located_by : ℕ → Square → Located
located_by refusal square = cond (eqb refusal 0) (Ok square) (Err refusal)

-- document 01's number of each answer: that of a refusal, else 0
abbrev pub count_number : Count → ℕ
count_number (Ok units) = 0
count_number (Err number) = number

abbrev pub located_number : Located → ℕ
located_number (Ok square) = 0
located_number (Err number) = number

-- ---- H.266's settings

abbrev pub unit_count : Settings → ℕ
unit_count s = count_in s.ctu s.width s.height

abbrev pub square_at : Settings → ℕ → Square
square_at s address = square_in s.ctu s.width address

-- 1 to 9, then 10
abbrev pub unit_refusal : Settings → ℕ → ℕ
unit_refusal s address = refusal_at (settings_refusal s) (unit_count s) address

-- what `unit::unit_count`, for these settings, and `unit_at` answer
abbrev pub count_of : Settings → Count
count_of s = counted_by (settings_refusal s) (unit_count s)

abbrev pub located : Settings → ℕ → Located
located s address = located_by (unit_refusal s address) (square_at s address)
