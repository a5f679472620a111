-- R-1's partition page: a unit's rows as text, "one row a line", in ASCII.
use Rattle.std.specs.Prelude.{ℕ, zero, suc, ◌+◌, ◌-◌, ◌/◌, ◌%◌, ◌^◌, ◌≤◌, ◌<◌, cond, List, [], ◌∷◌, ◌++◌, ltb, length, replicate}
use Rattle.tree.specs.Rows.{Row}

-- the decimal digits of a number, the most significant first; the first argument is how many there may be
unfoldable pub digits_in : ℕ → ℕ → List ℕ
digits_in zero n = []
digits_in (suc k) n = cond (ltb n 10) ((48 + n) ∷ []) (digits_in k (n / 10) ++ ((48 + n % 10) ∷ []))

-- all of them: a number n has n + 1 at most
unfoldable pub digits : ℕ → List ℕ
digits n = digits_in (suc n) n

-- a number in so many columns, "right-aligned with spaces"
unfoldable pub column : ℕ → ℕ → List ℕ
column wide n = replicate (wide - length (digits n)) 32 ++ digits n

-- "X and Y in 6 columns each, width and height in samples in 4 each, QT and MTT depth in 3 each, .. then a line feed"
unfoldable pub row_columns : Row → List ℕ
row_columns r =
    column 6 r.x ++ (column 6 r.y
    ++ (column 4 (2 ^ r.ew) ++ (column 4 (2 ^ r.eh) ++ (column 3 r.qt ++ (column 3 r.mtt ++ (10 ∷ []))))))

-- a line: the address of the unit in 6 columns, then the row's
unfoldable pub line : ℕ → Row → List ℕ
line address r = column 6 address ++ row_columns r

-- the lines of a unit's rows
unfoldable pub lines : ℕ → List Row → List ℕ
lines address [] = []
lines address (r ∷ rows) = line address r ++ lines address rows

-- Each number of a line fits its column, and before each but the address a space is left: nothing is cut off, and columns
-- never touch.
pub record Fits (address : ℕ) (r : Row) : Type 0 where
  pub address_fits : length (digits address) ≤ 6
  pub x_fits : length (digits r.x) < 6
  pub y_fits : length (digits r.y) < 6
  pub width_fits : length (digits (2 ^ r.ew)) < 4
  pub height_fits : length (digits (2 ^ r.eh)) < 4
  pub qt_fits : length (digits r.qt) < 3
  pub mtt_fits : length (digits r.mtt) < 3
