-- Rows: what a leaf is in the table, and its 8 bytes.
use Rattle.std.specs.Prelude.{ℕ, zero, suc, ◌+◌, ◌*◌, ◌/◌, ◌%◌, List, [], ◌∷◌, ◌++◌, length, get_or}
use Rattle.sides.specs.Side.{exponent}
use Rattle.tree.specs.declared.Node.{Node}
use Rattle.tree.specs.declared.Decision.{Decision}
use Rattle.tree.specs.declared.Decision.TheVariants.{Leaf, Quad, Binary, Ternary}

-- document 01's (X, Y, exponents, QT depth, MTT depth)
pub record Row : Type 0 where
  pub x : ℕ
  pub y : ℕ
  pub ew : ℕ
  pub eh : ℕ
  pub qt : ℕ
  pub mtt : ℕ

-- the row of a leaf
unfoldable pub row_of : Node → Row
row_of n = record { x = n.x; y = n.y; ew = exponent n.w; eh = exponent n.h; qt = n.qt; mtt = n.mtt }

-- the rows that a node has itself: a leaf's row
unfoldable pub own_rows : Node → Decision → List Row
own_rows n Leaf = row_of n ∷ []
own_rows n Quad = []
own_rows n (Binary d) = []
own_rows n (Ternary d) = []

-- "X and Y (16 bits each, low byte first), exponent of W, exponent of H, QT depth, MTT depth"
unfoldable pub row_bytes : Row → List ℕ
row_bytes r =
    r.x % 256 ∷ r.x / 256 % 256 ∷ r.y % 256 ∷ r.y / 256 % 256 ∷ r.ew % 256 ∷ r.eh % 256 ∷ r.qt % 256 ∷ r.mtt % 256 ∷ []

-- rows follow each other in coding order
unfoldable pub table_bytes : List Row → List ℕ
table_bytes [] = []
table_bytes (r ∷ rs) = row_bytes r ++ table_bytes rs

-- the row whose bytes start at a place, and so many rows from there on
unfoldable pub row_at : List ℕ → ℕ → Row
row_at bytes at = record {
  x = get_or bytes at 0 + 256 * get_or bytes (at + 1) 0;
  y = get_or bytes (at + 2) 0 + 256 * get_or bytes (at + 3) 0;
  ew = get_or bytes (at + 4) 0;
  eh = get_or bytes (at + 5) 0;
  qt = get_or bytes (at + 6) 0;
  mtt = get_or bytes (at + 7) 0;
}

unfoldable pub rows_at : ℕ → List ℕ → ℕ → List Row
rows_at zero bytes at = []
rows_at (suc count) bytes at = row_at bytes at ∷ rows_at count bytes (at + 8)

-- all whole rows that bytes have
abbrev pub rows_in : List ℕ → List Row
rows_in bytes = rows_at (length bytes / 8) bytes 0
