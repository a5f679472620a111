-- A unit's map: which block lies in each of its cells.
use Rattle.std.specs.Prelude.{ℕ, ◌+◌, ◌*◌, ◌/◌, ◌%◌, cond, List, [], ◌∷◌, get_or, replicate}
use Rattle.settings.specs.declared.Square.{Square}
use Rattle.tree.specs.Rows.{Row}
use Rattle.numbers.specs.Standard.{holds}

-- every element of a list changed by its place, counted from one on
unfoldable pub changed : {A : Type 0} → (ℕ → A → A) → ℕ → List A → List A
changed f at [] = []
changed f at (a ∷ rest) = f at a ∷ changed f (at + 1) rest

-- "each with the exponents and QT depth of its block"
pub record Cell : Type 0 where
  pub ew : ℕ
  pub eh : ℕ
  pub qt : ℕ

abbrev pub no_cell : Cell
no_cell = record { ew = 0; eh = 0; qt = 0 }

abbrev pub cell_of : Row → Cell
cell_of r = record { ew = r.ew; eh = r.eh; qt = r.qt }

-- "a unit's map has 1,024 cells of 4 by 4 samples": cell c is the one c % 32 to the right and c / 32 down; at first all are without a block
unfoldable pub empty_map : List Cell
empty_map = replicate 1024 no_cell

abbrev pub cell_at : List Cell → ℕ → ℕ → Cell
cell_at map right down = get_or map (32 * down + right) no_cell

-- a block is coded: it fills the cells that lie in it, which are those whose first sample it holds
abbrev pub filled : Square → Row → ℕ → Cell → Cell
filled q r c old = cond (holds r (q.x + 4 * (c % 32)) (q.y + 4 * (c / 32))) (cell_of r) old
