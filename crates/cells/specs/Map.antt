-- "a unit's map has 1,024 cells of 4 by 4 samples" (document 02, R-2), 32 a line: which cell a sample has, and a map whose cells were filled row by row.
use Rattle.std.specs.Prelude.{ℕ, zero, suc, ◌+◌, ◌*◌, ◌/◌, ◌%◌, ◌≤◌, List, replicate}
use Rattle.std.proofs.lemmas.List.Edits.{sets}
use Rattle.tree.specs.declared.Node.{Node}
use Rattle.nodes.specs.RowNodes.{node_in}

-- the cell of the sample (px, py), counted from the corner of its square of 128 by 128; a unit lies in one of these
abbrev pub cell_at : ℕ → ℕ → ℕ
cell_at px py = py / 4 % 32 * 32 + px / 4 % 32

-- so many lines, of so many cells each, from a cell on hold a value
unfoldable pub put_lines : (high wide value : ℕ) → ℕ → List ℕ → List ℕ
put_lines zero wide value at map = map
put_lines (suc high) wide value at map = put_lines high wide value (at + 32) (sets map at (replicate wide value))

-- a node that does not leave its square of 128 by 128
pub record Inside (n : Node) : Type 0 where
  pub right : n.x / 4 % 32 + n.w / 4 ≤ 32
  pub bottom : n.y / 4 % 32 + n.h / 4 ≤ 32

-- the cells of a row hold its number
unfoldable pub filled : List ℕ → ℕ → List ℕ
filled map row = put_lines ((node_in row).h / 4) ((node_in row).w / 4) row (cell_at (node_in row).x (node_in row).y) map
