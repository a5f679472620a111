-- The marks of a table of rows, and what the decision at a node takes from them.
use Rattle.std.specs.Prelude.{◌≡◌, ℕ, ◌+◌, ◌-◌, ◌*◌, ◌/◌, ◌%◌, ◌<◌, ◌≤◌, Bool, true, false, cond, ltb, List, [], ◌∷◌, length, take, ◌==◌, nat_le, nat_lt, slice_index}
use Rattle.tree.specs.declared.Decision.{Decision}
use Rattle.tree.specs.declared.Decision.TheVariants.{Leaf, Quad, Binary, Ternary}
use Rattle.tree.specs.Splits.{is_split}
use Rattle.tree.specs.Rows.{Row, rows_in}
use Rattle.tree.specs.Back.{cells_of, starts_after, at_left, at_top, cut_from}
use Rattle.laws.specs.Areas.{cells_of_all}
use Rattle.nodes.specs.Tables.{limits_in}
use Rattle.nodes.specs.RowNodes.{node_in}
use Rattle.marks.specs.Table.{rows_left, Eight}

-- the corner of the row before which exactly so many cells go by, as the low half of its number; all ones where no row starts there
unfoldable pub corner_after : ℕ → List Row → ℕ
corner_after count [] = 4294967295
corner_after count (r ∷ rs) = cond (nat_le (cells_of r) count) (corner_after (count - cells_of r) rs) (cond (count == 0) (r.x + 65536 * r.y) 4294967295)

-- the cells of the rows before the row with a number
abbrev pub cells_before : List ℕ → ℕ → ℕ
cells_before bytes i = cells_of_all (take i (rows_in bytes))

-- Marks of a table: the cells before each row, and the corner that each number of cells leads to, as far as 1,024 cells go; and so far the rows are bytes.
pub record Marked (bytes marks : List ℕ) : Type 0 where
  pub before : (i : ℕ) → i < length bytes / 8 → cells_before bytes i < 1024 → slice_index marks i ≡ cells_before bytes i
  pub starts : (c : ℕ) → c < 1024 → slice_index marks (1024 + c) ≡ corner_after c (rows_in bytes)
  pub small : (i : ℕ) → i < length bytes / 8 → cells_before bytes i < 1024 → Eight bytes (i * 8)

-- what is read: whole rows and, where a cut may be open, their marks
pub record Read (u bytes marks : List ℕ) : Type 0 where
  pub whole : length bytes % 8 ≡ 0
  pub marked : ¬ ((limits_in u).maxmtt ≡ 0) → Marked bytes marks

-- A node whose rows begin at a place of a table: half of its samples later there are still fewer than 1,024 cells, and no corner is all ones.
pub record Begins (bytes : List ℕ) (row at : ℕ) : Type 0 where
  pub there : at + 8 ≤ length bytes
  pub within : cells_before bytes (at / 8) + (node_in row).w * (node_in row).h / 32 < 1024
  pub left : (node_in row).x < 65535
  pub top : (node_in row).y < 65535

-- what a corner `got` shows of the row after so many cells from a place on, where the marks are a table's: whether it starts at the node's left edge, and at its top
pub record Shows (marks : List ℕ) (row at count got : ℕ) : Type 0 where
  pub left : {bytes : List ℕ} → Marked bytes marks → Begins bytes row at → starts_after count (at_left (node_in row)) (rows_left bytes (at / 8)) ≡ (got % 65536 == (node_in row).x)
  pub top : {bytes : List ℕ} → Marked bytes marks → Begins bytes row at → starts_after count (at_top (node_in row)) (rows_left bytes (at / 8)) ≡ (got / 65536 == (node_in row).y)

abbrev pub is_cut : Decision → Bool
is_cut Leaf = false
is_cut Quad = false
is_cut (Binary d) = true
is_cut (Ternary d) = true

-- what `cut_ahead` answers: a cut in any case, and the one that the rows show where the marks are a table's
pub record Cut (marks : List ℕ) (row at : ℕ) (d : Decision) : Type 0 where
  pub cut : is_cut d ≡ true
  pub found : (bytes : List ℕ) → Marked bytes marks → Begins bytes row at → d ≡ cut_from (node_in row) (rows_left bytes (at / 8))

-- what `decision_inside` answers, in any case a split: a quad one before a row of a larger QT depth, else a cut
pub record Divided (marks : List ℕ) (row next at : ℕ) (d : Decision) : Type 0 where
  pub split : is_split d ≡ true
  pub deeper : ltb (node_in row).qt (node_in next).qt ≡ true → d ≡ Quad
  pub flat : ltb (node_in row).qt (node_in next).qt ≡ false → is_cut d ≡ true
  pub found : (bytes : List ℕ) → Marked bytes marks → Begins bytes row at
      → d ≡ cond (nat_lt (node_in row).qt (node_in next).qt) Quad (cut_from (node_in row) (rows_left bytes (at / 8)))
