-- The way back as a walk over nodes (crate walks). A call's contract needs none of this.
use Rattle.std.specs.Prelude.{ℕ, ◌/◌, ◌%◌, ◌≤◌, ◌≡◌, Bool, ◌&&◌, List, ltb, eqb, length}
use Rattle.tree.specs.Rows.{Row}
use Rattle.tree.specs.Back.{back_node}
use Rattle.nodes.specs.State.{place_of}
use Rattle.walks.specs.Rooted.{RoomFor}
use Rattle.walks.specs.Walks.{Way}
use Rattle.marks.specs.Table.{Left, word_at}
use Rattle.marks.specs.Marks.{cells_before}

-- from the rows that are left to flags, a byte for each, 2,044 at most; a place stands for the cells of the rows before it
abbrev pub back_way : List ℕ → Way ℕ (List Row)
back_way bytes = record {
  go = λ k n rows. back_node k n rows;
  at = λ place rows. Left bytes place rows;
  stored = λ flags. flags;
  rows = λ place count. cells_before bytes (place / 8);
  flags = λ place count. count;
  most = 130816;
}

-- a root's way back starts from a row of the table, with room for its tree behind the cells and the flags so far
pub record Starts (bytes : List ℕ) (c row : ℕ) : Type 0 where
  pub first : place_of c % 8 ≡ 0
  pub within : place_of c ≤ length bytes
  pub room : RoomFor (back_way bytes) c row

-- the row at a walk's place is a node's own
abbrev pub own_next : List ℕ → ℕ → ℕ → Bool
own_next bytes c row = ltb (place_of c) (length bytes) && eqb (word_at bytes (place_of c)) row
