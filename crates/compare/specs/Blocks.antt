-- Tables as sets of blocks, which are rectangles: "Depths and row order play no part".
use Rattle.std.specs.Prelude.{ℕ, ◌≡◌, List}
use Rattle.std.proofs.Math.Option.{some}
use Rattle.std.proofs.Math.ListN.{get_elem?}
use Rattle.tree.specs.Rows.{Row}
use Rattle.laws.specs.CellOrder.{RowAt}

-- two rows have the same block
pub record SameBlock (r s : Row) : Type 0 where
  pub left : r.x ≡ s.x
  pub top : r.y ≡ s.y
  pub wide : r.ew ≡ s.ew
  pub high : r.eh ≡ s.eh

-- every block of a table is one of another's
abbrev pub BlocksOf : List Row → List Row → Type 0
BlocksOf rows others = (i : ℕ) (r : Row) → get_elem? rows i ≡ some r → (j : ℕ) × RowAt (SameBlock r) others j

-- "equal blocks": the blocks of each are the other's
pub record EqualBlocks (rows others : List Row) : Type 0 where
  pub there : BlocksOf rows others
  pub back : BlocksOf others rows
