-- Filling a map row by row: the cells of a row hold its number, and the rows that the map held before, which have no sample of it, stay in their cells.
use Prim.Native.Nat.{ℕ, zero, suc, ◌+◌, ◌/◌, ◌^◌, ◌≤◌}
use mathlib.Core.Path.{◌≡◌, refl, ap, ◌∙◌}
use mathlib.Core.List.{List}
use native.Mathlib.Omega.{arith}
use lib.ListN.{length, get_or, replicate}
use lib.Seq.{sets, length-sets}
use Rattle.tree.specs.Rows.{Row}
use Rattle.blocks.specs.RowNumbers.{row_word}
use Rattle.laws.specs.Geometry.{in_row, copies, SmallRow}
use Rattle.laws.specs.Every.{Every, every_none, every_more}
use Rattle.nodes.specs.RowNodes.{node_in}
use Rattle.cells.specs.Map.{cell_at, put_lines, Inside, filled}
use Rattle.cells.specs.Held.{Celled, Held, filled_by}
use Rattle.cells.proofs.Numbers.{says_x, says_y, says_w, says_h}
use Rattle.cells.proofs.Puts.{put_in, put_out}
use Rattle.cells.proofs.Samples.{cells_fit, wide_whole, high_whole, of_square, sample_cell, cell_sample}

filled_is : {r : Row} → SmallRow r → (map : List ℕ) → filled map (row_word r) ≡ put_lines (2 ^ r.eh / 4) (2 ^ r.ew / 4) (row_word r) (cell_at r.x r.y) map
unfolding filled
filled_is s map = rw (says_x s, says_y s, says_w s, says_h s)

module _ {across down : ℕ} {r : Row} (c : Celled across down r) where
  -- what `fill` asks
  pub celled_inside : Inside (node_in (row_word r))
  celled_inside = record {
    right = rw (says_x c.small, says_w c.small) (cells_fit (wide_whole c));
    bottom = rw (says_y c.small, says_h c.small) (cells_fit (high_whole c));
  }

  module _ (map : List ℕ) where
    narrow : 2 ^ r.ew / 4 ≤ 32
    narrow = let f = cells_fit (wide_whole c) in omega arith

    pub fill_held : length map ≡ 1024 → Held (filled map (row_word r)) r
    fill_held long = record {
      at = λ px py some.
          let x = cells_fit (wide_whole c) in
          let y = cells_fit (high_whole c) in
          ap (λ m. get_or m (cell_at px py) 0) (filled_is c.small map)
          ∙ put_in narrow (row_word r) (2 ^ r.eh / 4) (cell_at r.x r.y) (cell_at px py) map (omega arith) (sample_cell c px py some);
    }

    pub fill_kept : {s : Row} → Celled across down s → ((px py : ℕ) → in_row r px py + in_row s px py ≤ 1) → Held map s → Held (filled map (row_word r)) s
    fill_kept {s} d once held = record {
      at = λ px py some.
          ap (λ m. get_or m (cell_at px py) 0) (filled_is c.small map)
          ∙ put_out narrow (row_word r) (2 ^ r.eh / 4) (cell_at r.x r.y) (cell_at px py) map
          (λ covers. let i = cell_sample c px py (of_square d px py some) covers in let o = once px py in omega arith)
          ∙ held.at px py some;
    }

-- ---- all rows of a table that has no sample twice

-- filling in changes no length
put_long : (high wide value at : ℕ) (map : List ℕ) → length (put_lines high wide value at map) ≡ length map
unfolding put_lines
put_long zero wide value at map = refl
put_long (suc high) wide value at map = put_long high wide value (at + 32) (sets map at (replicate wide value)) ∙ length-sets map at (replicate wide value)

pub filled_long : (map : List ℕ) (row : ℕ) → length (filled map row) ≡ length map
unfolding filled
filled_long map row = put_long ((node_in row).h / 4) ((node_in row).w / 4) row (cell_at (node_in row).x (node_in row).y) map

module _ {across down : ℕ} where
  -- a row stays while others are filled in
  stays : {r : Row} → Celled across down r → {rows : List Row} → Every (Celled across down) rows → ((px py : ℕ) → in_row r px py + copies px py rows ≤ 1)
      → (map : List ℕ) → Held map r → Held (filled_by map rows) r
  unfolding filled_by copies
  stays c every_none once map held = held
  stays c (every_more {a = s} d ds) once map held =
      stays c ds (λ px py. let o = once px py in omega arith) (filled map (row_word s))
      (fill_kept d map c (λ px py. let o = once px py in omega arith) held)

  pub rows_held : {rows : List Row} → Every (Celled across down) rows → ((px py : ℕ) → copies px py rows ≤ 1)
      → (map : List ℕ) → length map ≡ 1024 → Every (Held (filled_by map rows)) rows
  unfolding filled_by copies
  rows_held every_none once map long = every_none
  rows_held (every_more {a = r} c cs) once map long =
      every_more (stays c cs once (filled map (row_word r)) (fill_held c map long))
      (rows_held cs (λ px py. let o = once px py in omega arith) (filled map (row_word r)) (filled_long map (row_word r) ∙ long))
