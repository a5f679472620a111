-- A pass over the rows of a table, a number each: what is left to do from one row on.
use Prim.Native.Nat.{ℕ, ◌+◌, ◌*◌, ◌/◌, ◌≤◌, ◌<◌}
use mathlib.Core.Path.{◌≡◌, sym, ◌∙◌}
use mathlib.Core.Bool.{Bool, true, false, ◌&&◌}
use mathlib.Core.List.{List}
use native.Mathlib.Nat.{zero-add}
use lib.ListN.{length}
use Rattle.tree.specs.Rows.{row_at, rows_in}
use Rattle.blocks.specs.RowNumbers.{row_word}
use Rattle.laws.proofs.Tables.{row_has}
use Rattle.nodes.specs.RowNodes.{node_in}
use Rattle.marks.specs.Table.{rows_left, word_at, Eight}
use Rattle.marks.proofs.NextRows.{from_next, from_end}
use Rattle.marks.proofs.RowWords.{at_word}
use Rattle.cells.specs.Map.{Inside, filled}
use Rattle.cells.specs.Held.{filled_by}
use Rattle.cells.proofs.Holding.{celled_inside}
use Rattle.compare.specs.Finer.{every_row}
use Rattle.compare.specs.Tests.{corner_inside, corners_inside, Tiles}

module _ (bytes : List ℕ) (k : ℕ) {word : ℕ} (w : word ≡ word_at bytes (k * 8)) (small : Eight bytes (k * 8)) where
  -- the number that is read is the row's
  is_word : word ≡ row_word (row_at bytes (k * 8))
  is_word = w ∙ sym (at_word small)

  module _ (h : k < length bytes / 8) where
    pub word_inside : Tiles (rows_in bytes) → Inside (node_in word)
    word_inside t = rw is_word (celled_inside (rw zero-add at (row_has _ k bytes 0 h t.celled)))

    -- one row more in the map
    pub fill_next : (map : List ℕ) → filled_by (filled map word) (rows_left bytes (k + 1)) ≡ filled_by map (rows_left bytes k)
    unfolding filled_by
    fill_next map = rw (from_next bytes k h, is_word)

    -- one row more that was looked at: it ends the pass, or the other rows decide
    module _ (map : List ℕ) {answer : Bool} (e : answer ≡ corner_inside map word) where
      corner_next : corners_inside map (rows_left bytes k) ≡ (answer && corners_inside map (rows_left bytes (k + 1)))
      unfolding every_row
      corner_next = rw (from_next bytes k h, e, is_word)

      pub corner_out : answer ≡ false → corners_inside map (rows_left bytes k) ≡ false
      corner_out out = corner_next ∙ rw out

      pub corner_in : answer ≡ true → corners_inside map (rows_left bytes (k + 1)) ≡ corners_inside map (rows_left bytes k)
      corner_in in-it = sym (corner_next ∙ rw in-it)

module _ (bytes : List ℕ) (k : ℕ) (h : length bytes / 8 ≤ k) (map : List ℕ) where
  pub fill_last : filled_by map (rows_left bytes k) ≡ map
  unfolding filled_by
  fill_last = rw (from_end bytes k h)

  pub corner_last : corners_inside map (rows_left bytes k) ≡ true
  unfolding every_row
  corner_last = rw (from_end bytes k h)
