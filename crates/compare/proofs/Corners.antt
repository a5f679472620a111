-- The code's test: by the map of the other table, each row lies inside the block that has its corner exactly where the table is finer or equal.
use Prim.Native.Nat.{ℕ, ◌<◌}
use mathlib.Core.Path.{◌≡◌, sym, ◌∙◌}
use mathlib.Core.Bool.{true}
use mathlib.Core.List.{List}
use mathlib.Core.Option.{some}
use native.Mathlib.Omega.{arith}
use lib.ListN.{length, get_elem?}
use Rattle.tree.specs.Rows.{Row}
use Rattle.blocks.specs.RowNumbers.{row_word}
use Rattle.laws.specs.Every.{Every}
use Rattle.laws.specs.Geometry.{in_row, SmallRow}
use Rattle.laws.proofs.Copies.{own_corner}
use Rattle.laws.proofs.Numbered.{every_of}
use Rattle.cells.specs.Held.{Held, filled_by}
use Rattle.cells.proofs.Numbers.{says_x, says_y, says_w, says_h}
use Rattle.cells.proofs.Holding.{rows_held}
use Rattle.compare.specs.Finer.{lies_in, finer_or_equal}
use Rattle.compare.specs.Tests.{corner_inside, corners_inside, Comparable}
use Rattle.compare.proofs.Several.{same_tests, each_of, each_from}
use Rattle.compare.proofs.Unions.{other_at, finer_of, finer_from}

-- the numbers of two rows say whether the one lies inside the other
corner_is : {map : List ℕ} {r b : Row} → SmallRow r → SmallRow b → Held map b → 0 < in_row b r.x r.y → corner_inside map (row_word r) ≡ lies_in r b
unfolding lies_in
corner_is {map} {r} {b} s t held here =
    rw (says_x s, says_y s, says_w s, says_h s, held.at r.x r.y here, says_x t, says_y t, says_w t, says_h t)

module _ {rows others : List Row} (c : Comparable rows others) {map : List ℕ} (held : Every (Held map) others) where
  -- the block that has the corner of a row
  record Block (r : Row) : Type 0 where
    number : ℕ
    block : Row
    is : get_elem? others number ≡ some block
    has : 0 < in_row block r.x r.y
    tests : corner_inside map (row_word r) ≡ lies_in r block

  block_of : (i : ℕ) (r : Row) → get_elem? rows i ≡ some r → Block r
  block_of i r e =
      let found = other_at rows others c.same i r e in
      let small = (every_of c.one.celled i e).small in
      let other = (every_of c.other.celled found.0 found.1.is).small in
      let h = every_of held found.0 found.1.is in
      record { number = found.0; block = found.1.row; is = found.1.is; has = found.1.has; tests = corner_is small other h found.1.has }

  corners_of : corners_inside map rows ≡ true → finer_or_equal rows others ≡ true
  corners_of h = finer_from rows others c.other.once c.same (λ i r e.
      let b = block_of i r e in
      (b.number, record { row = b.block; is = b.is; has = sym b.tests ∙ each_of (λ r. corner_inside map (row_word r)) rows h i e }))

  corners_from : finer_or_equal rows others ≡ true → corners_inside map rows ≡ true
  corners_from h = each_from (λ r. corner_inside map (row_word r)) rows (λ i r e.
      let b = block_of i r e in
      let own = own_corner r in
      b.tests ∙ finer_of rows others c.one.once h i b.number e b.is r.x r.y (omega arith) b.has)

  corners_finer : corners_inside map rows ≡ finer_or_equal rows others
  corners_finer = same_tests (corners_inside map rows) (finer_or_equal rows others) corners_of corners_from

-- of the map that the other table is filled into
pub map_finer : {rows others : List Row} → Comparable rows others → (map : List ℕ) → length map ≡ 1024
    → corners_inside (filled_by map others) rows ≡ finer_or_equal rows others
map_finer c map long = corners_finer c (rows_held c.other.celled c.other.once map long)
