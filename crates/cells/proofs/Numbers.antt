-- The number of a row that fits its bytes: it says the row.
use Prim.Native.Nat.{◌^◌}
use mathlib.Core.Path.{◌≡◌}
use native.Mathlib.Omega.{arith}
use Rattle.tree.specs.Rows.{Row}
use Rattle.blocks.specs.RowNumbers.{row_word}
use Rattle.laws.specs.Geometry.{SmallRow}
use Rattle.nodes.specs.RowNodes.{node_in}
use Rattle.walks.proofs.RowFields.{Six, row_six}

module _ {r : Row} (s : SmallRow r) where
  six : Six (row_word r) r.x r.y r.ew r.eh r.qt r.mtt
  six =
      let x = s.x_fits in
      let y = s.y_fits in
      let w = s.most_w in
      let h = s.most_h in
      let d = s.depths in
      row_six r (omega arith) (omega arith) (omega arith) (omega arith) (omega arith) (omega arith)

  pub says_x : (node_in (row_word r)).x ≡ r.x
  unfolding node_in
  says_x = six.at_x

  pub says_y : (node_in (row_word r)).y ≡ r.y
  unfolding node_in
  says_y = six.at_y

  pub says_w : (node_in (row_word r)).w ≡ 2 ^ r.ew
  unfolding node_in
  says_w = rw six.at_w

  pub says_h : (node_in (row_word r)).h ≡ 2 ^ r.eh
  unfolding node_in
  says_h = rw six.at_h
