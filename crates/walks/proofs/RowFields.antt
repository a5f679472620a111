-- What the numbers of a node say: the node, but for its part and its parent.
use Prim.Native.Nat.{ℕ, ◌+◌, ◌*◌, ◌/◌, ◌%◌, ◌^◌, ◌<◌, ◌≤◌}
use mathlib.Core.Path.{◌≡◌, sym, ◌∙◌}
use native.Mathlib.Omega.{arith}
use Rattle.sides.specs.Side.{exponent}
use Rattle.tree.specs.declared.Limits.{Limits}
use Rattle.tree.specs.declared.Node.{Node}
use Rattle.tree.specs.declared.Direction.TheVariants.{Horizontal, Vertical}
use Rattle.tree.specs.Splits.{right_out, bottom_out, open_splits}
use Rattle.tree.specs.Children.{corner_inside}
use Rattle.tree.specs.Rows.{Row, row_of}
use Rattle.blocks.specs.RowNumbers.{row_word}
use Rattle.blocks.proofs.RowNumbers.{word_is}
use Rattle.laws.specs.Shape.{Shape}
use Rattle.laws.proofs.Multiples.{fold_least}
use Rattle.laws.proofs.Sides.{One, one_of}
use Rattle.nodes.specs.RowNodes.{node_in}
use Rattle.walks.specs.Stands.{Placed, keeps}
use Rattle.walks.proofs.Sides.{exponent_of}
use Rattle.walks.proofs.MaskLaws.{splits_small}

-- ---- six numbers at their places in one

abbrev pub packed : ℕ → ℕ → ℕ → ℕ → ℕ → ℕ → ℕ
packed x y a b q m = x + y * 65536 + (a + b * 256) * 4294967296 + (q + m * 256) * 281474976710656

pub record Six (row x y a b q m : ℕ) : Type 0 where
  pub at_x : row % 65536 ≡ x
  pub at_y : row / 65536 % 65536 ≡ y
  pub at_w : row / 4294967296 % 8 ≡ a
  pub at_h : row / 1099511627776 % 8 ≡ b
  pub at_qt : row / 281474976710656 % 256 ≡ q
  pub at_mtt : row / 72057594037927936 % 256 ≡ m

unpacked : {x y a b q m : ℕ} → x < 65536 → y < 65536 → a < 8 → b < 8 → q < 256 → m < 256 → (row : ℕ) → row ≡ packed x y a b q m → Six row x y a b q m
unpacked hx hy ha hb hq hm row e = record {
  at_x = omega arith;
  at_y = omega arith;
  at_w = omega arith;
  at_h = omega arith;
  at_qt = omega arith;
  at_mtt = omega arith;
}

-- ---- a row whose numbers fit their places, and such a node

module _ (r : Row) (hx : r.x < 65536) (hy : r.y < 65536) (hw : r.ew < 8) (hh : r.eh < 8) (hq : r.qt < 256) (hm : r.mtt < 256) where
  packed_row : row_word r ≡ packed r.x r.y r.ew r.eh r.qt r.mtt
  packed_row =
      let x : r.x % 65536 ≡ r.x = omega arith in
      let y : r.y % 65536 ≡ r.y = omega arith in
      let w : r.ew % 256 ≡ r.ew = omega arith in
      let h : r.eh % 256 ≡ r.eh = omega arith in
      let q : r.qt % 256 ≡ r.qt = omega arith in
      let m : r.mtt % 256 ≡ r.mtt = omega arith in
      sym (word_is r) ∙ rw (x, y, w, h, q, m)

  pub row_six : Six (row_word r) r.x r.y r.ew r.eh r.qt r.mtt
  row_six = unpacked hx hy hw hh hq hm (row_word r) packed_row

pub record Fits (n : Node) : Type 0 where
  pub wide : One n.w
  pub high : One n.h
  pub x_fits_lem : n.x < 65536
  pub y_fits_lem : n.y < 65536
  pub qt_fits_lem : n.qt < 256
  pub mtt_fits_lem : n.mtt < 256

pub row_packed : {n : Node} → Fits n → row_word (row_of n) ≡ packed n.x n.y (exponent n.w) (exponent n.h) n.qt n.mtt
unfolding row_of
row_packed {n} f = packed_row (row_of n) f.x_fits_lem f.y_fits_lem (exponent_of f.wide).small (exponent_of f.high).small f.qt_fits_lem f.mtt_fits_lem

row_fields : {n : Node} → Fits n → Six (row_word (row_of n)) n.x n.y (exponent n.w) (exponent n.h) n.qt n.mtt
unfolding row_of
row_fields {n} f = row_six (row_of n) f.x_fits_lem f.y_fits_lem (exponent_of f.wide).small (exponent_of f.high).small f.qt_fits_lem f.mtt_fits_lem

-- ---- the numbers that stand for a node

pub fits_of : {n : Node} → Shape n → n.x + n.w ≤ 65536 → n.y + n.h ≤ 65536 → n.w + n.h + n.qt + n.mtt ≤ 256 → Fits n
fits_of sh right bottom sum =
    let w = sh.side Vertical in
    let h = sh.side Horizontal in
    let lw = fold_least w.fold in
    let lh = fold_least h.fold in
    record { wide = one_of w; high = one_of h; x_fits_lem = omega arith; y_fits_lem = omega arith; qt_fits_lem = omega arith; mtt_fits_lem = omega arith }

pub fits : {l : Limits} {n : Node} → Placed l n → Fits n
fits p = fits_of p.good.shape p.right p.bottom p.sum

pub shallow : {l : Limits} {n : Node} → Placed l n → n.qt + n.mtt < 256
shallow p = let a = fold_least (p.good.shape.side Vertical).fold in let s = p.sum in omega arith

module _ {l : Limits} {n : Node} {row : ℕ} (p : Placed l n) (is : row ≡ row_word (row_of n)) where
  pub row_says : Six row n.x n.y (exponent n.w) (exponent n.h) n.qt n.mtt
  row_says = rw is (row_fields (fits p))

  -- its sides, as the row number says them
  pub width_says : 2 ^ (row / 4294967296 % 8) ≡ n.w
  width_says = rw row_says.at_w (exponent_of (fits p).wide).back

  pub height_says : 2 ^ (row / 1099511627776 % 8) ≡ n.h
  height_says = rw row_says.at_h (exponent_of (fits p).high).back

  pub area_says : 2 ^ (row / 4294967296 % 8) * 2 ^ (row / 1099511627776 % 8) ≡ n.w * n.h
  area_says = rw (width_says, height_says)

  -- where it lies in the picture
  pub right_says : (l : Limits) → right_out l (node_in row) ≡ right_out l n
  unfolding node_in
  right_says l = rw (row_says.at_x, width_says)

  pub bottom_says : (l : Limits) → bottom_out l (node_in row) ≡ bottom_out l n
  unfolding node_in
  bottom_says l = rw (row_says.at_y, height_says)

  pub corner_says : (l : Limits) → corner_inside l (node_in row) ≡ corner_inside l n
  unfolding node_in corner_inside
  corner_says l = rw (row_says.at_x, row_says.at_y)

-- the offset, as the splits that its depths leave say it
pub offset_says : (l : Limits) (n : Node) {depths : ℕ} → depths ≡ n.offset * 64 + open_splits (keeps l n) → depths / 64 ≡ n.offset
offset_says l n e = let b = splits_small (keeps l n) in omega arith
