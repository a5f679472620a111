-- The row number of a child: its parent's, and the step to the part.
use Prim.Native.Nat.{ℕ, ◌+◌, ◌-◌, ◌*◌, ◌/◌, ◌%◌, ◌<◌, ◌≤◌}
use mathlib.Core.Path.{◌≡◌, refl, ap, ◌∙◌}
use mathlib.Core.Bool.{Bool, true, false, cond}
use lib.Dec.{eqb}
use native.Mathlib.Omega.{arith}
use Rattle.sides.specs.Side.{exponent}
use Rattle.tree.specs.declared.Limits.{Limits}
use Rattle.tree.specs.declared.Node.{Node}
use Rattle.tree.specs.declared.Share.{Share}
use Rattle.tree.specs.declared.Decision.{Decision}
use Rattle.tree.specs.declared.Decision.TheVariants.{Leaf, Quad, Binary, Ternary}
use Rattle.tree.specs.declared.Direction.TheVariants.{Horizontal, Vertical}
use Rattle.tree.specs.Children.{child_qt, child_mtt, child}
use Rattle.tree.specs.Rows.{row_of}
use Rattle.blocks.specs.Table.{share_at}
use Rattle.blocks.specs.RowNumbers.{row_word}
use Rattle.laws.proofs.Parts.{Piece, no_piece, slice}
use Rattle.nodes.specs.RowNodes.{node_in, fall, deeper, step_to, child_row}
use Rattle.walks.specs.Stands.{Placed}
use Rattle.walks.proofs.Sides.{one_least, exponent_of, exponent_falls}
use Rattle.walks.proofs.RowFields.{packed, Fits, row_packed, fits, width_says, height_says}

-- ---- six numbers in one, and a step

-- a step to a part: its start is within 16 bits, and its exponents are less by their falls
record Step (x y a b left top f g a' b' : ℕ) : Type 0 where
  x_fits_lem : x + left < 65536
  y_fits_lem : y + top < 65536
  a_fits : a < 8
  b_fits : b < 8
  f_small : f ≤ 2
  g_small : g ≤ 2
  a_falls : a' + f ≡ a
  b_falls : b' + g ≡ b

module _ {x y a b left top f g a' b' : ℕ} (s : Step x y a b left top f g a' b') (q m : ℕ) where
  cut_packed : q < 256 → m + 1 < 256
      → (packed x y a b q m + (72057594037927936 + left + top * 65536 - (f * 4294967296 + g * 1099511627776))) % 18446744073709551616 ≡ packed (x + left) (y + top) a' b' q (m + 1)
  cut_packed hq hm = omega (arith, s)

  quad_packed : q + 1 < 256 → m < 256
      → packed x y a b q m % 72057594037927936 + (281474976710656 + left + top * 65536 - (f * 4294967296 + g * 1099511627776)) ≡ packed (x + left) (y + top) a' b' (q + 1) 0
  quad_packed hq hm = omega (arith, s)

-- ---- a part

fall_small : (q : ℕ) → fall q ≤ 2
fall_small q = go (eqb q 1) (eqb q 2)
  where
    go : (a b : Bool) → cond a 2 (cond b 1 0) ≤ 2
    go true b = omega arith
    go false true = omega arith
    go false false = omega arith

module _ {l : Limits} {n : Node} {row : ℕ} (s : Placed l n) (is : row ≡ row_word (row_of n)) {d : Decision} {p : Share} (piece : Piece d p) (c : Fits (child l n d p)) where
  part_step : Step n.x n.y (exponent n.w) (exponent n.h) (n.w / 4 * p.left) (n.h / 4 * p.top) (fall p.wide) (fall p.high) (exponent (n.w / 4 * p.wide)) (exponent (n.h / 4 * p.high))
  unfolding child
  part_step =
      let f = fits s in
      let v = slice piece Vertical in
      let h = slice piece Horizontal in
      let vf = v.fits in
      let hf = h.fits in
      record {
        x_fits_lem = c.x_fits_lem;
        y_fits_lem = c.y_fits_lem;
        a_fits = (exponent_of f.wide).small;
        b_fits = (exponent_of f.high).small;
        f_small = fall_small p.wide;
        g_small = fall_small p.high;
        a_falls = exponent_falls f.wide p.wide (one_least c.wide) (omega arith) v.long_not;
        b_falls = exponent_falls f.high p.high (one_least c.high) (omega arith) h.long_not;
      }

  -- the step as the node says it
  step_is : step_to row d p ≡ deeper d + n.w / 4 * p.left + n.h / 4 * p.top * 65536 - (fall p.wide * 4294967296 + fall p.high * 1099511627776)
  unfolding node_in
  step_is = rw (width_says s is, height_says s is)

  row_is : row ≡ packed n.x n.y (exponent n.w) (exponent n.h) n.qt n.mtt
  row_is = is ∙ row_packed (fits s)

  cut_row : (child l n d p).qt ≡ n.qt → (child l n d p).mtt ≡ n.mtt + 1 → deeper d ≡ 72057594037927936 → (row + step_to row d p) % 18446744073709551616 ≡ row_word (row_of (child l n d p))
  unfolding child
  cut_row eq em ed =
      let hm = c.mtt_fits_lem in
      rw (step_is, ed, row_packed c, eq, em, row_is) (cut_packed part_step n.qt n.mtt (fits s).qt_fits_lem (omega arith))

  quad_row : (child l n d p).qt ≡ n.qt + 1 → (child l n d p).mtt ≡ 0 → deeper d ≡ 281474976710656 → row % 72057594037927936 + step_to row d p ≡ row_word (row_of (child l n d p))
  unfolding child
  quad_row eq em ed =
      let hq = c.qt_fits_lem in
      rw (step_is, ed, row_packed c, eq, em, row_is) (quad_packed part_step n.qt n.mtt (omega arith) (fits s).mtt_fits_lem)

-- the row of a node that fits is a number of 64 bits
word_fits : {n : Node} → Fits n → row_word (row_of n) % 18446744073709551616 ≡ row_word (row_of n)
word_fits f =
    let a = (exponent_of f.wide).small in
    let b = (exponent_of f.high).small in
    let x = f.x_fits_lem in
    let y = f.y_fits_lem in
    let q = f.qt_fits_lem in
    let m = f.mtt_fits_lem in
    let e = row_packed f in
    omega arith

pub child_row_lem : {l : Limits} {n : Node} {row : ℕ} → Placed l n → row ≡ row_word (row_of n) → (d : Decision) (i : ℕ) → Piece d (share_at d i) → Fits (child l n d (share_at d i))
    → child_row row d i ≡ row_word (row_of (child l n d (share_at d i)))
unfolding child_row child child_qt child_mtt
child_row_lem s is Leaf i piece c = no_piece piece
child_row_lem s is Quad i piece c = ap (λ r. r % 18446744073709551616) (quad_row s is piece c refl refl refl) ∙ word_fits c
child_row_lem s is (Binary d) i piece c = cut_row s is piece c refl refl refl
child_row_lem s is (Ternary d) i piece c = cut_row s is piece c refl refl refl
