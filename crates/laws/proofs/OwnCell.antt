-- A coding tree whose node is one cell: while its rows come, each lies in the cell; after the last one, all of its samples are there.
use Prim.Native.Nat.{ℕ, ◌+◌, ◌*◌, ◌/◌, ◌≤◌, ◌<◌}
use mathlib.Core.Path.{◌≡◌, refl, sym, ◌∙◌}
use mathlib.Core.List.{[]}
use lib.ListN.{length, take, drop, drop_of_length-le}
use lib.Pow.{pow_pos}
use native.Mathlib.Omega.{arith}
use native.Mathlib.Nat.{div-eq_of_lt-le, mul-div_right, div-mul-le_self, lt-div-mul-add}
use native.Mathlib.Decide.{dec_lt}
use Rattle.tree.specs.declared.Node.{Node}
use Rattle.tree.specs.declared.Direction.{Direction}
use Rattle.tree.specs.declared.Direction.TheVariants.{Horizontal, Vertical}
use Rattle.tree.specs.Kind.{Kind}
use Rattle.tree.specs.Splits.{along}
use Rattle.tree.specs.Rows.{Row}
use Rattle.tree.specs.Tree.{Tree, rows_of}
use Rattle.laws.specs.Geometry.{copies}
use Rattle.laws.specs.Every.{Every}
use Rattle.laws.specs.CellOrder.{RowIn, Begun, Full, RowAt}
use Rattle.laws.specs.Proper.{Proper}
use Rattle.laws.specs.Directions.{corner}
use Rattle.laws.specs.Multiples.{Multiple}
use Rattle.laws.specs.Shape.{Shape}
use Rattle.laws.proofs.Every.{every_map, every_both}
use Rattle.laws.proofs.Multiples.{fold_least}
use Rattle.laws.proofs.Leaves.{row_start, row_exponent}
use Rattle.laws.proofs.Order.{Within, tree_within}
use Rattle.laws.proofs.Rectangles.{Between}
use Rattle.laws.proofs.Copies.{copies_zero, copies_parts}
use Rattle.laws.proofs.Numbered.{every_at}
use Rattle.laws.proofs.CellOrder.{FilledIfOnce}
use Rattle.laws.proofs.TreeSamples.{in_node, tree_all}
use Rattle.laws.proofs.Pipeline.{in_one}

-- ---- the samples of a cell, in one dimension

module _ {c a : ℕ} (some : 0 < c) (m : Multiple c a) (p : ℕ) where
  cell_start : a / c ≡ m.times
  cell_start = rw m.is (mul-div_right m.times some)

  to_cell : Between a c p → p / c ≡ a / c
  to_cell b =
      let e = m.is in
      let l = b.low in
      let h = b.high in
      let q : p / c ≡ m.times = div-eq_of_lt-le c (omega arith) (omega arith) in
      q ∙ sym cell_start

  from_cell : p / c ≡ a / c → Between a c p
  from_cell e =
      let q : p / c ≡ m.times = e ∙ cell_start in
      let l : p / c * c ≤ p = div-mul-le_self p c in
      let h : p < p / c * c + c = lt-div-mul-add some in
      let i = rw q at l in
      let j = rw q at h in
      let s = m.is in
      record { low = omega arith; high = omega arith }

-- ---- a square at a multiple of its side

module _ {k : Kind} (v : Proper k) {n : Node} (sh : Shape n) (square : n.w ≡ n.h)
    (at : (e : Direction) → Multiple (along e n) (corner e n)) (t : Tree k n) where
  side : (e : Direction) → along e n ≡ n.w
  side Horizontal = sym square
  side Vertical = refl

  some_side : 0 < n.w
  some_side = let l = fold_least (sh.side Vertical).fold in omega arith

  at_side : (e : Direction) → Multiple n.w (corner e n)
  at_side e = rw (← side e) (at e)

  same_cell : (e : Direction) (p : ℕ) → Between (corner e n) (along e n) p → p / n.w ≡ corner e n / n.w
  same_cell e p b = to_cell some_side (at_side e) p (rw (side e) at b)

  from_corner : (r : Row) → Within n r → (e : Direction) → Between (corner e n) (along e n) (row_start e r)
  from_corner r w e = let p = pow_pos (row_exponent e r) in let i = w.ends e in record { low = w.starts e; high = omega arith }

  rows_in_lem : Every (RowIn n.w (n.x / n.w) (n.y / n.w)) (rows_of t)
  rows_in_lem =
      every_map (λ r i. record { one = i.0; corner = (same_cell Vertical r.x (from_corner r i.1 Vertical), same_cell Horizontal r.y (from_corner r i.1 Horizontal)) })
      (every_both (in_one v sh square at t n.w (sh.side Vertical).fold (omega arith)) (tree_within v n t sh))

  module _ (across down next : ℕ) (out : ¬ RowAt (RowIn n.w across down) (rows_of t) next)
      (b : Begun n.w across down (take next (rows_of t))) where
    this_cell : (n.x / n.w ≡ across) × (n.y / n.w ≡ down)
    this_cell =
        let s = b.there in
        let e = copies_parts b.px b.py next (rows_of t) in
        let i = in_node v sh t b.px b.py (omega arith) in
        (sym (same_cell Vertical b.px i.0) ∙ b.sample.0, sym (same_cell Horizontal b.py i.1) ∙ b.sample.1)

    at_end : length (rows_of t) ≤ next
    at_end = go (dec_lt next (length (rows_of t)))
      where
        go : Dec (next < length (rows_of t)) → length (rows_of t) ≤ next
        go (yes h) = let c = this_cell in absurd (out (rw (← c.0, ← c.1) (every_at rows_in_lem next h)))
        go (no h) = omega arith

    full : Full n.w k.limits.width k.limits.height across down (take next (rows_of t))
    full qx qy q wide high =
        let c = this_cell in
        let x = from_cell some_side (at_side Vertical) qx (q.0 ∙ sym c.0) in
        let y = from_cell some_side (at_side Horizontal) qy (q.1 ∙ sym c.1) in
        let e = tree_all v sh t qx qy x (rw (← square) y) (omega arith) (omega arith) in
        let s = copies_parts qx qy next (rows_of t) in
        let d : copies qx qy (drop next (rows_of t)) ≡ 0 = rw (drop_of_length-le (rows_of t) at_end) (copies_zero qx qy []) in
        omega arith

  pub own_filled : FilledIfOnce k.limits.width k.limits.height n.w (rows_of t)
  own_filled = record { where_once = λ o. record { all = full } }
