-- The rows of a coding tree have the pipeline units one after the other: a node above one consists of whole ones, and so do its children.
use Prim.Native.Nat.{ℕ, zero, suc, ◌/◌, ◌^◌, ◌≤◌, ◌<◌, max}
use mathlib.Core.Path.{◌≡◌, sym, subst, ◌∙◌}
use mathlib.Core.Bool.{true}
use mathlib.Core.List.{List, [], ◌∷◌, ◌++◌, append-nil}
use lib.ListN.{take}
use native.Mathlib.Omega.{arith}
use native.Mathlib.Decide.{dec_lt}
use Rattle.tree.specs.declared.Node.{Node}
use Rattle.tree.specs.declared.Direction.{Direction}
use Rattle.tree.specs.declared.Direction.TheVariants.{Horizontal, Vertical}
use Rattle.tree.specs.declared.Decision.{Decision}
use Rattle.tree.specs.Kind.{Kind}
use Rattle.tree.specs.Splits.{along, rights_of, allows}
use Rattle.tree.specs.Children.{children, corner_inside}
use Rattle.tree.specs.Rows.{Row, own_rows}
use Rattle.tree.specs.Tree.{Trees, Tree, none, node, rows_of}
use Rattle.laws.specs.Geometry.{in_row, copies, OfWholeCells, pipeline_side}
use Rattle.laws.specs.Every.{Every, every_none, every_more}
use Rattle.laws.specs.CellOrder.{CellByCell}
use Rattle.laws.specs.Proper.{Proper}
use Rattle.laws.specs.Directions.{corner}
use Rattle.laws.specs.Multiples.{Multiple}
use Rattle.laws.specs.Shape.{Shape}
use Rattle.laws.proofs.Multiples.{fold_least}
use Rattle.laws.proofs.Joins.{Joins, own_joined, tree_joined}
use Rattle.laws.proofs.Rectangles.{rectangle_in, in_rectangle}
use Rattle.laws.proofs.Copies.{copies_none}
use Rattle.laws.proofs.CellOrder.{FilledIfOnce, filled_joins, cell_by_cell}
use Rattle.laws.proofs.TreeSamples.{tree_once}
use Rattle.laws.proofs.OwnCell.{own_filled}
use Rattle.laws.proofs.Pipeline.{side_to_64, side_from_64, Whole, whole_leaf, whole_kids, square_whole}

-- ---- a row of whole cells: it has all samples of each

module _ {r : Row} (w : OfWholeCells 64 r) (px py qx qy : ℕ) (same : (px / 64 ≡ qx / 64) × (py / 64 ≡ qy / 64)) where
  whole_samples : 0 < in_row r px py → in_row r qx qy ≡ 1
  whole_samples h =
      let i = in_rectangle r.x r.y (2 ^ r.ew) (2 ^ r.eh) px py h in
      let x = i.0 in
      let y = i.1 in
      rectangle_in r.x r.y (2 ^ r.ew) (2 ^ r.eh) qx qy (record { low = omega arith; high = omega arith }) (record { low = omega arith; high = omega arith })

module _ (width height : ℕ) {r : Row} (w : OfWholeCells 64 r) where
  whole_row : (next px py qx qy : ℕ) → (px / 64 ≡ qx / 64) × (py / 64 ≡ qy / 64) → 0 < copies px py (take next (r ∷ [])) → copies qx qy (take next (r ∷ [])) ≡ 1
  unfolding copies
  whole_row zero px py qx qy same begun = absurd (omega arith)
  whole_row (suc next) px py qx qy same begun =
      let a = copies_none px py next in
      let b = copies_none qx qy next in
      let e = whole_samples w px py qx qy same (omega arith) in
      omega arith

  row_filled : FilledIfOnce width height 64 (r ∷ [])
  row_filled = record {
    where_once = λ o. record {
      all = λ across down next out b qx qy q wide high.
          let p = b.sample in
          whole_row next b.px b.py qx qy (p.0 ∙ sym q.0, p.1 ∙ sym q.1) b.there;
    };
  }

module _ {k : Kind} (v : Proper k) where
  -- ---- a node of whole cells

  abbrev Filled64 : List Row → Type 0
  Filled64 rows = FilledIfOnce k.limits.width k.limits.height 64 rows

  joins : Joins Filled64
  joins = filled_joins _ _ 64

  -- one that is one cell
  one_filled : (n : Node) → Whole n → max n.w n.h ≤ 64 → (t : Tree k n) → Filled64 (rows_of t)
  one_filled n w small t =
      let a = fold_least (w.grid.side Vertical) in
      let b = fold_least (w.grid.side Horizontal) in
      let e : n.w ≡ 64 = omega arith in
      subst (λ c. FilledIfOnce k.limits.width k.limits.height c (rows_of t)) e (own_filled v w.shape (omega arith) (at (omega arith) (omega arith)) t)
    where
      at : n.w ≡ 64 → n.h ≡ 64 → (e : Direction) → Multiple (along e n) (corner e n)
      at x y Horizontal = rw y (w.grid.at Horizontal)
      at x y Vertical = rw x (w.grid.at Vertical)

  -- a longer one has children of whole cells
  node_filled : (n : Node) → Whole n → (d : Decision) → corner_inside k.limits n ≡ true → allows (rights_of k n) d ≡ true → (kids : Trees k (children k.limits n d))
      → (Every Whole (children k.limits n d) → Filled64 (rows_of kids)) → Filled64 (own_rows n d ++ rows_of kids)
  unfolding rows_of
  node_filled n w d here ok kids below = go (dec_lt 64 (max n.w n.h))
    where
      go : Dec (64 < max n.w n.h) → Filled64 (own_rows n d ++ rows_of kids)
      go (yes long) = joins.join (own_joined k joins n (λ i. row_filled _ _ (whole_leaf n w)) d ok) (below (whole_kids v n w long d ok))
      go (no long) = rw append-nil at (one_filled n w (omega arith) (node d here ok kids none))

  -- ---- a square at a multiple of its side, as a unit is

  module _ {n : Node} (sh : Shape n) (square : n.w ≡ n.h) (at : (e : Direction) → Multiple (along e n) (corner e n)) (t : Tree k n) where
    pub tree_filled : FilledIfOnce k.limits.width k.limits.height (pipeline_side n.w) (rows_of t)
    tree_filled = go (dec_lt 64 n.w)
      where
        go : Dec (64 < n.w) → FilledIfOnce k.limits.width k.limits.height (pipeline_side n.w) (rows_of t)
        go (yes h) = rw (side_from_64 n.w (omega arith)) (tree_joined k joins node_filled t (every_more (square_whole sh square at h) every_none))
        go (no h) = rw (side_to_64 n.w (omega arith)) (own_filled v sh square at t)

    -- R-14's law of one tree
    pub tree_cell_by_cell : {side : ℕ} → side ≡ pipeline_side n.w → CellByCell side k.limits.width k.limits.height (rows_of t)
    tree_cell_by_cell e = rw e (cell_by_cell _ _ _ (tree_once v sh t) tree_filled)
