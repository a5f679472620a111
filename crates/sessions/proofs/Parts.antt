-- The laws of coding trees, for the tree of one part.
use Prim.Native.Nat.{ℕ, ◌+◌, ◌*◌, ◌≤◌, ◌<◌}
use mathlib.Core.Path.{◌≡◌, refl, sym, ap, ◌∙◌}
use mathlib.Core.Bool.{true}
use mathlib.Core.List.{List, ◌++◌}
use native.Mathlib.Omega.{arith}
use Rattle.sides.proofs.Bools.{clash}
use Rattle.tree.specs.declared.Node.{Node}
use Rattle.tree.specs.declared.Direction.TheVariants.{Vertical}
use Rattle.tree.specs.Kind.{Kind}
use Rattle.tree.specs.Children.{corner_inside}
use Rattle.tree.specs.Rows.{Row}
use Rattle.tree.specs.Back.{back_node}
use Rattle.tree.specs.Tree.{Tree, none, skip, node, flags_of, rows_of}
use Rattle.laws.specs.Every.{Every}
use Rattle.laws.specs.Geometry.{rectangle, copies, InOneCell, InPipeline, pipeline_side}
use Rattle.laws.specs.CellOrder.{CellByCell}
use Rattle.laws.specs.Proper.{Proper, RootSquare}
use Rattle.laws.proofs.Edge.{good_root}
use Rattle.laws.proofs.Grids.{root_at_lem, root_shape}
use Rattle.laws.proofs.Cover as cover
use Rattle.laws.proofs.Pipeline.{in_one, in_pipeline}
use Rattle.laws.proofs.CellOrder.{FilledIfOnce}
use Rattle.laws.proofs.PipelineOrder.{tree_filled, tree_cell_by_cell}
use Rattle.laws.proofs.Turning.{TurningIsTree, turning_is_tree}

-- What the laws ask of a kind and a root: a proper kind, the picture's sides, a root of its limits, and pipeline units of
-- R-4's side.
pub record GoodRoot (width height cell : ℕ) (k : Kind) (n : Node) : Type 0 where
  pub proper : Proper k
  pub wide : k.limits.width ≡ width
  pub high : k.limits.height ≡ height
  pub root : RootSquare k.limits n
  pub fits : n.w + n.h + n.qt + n.mtt ≤ 256
  pub pipeline : cell ≡ pipeline_side n.w

module _ {width height cell : ℕ} {k : Kind} {n : Node} (s : GoodRoot width height cell k n) where
  pub part_covered : (t : Tree k n) (px py : ℕ)
      → copies px py (rows_of t) ≡ rectangle n.x n.y n.w n.h px py * rectangle 0 0 width height px py
  part_covered t px py = rw (← s.wide, ← s.high) (cover.covered s.proper (root_shape s.root) t px py)

  pub part_pipeline : (t : Tree k n) → Every (InPipeline cell) (rows_of t)
  part_pipeline t = rw s.pipeline (in_pipeline s.proper (root_shape s.root) s.root.square (root_at_lem s.root) t)

  -- where pipeline units are smaller than 64 by 64, the root is one, and no row leaves it
  pub part_inside : cell < 64 → (t : Tree k n) → Every (InOneCell cell) (rows_of t)
  part_inside small t =
      let e = s.pipeline in
      let own : cell ≡ n.w = omega arith in
      rw own (in_one s.proper (root_shape s.root) s.root.square (root_at_lem s.root) t n.w ((root_shape s.root).side Vertical).fold (omega arith))

  -- R-14: as a part of a joined table, and by itself
  pub part_filled : (t : Tree k n) → FilledIfOnce width height cell (rows_of t)
  part_filled t =
      rw (← s.wide, ← s.high, s.pipeline) (tree_filled s.proper (root_shape s.root) s.root.square (root_at_lem s.root) t)

  pub part_cells : {side : ℕ} → side ≡ cell → (t : Tree k n) → CellByCell side width height (rows_of t)
  part_cells e t =
      rw (← s.wide, ← s.high)
      (tree_cell_by_cell s.proper (root_shape s.root) s.root.square (root_at_lem s.root) t (e ∙ s.pipeline))

  turning : corner_inside k.limits n ≡ true → TurningIsTree k n
  turning here = turning_is_tree s.proper (good_root s.proper s.root) here s.fits

  -- a tree's rows, whatever rows follow them, say its flags and the rows that follow
  module _ (more others : List Row) where
    turned : corner_inside k.limits n ≡ true → (t u : Tree k n) → rows_of t ++ more ≡ rows_of u ++ others
        → (flags_of t ≡ flags_of u) × (more ≡ others)
    turned here t u e =
        let f = sym ((turning here).complete t more) ∙ ap (back_node k n) e ∙ (turning here).complete u others in
        let g = ap (λ r. r.end) f in
        (ap (λ r. r.given) f, cc)

    pub part_legible : (t u : Tree k n) → rows_of t ++ more ≡ rows_of u ++ others
        → (flags_of t ≡ flags_of u) × (more ≡ others)
    unfolding flags_of rows_of
    part_legible (skip out none) (skip out' none) e = (refl, e)
    part_legible (skip out none) (node d here ok kids rest) e = clash here out
    part_legible (node d here ok kids rest) (skip out none) e = clash here out
    part_legible (node d here ok kids rest) (node d' here' ok' kids' rest') e =
        turned here (node d here ok kids rest) (node d' here' ok' kids' rest') e
