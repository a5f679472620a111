-- The map of a unit: each cell inside the unit and the picture holds its row.
use Prim.Native.Nat.{ℕ, ◌/◌}
use mathlib.Core.Path.{◌≡◌, refl}
use mathlib.Core.List.{List}
use native.Mathlib.Omega.{arith}
use lib.ListN.{length}
use lib.Pow.{pow_pos}
use Rattle.tree.specs.declared.Node.{Node}
use Rattle.tree.specs.declared.Direction.TheVariants.{Horizontal, Vertical}
use Rattle.tree.specs.Kind.{Kind}
use Rattle.tree.specs.Rows.{Row}
use Rattle.tree.specs.Tree.{Tree, rows_of}
use Rattle.laws.specs.Every.{Every}
use Rattle.laws.specs.CellOrder.{RowIn}
use Rattle.laws.proofs.Cells.{InOne, small_in_one}
use Rattle.laws.proofs.Copies.{some_row_lem}
use Rattle.laws.proofs.Every.{every_map, every_both}
use Rattle.laws.proofs.Grids.{root_at_lem, root_shape}
use Rattle.laws.proofs.Multiples.{fold_multiple, trans_multiple}
use Rattle.laws.proofs.Numbered.{every_of}
use Rattle.laws.proofs.Order.{Within, tree_within}
use Rattle.laws.proofs.TreeSamples.{tree_once, tree_all}
use Rattle.laws.proofs.WholeCells.{rows_of_fours}
use Rattle.unit.proofs.Roots.{Root}
use Rattle.unit.proofs.RootTree.{root_small}
use Rattle.cells.specs.Held.{Celled, Held, filled_by, HoldsUnit}
use Rattle.cells.proofs.Holding.{rows_held}

module _ {k : Kind} {root : Node} (r : Root k root) (t : Tree k root) where
  abbrev across : ℕ
  across = root.x / 128

  abbrev down : ℕ
  down = root.y / 128

  -- the root lies in one square of 128 by 128, and so does each row
  in_one : InOne 128 root
  in_one = small_in_one (record { power = 5; is = refl }) (root_shape r.square) (root_at_lem r.square) (λ e. ((root_shape r.square).side e).most)

  lies : (row : Row) → Within root row → RowIn 128 across down row
  lies row w =
      let a = in_one.cell Vertical in
      let b = in_one.cell Horizontal in
      let sx = w.starts Vertical in
      let sy = w.starts Horizontal in
      let ex = w.ends Vertical in
      let ey = w.ends Horizontal in
      let p = pow_pos row.ew in
      let q = pow_pos row.eh in
      record { one = record { across = omega arith; down = omega arith }; corner = (omega arith, omega arith) }

  pub tree_celled : Every (Celled across down) (rows_of t)
  tree_celled =
      let sh = root_shape r.square in
      let fours = rows_of_fours r.valid sh (λ e. trans_multiple (fold_multiple (sh.side e).fold) (root_at_lem r.square e)) t in
      every_map (λ row p. record { small = p.0; whole = p.1.0; lies = lies row p.1.1 }) (every_both (root_small r t) (every_both fours (tree_within r.valid root t sh)))

  tree_held : (map : List ℕ) → length map ≡ 1024 → Every (Held (filled_by map (rows_of t))) (rows_of t)
  tree_held map long = rows_held tree_celled (λ px py. (tree_once r.valid (root_shape r.square) t).most px py) map long

  pub each_cell : (map : List ℕ) → length map ≡ 1024 → HoldsUnit k root (rows_of t) (filled_by map (rows_of t))
  each_cell map long = record {
    each = λ px py left right top bottom wide high.
        let all = tree_all r.valid (root_shape r.square) t px py (record { low = left; high = right }) (record { low = top; high = bottom }) wide high in
        let found = some_row_lem px py (rows_of t) (omega arith) in
        let held = every_of (tree_held map long) found.0 found.1.is in
        (found.0, record { row = found.1.row; is = found.1.is; has = (found.1.has, held.at px py found.1.has) });
  }
