-- Rows that consist of whole cells of a side: those of leaves on a grid of that side, and all rows of a tree for cells of 4 by 4 samples.
use Prim.Native.Nat.{ℕ, ◌%◌}
use mathlib.Core.Path.{◌≡◌}
use mathlib.Core.Bool.{true}
use native.Mathlib.Nat.{mul-mod_right}
use Rattle.tree.specs.declared.Node.{Node}
use Rattle.tree.specs.declared.Direction.{Direction}
use Rattle.tree.specs.declared.Direction.TheVariants.{Horizontal, Vertical}
use Rattle.tree.specs.declared.Decision.{Decision}
use Rattle.tree.specs.Kind.{Kind}
use Rattle.tree.specs.Splits.{rights_of, allows}
use Rattle.tree.specs.Children.{children}
use Rattle.tree.specs.Rows.{row_of}
use Rattle.tree.specs.Tree.{Tree, rows_of}
use Rattle.laws.specs.Geometry.{OfWholeCells}
use Rattle.laws.specs.Every.{Every, every_none, every_more}
use Rattle.laws.specs.Proper.{Proper}
use Rattle.laws.specs.Directions.{corner}
use Rattle.laws.specs.Good.{Grid}
use Rattle.laws.specs.Multiples.{Multiple}
use Rattle.laws.specs.Shape.{Shape}
use Rattle.laws.proofs.Leaves.{leaf_start, leaf_side}
use Rattle.laws.proofs.EveryRow.{every_row_lem}
use Rattle.laws.proofs.Grids.{grid_child}
use Rattle.laws.proofs.Multiples.{fold_multiple, same_multiple}
use Rattle.laws.proofs.Parts.{every_child}
use Rattle.laws.proofs.Shape.{room, shape_child}

no_rest : {m n : ℕ} → Multiple m n → n % m ≡ 0
no_rest {m} a = rw a.is (mul-mod_right m a.times)

pub grid_leaf : (m : ℕ) {n : Node} → Shape n → Grid m n → OfWholeCells m (row_of n)
grid_leaf m {n} sh g = record {
  left = rw (leaf_start n Vertical) (no_rest (g.at Vertical));
  top = rw (leaf_start n Horizontal) (no_rest (g.at Horizontal));
  wide = rw (leaf_side sh Vertical) (no_rest (fold_multiple (g.side Vertical)));
  high = rw (leaf_side sh Horizontal) (no_rest (fold_multiple (g.side Horizontal)));
}

module _ {k : Kind} (v : Proper k) where
  -- an open split leaves sides of 4 at least, so the children are on the grid of 4, too
  fours_kids : (n : Node) → Shape n × Grid 4 n → (d : Decision) → allows (rights_of k n) d ≡ true → Every (λ c. Shape c × Grid 4 c) (children k.limits n d)
  fours_kids n p d ok = every_child k n d (λ c piece. (
    shape_child v p.0 d ok c piece,
    grid_child k.limits (same_multiple 4) p.1 piece (room v p.0 d ok),
  ))

  pub rows_of_fours : {n : Node} → Shape n → ((e : Direction) → Multiple 4 (corner e n)) → (t : Tree k n) → Every (OfWholeCells 4) (rows_of t)
  rows_of_fours sh at t =
      every_row_lem k fours_kids (λ n p h. grid_leaf 4 p.0 p.1) t
      (every_more (sh, record { side = λ e. (sh.side e).fold; at = at }) every_none)
