-- The tables of two coding trees of one unit have the same samples, each once: those of the unit that lie in the picture.
use Prim.Native.Nat.{ℕ, ◌/◌}
use mathlib.Core.Path.{◌≡◌, sym, ◌∙◌}
use Rattle.tree.specs.declared.Node.{Node}
use Rattle.tree.specs.Kind.{Kind}
use Rattle.tree.specs.Tree.{Tree, rows_of}
use Rattle.laws.specs.Geometry.{copies}
use Rattle.laws.proofs.Cover.{covered}
use Rattle.laws.proofs.Grids.{root_shape}
use Rattle.laws.proofs.TreeSamples.{tree_once}
use Rattle.unit.proofs.Roots.{Root}
use Rattle.cells.proofs.Trees.{tree_celled}
use Rattle.compare.specs.Tests.{Tiles, Comparable}

module _ {k : Kind} {root : Node} (r : Root k root) where
  tree_tiles : (t : Tree k root) → Tiles (rows_of t)
  tree_tiles t = record {
    across = root.x / 128;
    down = root.y / 128;
    celled = tree_celled r t;
    once = λ px py. (tree_once r.valid (root_shape r.square) t).most px py;
  }

  same_samples : (t u : Tree k root) (px py : ℕ) → copies px py (rows_of t) ≡ copies px py (rows_of u)
  same_samples t u px py = let sh = root_shape r.square in covered r.valid sh t px py ∙ sym (covered r.valid sh u px py)

  pub trees_comparable : (t u : Tree k root) → Comparable (rows_of t) (rows_of u)
  trees_comparable t u = record { one = tree_tiles t; other = tree_tiles u; same = same_samples t u }
