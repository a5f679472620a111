-- What is coded before a node.
use Rattle.std.specs.Prelude.{ℕ, ◌-◌, ◌<◌, List, ◌++◌}
use Rattle.tree.specs.declared.Node.{Node}
use Rattle.tree.specs.Kind.{Kind}
use Rattle.tree.specs.Rows.{Row, own_rows}
use Rattle.tree.specs.Tree.{Trees, none, skip, node, rows_of}
use Rattle.laws.specs.Geometry.{copies}
use Rattle.numbers.specs.Walk.{Finder, put_all}

-- something holds of every node of coding trees and of what is known when the node is met
unfoldable pub AtNodes : {S : Type 0} (f : Finder S) (P : Node → S → Type 0) {k : Kind} {ns : List Node} → Trees k ns → S → Type 0
AtNodes f P none s = Unit {0}
AtNodes f P (skip out rest) s = AtNodes f P rest s
AtNodes f P (node {n = n} d here ok kids rest) s = P n s × AtNodes f P kids s × AtNodes f P rest (put_all f (own_rows n d ++ rows_of kids) s)

-- from an origin on, the samples above a node's corner and to its left lie in rows coded before
pub record Behind (x0 y0 : ℕ) (n : Node) (done : List Row) : Type 0 where
  pub above : y0 < n.y → 0 < copies n.x (n.y - 1) done
  pub left : x0 < n.x → 0 < copies (n.x - 1) n.y done
