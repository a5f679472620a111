-- The context numbers of coding trees, by whatever finds a node's neighbours: the standard's way and the store's are two.
use Rattle.std.specs.Prelude.{ℕ, List, [], ◌∷◌, ◌++◌}
use Rattle.tree.specs.declared.Node.{Node}
use Rattle.tree.specs.Kind.{Kind}
use Rattle.tree.specs.Splits.{rights_of}
use Rattle.tree.specs.Rows.{Row, own_rows}
use Rattle.tree.specs.Tree.{Trees, none, skip, node, rows_of}
use Rattle.numbers.specs.Numbers.{Seen, numbers_for}

-- What is known of the blocks coded so far: what a node with the corner (x, y) sees above it, at the sample (x, y - 1), and to its left, at (x - 1, y);
-- and what is known when one block more is coded.
pub record Finder (S : Type 0) : Type 0 where
  pub above : S → ℕ → ℕ → Seen
  pub left : S → ℕ → ℕ → Seen
  pub put : Row → S → S

module _ {S : Type 0} (f : Finder S) where
  -- after rows, in the order of coding
  unfoldable pub put_all : List Row → S → S
  put_all [] s = s
  put_all (r ∷ rows) s = put_all rows (f.put r s)

  -- one number for each flag of `flags_of`
  unfoldable pub contexts_of : {k : Kind} {ns : List Node} → Trees k ns → S → List ℕ
  contexts_of none s = []
  contexts_of (skip out rest) s = contexts_of rest s
  contexts_of {k} (node {n = n} d here ok kids rest) s =
      numbers_for (rights_of k n) n (f.above s n.x n.y) (f.left s n.x n.y) d
      ++ (contexts_of kids s ++ contexts_of rest (put_all (own_rows n d ++ rows_of kids) s))
