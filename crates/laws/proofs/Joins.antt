-- Properties of tables that a joined table has where its parts have them.
use mathlib.Core.Path.{◌≡◌}
use mathlib.Core.Bool.{true}
use mathlib.Core.List.{List, [], ◌∷◌, ◌++◌}
use Rattle.tree.specs.declared.Node.{Node}
use Rattle.tree.specs.declared.Decision.{Decision}
use Rattle.tree.specs.declared.Decision.TheVariants.{Leaf, Quad, Binary, Ternary}
use Rattle.tree.specs.Kind.{Kind}
use Rattle.tree.specs.Splits.{inside, rights_of, allows}
use Rattle.tree.specs.Children.{children, corner_inside}
use Rattle.tree.specs.Rows.{Row, row_of, own_rows}
use Rattle.tree.specs.Tree.{Trees, none, skip, node, rows_of}
use Rattle.laws.specs.Every.{Every, every_none, every_more}
use Rattle.laws.proofs.Every.{every_join}

pub record Joins (F : List Row → Type 0) : Type 0 where
  pub empty : F []
  pub join : {first rest : List Row} → F first → F rest → F (first ++ rest)

-- that every row has a property is one
pub every_joins : (P : Row → Type 0) → Joins (λ rows. Every P rows)
every_joins P = record { empty = every_none; join = every_join }

-- ---- the rows of coding trees

module _ (k : Kind) {F : List Row → Type 0} (joins : Joins F) where
  -- a node's own rows, by the row of a leaf
  pub own_joined : (n : Node) → (inside k.limits n ≡ true → F (row_of n ∷ [])) → (d : Decision) → allows (rights_of k n) d ≡ true → F (own_rows n d)
  unfolding own_rows rights_of
  own_joined n leaf Leaf ok = leaf ok
  own_joined n leaf Quad ok = joins.empty
  own_joined n leaf (Binary d) ok = joins.empty
  own_joined n leaf (Ternary d) ok = joins.empty

  -- the rows of trees, by a step at a node: from a property of the node, and given the children's rows where the children have that property
  module _ {P : Node → Type 0}
      (step : (n : Node) → P n → (d : Decision) → corner_inside k.limits n ≡ true → allows (rights_of k n) d ≡ true → (kids : Trees k (children k.limits n d))
      → (Every P (children k.limits n d) → F (rows_of kids)) → F (own_rows n d ++ rows_of kids)) where
    pub tree_joined : {ns : List Node} (t : Trees k ns) → Every P ns → F (rows_of t)
    unfolding rows_of
    tree_joined none ps = joins.empty
    tree_joined (skip out rest) (every_more p ps) = tree_joined rest ps
    tree_joined (node {n = n} d here ok kids rest) (every_more p ps) = joins.join (step n p d here ok kids (tree_joined kids)) (tree_joined rest ps)
