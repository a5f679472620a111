-- What holds of the leaves of coding trees holds of their rows.
use mathlib.Core.Path.{◌≡◌}
use mathlib.Core.Bool.{true}
use mathlib.Core.List.{List}
use Rattle.tree.specs.declared.Node.{Node}
use Rattle.tree.specs.declared.Decision.{Decision}
use Rattle.tree.specs.Kind.{Kind}
use Rattle.tree.specs.Splits.{inside, rights_of, allows}
use Rattle.tree.specs.Children.{children}
use Rattle.tree.specs.Rows.{Row, row_of}
use Rattle.tree.specs.Tree.{Trees, rows_of}
use Rattle.laws.specs.Every.{Every, every_none, every_more}
use Rattle.laws.proofs.Joins.{every_joins, own_joined, tree_joined}

-- From a property of nodes that allowed decisions hand down to the children: what it says of the row of a leaf, it says of all rows.
module _ (k : Kind) {P : Node → Type 0} {Q : Row → Type 0}
    (kids : (n : Node) → P n → (d : Decision) → allows (rights_of k n) d ≡ true → Every P (children k.limits n d))
    (leaf : (n : Node) → P n → inside k.limits n ≡ true → Q (row_of n)) where
  pub every_row_lem : {ns : List Node} (t : Trees k ns) → Every P ns → Every Q (rows_of t)
  every_row_lem t ps =
      let joins = every_joins Q in
      tree_joined k joins (λ n p d here ok below rows. joins.join (own_joined k joins n (λ i. every_more (leaf n p i) every_none) d ok) (rows (kids n p d ok))) t ps
