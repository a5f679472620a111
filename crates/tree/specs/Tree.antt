-- The coding tree: what a reading means.
use Rattle.std.specs.Prelude.{ℕ, ◌≡◌, true, false, List, [], ◌∷◌, ◌++◌}
use Rattle.tree.specs.declared.Node.{Node}
use Rattle.tree.specs.declared.Decision.{Decision}
use Rattle.tree.specs.Kind.{Kind}
use Rattle.tree.specs.Splits.{rights_of, allows}
use Rattle.tree.specs.Flags.{flags_for}
use Rattle.tree.specs.Children.{children, corner_inside}
use Rattle.tree.specs.Rows.{Row, own_rows}

-- A coding tree for each node of a list: none for a node whose corner is outside the picture; else a decision that the node allows (an open split,
-- or a leaf inside the picture) and coding trees for its children.
pub data Trees (k : Kind) : List Node → Type 0 where
  none : Trees k []
  skip : {n : Node} {ns : List Node} → corner_inside k.limits n ≡ false → Trees k ns → Trees k (n ∷ ns)
  node : {n : Node} {ns : List Node} (d : Decision) → corner_inside k.limits n ≡ true → allows (rights_of k n) d ≡ true → Trees k (children k.limits n d) → Trees k ns → Trees k (n ∷ ns)

-- the coding trees of one node
abbrev pub Tree : Kind → Node → Type 0
Tree k n = Trees k (n ∷ [])

module _ {k : Kind} where
  -- their flags and their rows, in coding order
  unfoldable pub flags_of : {ns : List Node} → Trees k ns → List ℕ
  flags_of none = []
  flags_of (skip out rest) = flags_of rest
  flags_of (node {n = n} d here ok kids rest) = flags_for (rights_of k n) d ++ (flags_of kids ++ flags_of rest)

  unfoldable pub rows_of : {ns : List Node} → Trees k ns → List Row
  rows_of none = []
  rows_of (skip out rest) = rows_of rest
  rows_of (node {n = n} d here ok kids rest) = (own_rows n d ++ rows_of kids) ++ rows_of rest
