-- The nodes that a walk can reach.
use Rattle.std.specs.Prelude.{◌≡◌, true}
use mathlib.Core.List.{Memᴰ}
use Rattle.tree.specs.declared.Node.{Node}
use Rattle.tree.specs.declared.Decision.{Decision}
use Rattle.tree.specs.Kind.{Kind}
use Rattle.tree.specs.Splits.{rights_of, allows}
use Rattle.tree.specs.Children.{children, corner_inside}

-- the root, if its corner lies in the picture; and, for each decision that a reached node allows, every child whose corner
-- lies in the picture
pub data Reached (k : Kind) (root : Node) : Node → Type 0 where
  begins : corner_inside k.limits root ≡ true → Reached k root root
  goes_on : {n c : Node} (d : Decision) → Reached k root n → allows (rights_of k n) d ≡ true
      → Memᴰ c (children k.limits n d)
      → corner_inside k.limits c ≡ true → Reached k root c
