-- What the flags of a unit say: a coding tree for each of its parts. A greyscale unit has one part, its root. The laws
-- that prove demand 3 speak of this; its statement does not.
use Rattle.std.specs.Prelude.{ℕ, ◌+◌, Bool, cond, List, [], ◌∷◌, ◌++◌}
use Rattle.tree.specs.declared.Node.{Node}
use Rattle.tree.specs.Kind.{Kind}
use Rattle.tree.specs.Rows.{Row}
use Rattle.tree.specs.Tree.{Tree, flags_of, rows_of}
use Rattle.laws.specs.Geometry.{rectangle}

-- a part of a unit: the table that its rows go to, the kind of its tree, and the root
pub record UnitPart (Table : Type 0) : Type 0 where
  pub table : Table
  pub kind : Kind
  pub root : Node

-- a coding tree for each part, in the order of their flags
pub data Forest {Table : Type 0} : List (UnitPart Table) → Type 0 where
  no_tree : Forest []
  a_tree : {p : UnitPart Table} {ps : List (UnitPart Table)} → Tree p.kind p.root → Forest ps → Forest (p ∷ ps)

module _ {Table : Type 0} where
  -- the flags, part after part
  unfoldable pub forest_flags : {ps : List (UnitPart Table)} → Forest ps → List ℕ
  forest_flags no_tree = []
  forest_flags (a_tree t ts) = flags_of t ++ forest_flags ts

  -- the rows that go to a table, by the test which table is which
  unfoldable pub forest_rows : (same : Table → Table → Bool) → Table → {ps : List (UnitPart Table)} → Forest ps → List Row
  forest_rows same i no_tree = []
  forest_rows same i (a_tree {p = p} t ts) = cond (same i p.table) (rows_of t) [] ++ forest_rows same i ts

  -- how many roots of parts of a table contain (px, py)
  unfoldable pub root_copies : (same : Table → Table → Bool) → Table → List (UnitPart Table) → ℕ → ℕ → ℕ
  root_copies same i [] px py = 0
  root_copies same i (p ∷ ps) px py =
      cond (same i p.table) (rectangle p.root.x p.root.y p.root.w p.root.h px py) 0
      + root_copies same i ps px py
