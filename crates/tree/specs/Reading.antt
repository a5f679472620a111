-- The reading of a node: the rows that flags give.
use Rattle.std.specs.Prelude.{ℕ, zero, suc, ◌+◌, ◌-◌, List}
use Rattle.tree.specs.declared.Node.{Node}
use Rattle.tree.specs.Flags.{Choice}
use Rattle.tree.specs.Flags.{Chosen, Refused}
use Rattle.tree.specs.Kind.{Kind}
use Rattle.tree.specs.Splits.{rights_of}
use Rattle.tree.specs.Flags.{decide}
use Rattle.tree.specs.Children.{children}
use Rattle.tree.specs.Rows.{Row, own_rows}
use Rattle.tree.specs.Run.{Run, refuse, before, over_all}

-- the levels that are left below a node: each split adds 1 to a depth and takes from a side, and the sides of a unit are 256 together at most
abbrev pub levels_left : Node → ℕ
levels_left n = 256 - (n.qt + n.mtt)

-- a node of which the decision is read: a leaf's row, or the children's rows
unfoldable pub enter : Kind → Node → (Node → ℕ → Run Row ℕ) → Choice → Run Row ℕ
enter k n go (Refused number place) = refuse number place
enter k n go (Chosen d at) = before (own_rows n d) (over_all k.limits go (children k.limits n d) at)

-- "a node hands its area to its children, and each child is again a node": the rows of a node from a place of the flags, and the next place.
-- The first argument is the levels that are left; a coding tree never uses them up.
unfoldable pub walk : ℕ → Kind → List ℕ → Node → ℕ → Run Row ℕ
walk zero k flags n at = refuse 0 0
walk (suc levels) k flags n at = enter k n (λ c next. walk levels k flags c next) (decide (rights_of k n) flags at)

-- the reading of a node from a place of the flags
abbrev pub read_node : Kind → List ℕ → Node → ℕ → Run Row ℕ
read_node k flags n at = walk (levels_left n) k flags n at
