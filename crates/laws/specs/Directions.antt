-- A node and the picture by direction.
use Rattle.std.specs.Prelude.{ℕ}
use Rattle.tree.specs.declared.Limits.{Limits}
use Rattle.tree.specs.declared.Node.{Node}
use Rattle.tree.specs.declared.Direction.{Direction}
use Rattle.tree.specs.Splits.{pick}

-- a node's corner and the picture's end, in the dimension that a cut of direction e divides
abbrev pub corner : Direction → Node → ℕ
corner e n = pick e n.y n.x

abbrev pub extent : Direction → Limits → ℕ
extent e l = pick e l.height l.width
