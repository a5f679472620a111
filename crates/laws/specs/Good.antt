-- Good nodes: what holds of every node that a walk reaches from a root of a proper kind.
use Rattle.std.specs.Prelude.{ℕ, ◌≤◌, ◌<◌, ◌≡◌, true, false}
use Rattle.tree.specs.declared.Limits.{Limits}
use Rattle.tree.specs.declared.Node.{Node}
use Rattle.tree.specs.declared.Direction.{Direction}
use Rattle.tree.specs.Splits.{along, inside, closed_corner, closed_middle}
use Rattle.tree.specs.Children.{corner_inside}
use Rattle.laws.specs.Directions.{corner}
use Rattle.laws.specs.Multiples.{Multiple, Fold}
use Rattle.laws.specs.Proper.{grain}
use Rattle.laws.specs.Shape.{Shape}

-- sides that are folds of m, at multiples of m
pub record Grid (m : ℕ) (n : Node) : Type 0 where
  pub side : (e : Direction) → Fold m (along e n)
  pub at : (e : Direction) → Multiple m (corner e n)

-- what opens a cut at a node that is out of the picture
pub record Edge (l : Limits) (n : Node) : Type 0 where
  pub deep : 0 < l.maxmtt
  pub small : (e : Direction) → along e n ≤ 64
  pub bt : (e : Direction) → along e n ≤ l.maxbt
  pub corners : closed_corner l n ≡ false
  pub outer : (d : Direction) → closed_middle n d ≡ false

-- every node that a walk reaches: above all cuts on the grid of MinQt, out of the picture on that of its grain
pub record Good (l : Limits) (n : Node) : Type 0 where
  pub shape : Shape n
  pub top : n.mtt ≡ 0 → Grid l.minqt n
  pub grid : corner_inside l n ≡ true → inside l n ≡ false → Grid (grain l) n
  pub lifted : inside l n ≡ false → n.offset ≡ n.mtt
  pub edge : inside l n ≡ false → 0 < n.mtt → Edge l n
