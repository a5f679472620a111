-- The shape of the nodes of a coding tree: sides are powers of two from 4 to 128, and a node above all cuts is square.
use Rattle.std.specs.Prelude.{ℕ, ◌≤◌, ◌≡◌}
use Rattle.tree.specs.declared.Node.{Node}
use Rattle.tree.specs.declared.Direction.{Direction}
use Rattle.tree.specs.Splits.{along}
use Rattle.laws.specs.Multiples.{Fold}

-- a side: 4 times a power of two, at most 128
pub record Side (n : ℕ) : Type 0 where
  pub fold : Fold 4 n
  pub most : n ≤ 128

pub record Shape (n : Node) : Type 0 where
  pub side : (e : Direction) → Side (along e n)
  pub square : n.mtt ≡ 0 → n.w ≡ n.h
