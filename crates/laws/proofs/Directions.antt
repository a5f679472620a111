-- The two directions as a parameter.
use Prim.Native.Nat.{ℕ, ◌≤◌}
use mathlib.Core.Path.{◌≡◌, refl, sym}
use native.Mathlib.Omega.{arith}
use Rattle.tree.specs.declared.Node.{Node}
use Rattle.tree.specs.declared.Direction.{Direction}
use Rattle.tree.specs.declared.Direction.TheVariants.{Horizontal, Vertical}
use Rattle.tree.specs.Splits.{pick, along, across}

pub two_ways : {A : Type 0} (f : Direction → A) (d : Direction) → pick d (f Horizontal) (f Vertical) ≡ f d
two_ways f Horizontal = refl
two_ways f Vertical = refl

-- the sides of a square
pub square_side : (n : Node) → n.w ≡ n.h → (e : Direction) → along e n ≡ n.w
square_side n s Horizontal = sym s
square_side n s Vertical = refl

-- a bound of the sides: from both to each, from each to the other one, and from one side of a square to each
module _ (n : Node) {c : ℕ} where
  pub both_sides : n.w ≤ c → n.h ≤ c → (e : Direction) → along e n ≤ c
  both_sides w h Horizontal = h
  both_sides w h Vertical = w

  pub other_side : ((e : Direction) → along e n ≤ c) → (d : Direction) → across d n ≤ c
  other_side h Horizontal = h Vertical
  other_side h Vertical = h Horizontal

  pub square_sides : n.w ≡ n.h → (d : Direction) → across d n ≤ c → (e : Direction) → along e n ≤ c
  square_sides s Horizontal h = both_sides h (omega arith)
  square_sides s Vertical h = both_sides (omega arith) h
