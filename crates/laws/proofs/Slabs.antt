-- The parts of a cut, along the direction that it divides and across it.
use Prim.Native.Nat.{ℕ, ◌+◌, ◌*◌, ◌/◌}
use mathlib.Core.Path.{◌≡◌, refl}
use mathlib.Core.Bool.{true}
use native.Mathlib.Omega.{arith}
use Rattle.tree.specs.declared.Limits.{Limits}
use Rattle.tree.specs.declared.Node.{Node}
use Rattle.tree.specs.declared.Direction.{Direction}
use Rattle.tree.specs.declared.Direction.TheVariants.{Horizontal, Vertical}
use Rattle.tree.specs.declared.Decision.{Decision}
use Rattle.tree.specs.Splits.{pick, along, same_direction}
use Rattle.tree.specs.Children.{slab, child}
use Rattle.laws.specs.Directions.{corner}
use Rattle.laws.proofs.Parts.{from, size, child_corner}

abbrev pub other : Direction → Direction
other d = pick d Vertical Horizontal

pub other_twice : (d : Direction) → d ≡ other (other d)
other_twice Horizontal = refl
other_twice Vertical = refl

pub same_way : (d : Direction) → same_direction d d ≡ true
same_way Horizontal = refl
same_way Vertical = refl

-- what holds along a direction and across it holds both ways
pub by_way : (P : Direction → Type 0) (d : Direction) → P d → P (other d) → (e : Direction) → P e
by_way P Horizontal a b Horizontal = a
by_way P Horizontal a b Vertical = b
by_way P Vertical a b Horizontal = b
by_way P Vertical a b Vertical = a

-- where a node ends
abbrev pub far : Direction → Node → ℕ
far e n = corner e n + along e n

-- a slab's start and length: its own along the direction, the whole across it
module _ (start long part : ℕ) where
  pub slab_part : (d : Direction) → (slab d start long part).part ≡ part
  slab_part Horizontal = refl
  slab_part Vertical = refl

  pub from_along : (d : Direction) → from d (slab d start long part) ≡ start
  from_along Horizontal = refl
  from_along Vertical = refl

  pub size_along : (d : Direction) → size d (slab d start long part) ≡ long
  size_along Horizontal = refl
  size_along Vertical = refl

  pub from_across : (d : Direction) → from (other d) (slab d start long part) ≡ 0
  from_across Horizontal = refl
  from_across Vertical = refl

  pub size_across : (d : Direction) → size (other d) (slab d start long part) ≡ 4
  size_across Horizontal = refl
  size_across Vertical = refl

  -- so the child that it makes starts there
  module _ (l : Limits) (n : Node) (by : Decision) (d : Direction) where
    pub corner_along : corner d (child l n by (slab d start long part)) ≡ corner d n + along d n / 4 * start
    corner_along = rw (child_corner l n by (slab d start long part) d, from_along d)

    pub corner_across : corner (other d) (child l n by (slab d start long part)) ≡ corner (other d) n
    corner_across = rw (child_corner l n by (slab d start long part) (other d), from_across d) (omega arith)
