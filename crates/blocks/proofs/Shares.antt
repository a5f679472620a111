-- The table of shares: what stands past a split's last part, and that every part lies within its parent.
use Prim.Native.Nat.{ℕ, zero, suc, ◌+◌, ◌≤◌}
use mathlib.Core.Path.{◌≡◌, refl}
use mathlib.Core.Bool.{Bool, true, ◌&&◌}
use mathlib.Core.List.{List, [], ◌∷◌}
use lib.ListN.{length, get_or, get_or-eq_default}
use lib.Dec.{leb}
use borrow.Author.Tests.{leb-true}
use native.Mathlib.Omega.{arith}
use Rattle.sides.proofs.Bools.{and_left, and_right}
use Rattle.tree.specs.declared.Share.{Share}
use Rattle.tree.specs.declared.Direction.{Direction}
use Rattle.tree.specs.declared.Direction.TheVariants.{Horizontal, Vertical}
use Rattle.tree.specs.declared.Decision.{Decision}
use Rattle.tree.specs.declared.Decision.TheVariants.{Leaf, Quad, Binary, Ternary}
use Rattle.tree.specs.Splits.{pick}
use Rattle.tree.specs.Children.{share, shares}
use Rattle.blocks.specs.Table.{share_at}

-- a part number past the last part
pub no_part : (d : Decision) (i : ℕ) → length (shares d) ≤ i → share 0 0 0 0 0 ≡ share_at d i
unfolding share_at
no_part d i h = rw (get_or-eq_default (shares d) (share 0 0 0 0 0) h)

-- a value that does not depend on the direction
pub either_way : (d : Direction) (a : ℕ) → pick d a a ≡ a
either_way Horizontal a = refl
either_way Vertical a = refl

-- ---- a part ends within the four quarters of its parent

pub record Within (p : Share) : Type 0 where
  pub across : p.left + p.wide ≤ 4
  pub down : p.top + p.high ≤ 4

within? : Share → Bool
within? p = leb (p.left + p.wide) 4 && leb (p.top + p.high) 4

all_within : List Share → Bool
all_within [] = true
all_within (p ∷ ps) = within? p && all_within ps

within : (p : Share) → within? p ≡ true → Within p
unfolding within?
within p h = record {
  across = leb-true (p.left + p.wide) 4 (and_left (leb (p.left + p.wide) 4) (leb (p.top + p.high) 4) h);
  down = leb-true (p.top + p.high) 4 (and_right (leb (p.left + p.wide) 4) (leb (p.top + p.high) 4) h);
}

all_within_lem : (ps : List Share) → all_within ps ≡ true → (i : ℕ) → Within (get_or ps i (share 0 0 0 0 0))
unfolding all_within
all_within_lem [] h i = record { across = omega arith; down = omega arith }
all_within_lem (p ∷ ps) h zero = within p (and_left (within? p) (all_within ps) h)
all_within_lem (p ∷ ps) h (suc i) = all_within_lem ps (and_right (within? p) (all_within ps) h) i

shares_within : (d : Decision) → all_within (shares d) ≡ true
unfolding shares all_within within?
shares_within Leaf = refl
shares_within Quad = refl
shares_within (Binary Horizontal) = refl
shares_within (Binary Vertical) = refl
shares_within (Ternary Horizontal) = refl
shares_within (Ternary Vertical) = refl

pub share_within : (d : Decision) (i : ℕ) → Within (share_at d i)
unfolding share_at
share_within d i = all_within_lem (shares d) (shares_within d) i
