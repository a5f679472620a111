-- The areas of the children of a split.
use Prim.Native.Nat.{ℕ, ◌+◌, ◌*◌, ◌/◌, ◌≤◌}
use mathlib.Core.Path.{◌≡◌, refl, ap, ap₂, ◌∙◌}
use mathlib.Core.Bool.{true}
use mathlib.Core.List.{List, [], ◌∷◌}
use native.Mathlib.Omega.{arith}
use native.Mathlib.Nat.{mul-le-mul}
use Rattle.tree.specs.declared.Limits.{Limits}
use Rattle.tree.specs.declared.Node.{Node}
use Rattle.tree.specs.declared.Share.{Share}
use Rattle.tree.specs.declared.Direction.TheVariants.{Horizontal, Vertical}
use Rattle.tree.specs.declared.Decision.{Decision}
use Rattle.tree.specs.declared.Decision.TheVariants.{Leaf, Quad, Binary, Ternary}
use Rattle.tree.specs.Children.{shares, child, children_from, children}
use Rattle.laws.specs.Areas.{areas_of}
use Rattle.laws.specs.Shape.{Shape}
use Rattle.laws.proofs.Tests.{never}
use Rattle.laws.proofs.Multiples.{fold_least, four_quarters}
use Rattle.laws.proofs.Shape.{side_four}
use Rattle.tree.specs.Splits.{is_split}

-- a node has 16 samples at least
pub least_area : {n : Node} → Shape n → 16 ≤ n.w * n.h
least_area sh = mul-le-mul (fold_least (sh.side Vertical).fold) (fold_least (sh.side Horizontal).fold)

-- ---- the whole

-- the areas of shares, of quarters of lengths a and b
abbrev parts : ℕ → ℕ → List Share → ℕ
parts a b [] = 0
parts a b (p ∷ ps) = a * p.wide * (b * p.high) + parts a b ps

all_parts : (d : Decision) → is_split d ≡ true → (a b : ℕ) → parts a b (shares d) ≡ a * 4 * (b * 4)
unfolding shares
all_parts Leaf s a b = never (cc)
all_parts Quad s a b = omega arith
all_parts (Binary Horizontal) s a b = omega arith
all_parts (Binary Vertical) s a b = omega arith
all_parts (Ternary Horizontal) s a b = omega arith
all_parts (Ternary Vertical) s a b = omega arith

from_parts : (l : Limits) (n : Node) (d : Decision) (ps : List Share) → areas_of (children_from l n d ps) ≡ parts (n.w / 4) (n.h / 4) ps
unfolding areas_of children_from child
from_parts l n d [] = refl
from_parts l n d (p ∷ ps) = ap (λ a. n.w / 4 * p.wide * (n.h / 4 * p.high) + a) (from_parts l n d ps)

-- the children of a split have the area of their node
pub kids_areas : (l : Limits) {n : Node} → Shape n → (d : Decision) → is_split d ≡ true → areas_of (children l n d) ≡ n.w * n.h
unfolding children
kids_areas l {n} sh d s =
    from_parts l n d (shares d) ∙ all_parts d s (n.w / 4) (n.h / 4)
    ∙ ap₂ (λ a b. a * b) (four_quarters (side_four (sh.side Vertical))) (four_quarters (side_four (sh.side Horizontal)))
