-- The measure of the walks: the area of the nodes that numbers say.
use Prim.Native.Nat.{ℕ, ◌+◌, ◌*◌, ◌/◌, ◌%◌, ◌≤◌}
use mathlib.Core.Path.{◌≡◌, refl, ap₂}
use mathlib.Core.List.{List, [], ◌∷◌}
use native.Mathlib.Omega.{arith}
use native.Mathlib.Nat.{mul-le-mul}
use lib.ListN.{length}
use lib.Pow.{pow_pos}
use Rattle.tree.specs.declared.Node.{Node}
use Rattle.laws.specs.Areas.{areas_of}
use Rattle.walks.specs.Stands.{Word, area_in, AllStand, no_more, one_more}

unfoldable pub areas_in : List Word → ℕ
areas_in [] = 0
areas_in (w ∷ ws) = area_in w.row + areas_in ws

pub some_area : (row : ℕ) → 1 ≤ area_in row
some_area row = mul-le-mul (pow_pos (row / 4294967296 % 8)) (pow_pos (row / 1099511627776 % 8))

pub each_area : (ws : List Word) → length ws ≤ areas_in ws
unfolding areas_in
each_area [] = omega arith
each_area (w ∷ ws) = let a = some_area w.row in let b = each_area ws in omega arith

-- numbers that stand for nodes have their areas
pub same_areas : {stands : Node → Word → Type 0} → ((n : Node) (w : Word) → stands n w → area_in w.row ≡ n.w * n.h) → {ns : List Node} {ws : List Word}
    → AllStand stands ns ws → areas_in ws ≡ areas_of ns
unfolding areas_in areas_of
same_areas area no_more = refl
same_areas area (one_more {n = n} {w = w} s ss) = ap₂ (λ a b. a + b) (area n w s) (same_areas area ss)
