-- Which samples the rows of a coding tree have: those of its node that lie in the picture, each once.
use Prim.Native.Nat.{ℕ, ◌<◌}
use mathlib.Core.Path.{◌≡◌, ◌∙◌}
use native.Mathlib.Omega.{arith}
use native.Mathlib.Nat.{mul-le-mul}
use Rattle.tree.specs.declared.Node.{Node}
use Rattle.tree.specs.Kind.{Kind}
use Rattle.tree.specs.Tree.{Tree, rows_of}
use Rattle.laws.specs.Geometry.{copies}
use Rattle.laws.specs.Proper.{Proper}
use Rattle.laws.specs.Shape.{Shape}
use Rattle.laws.proofs.Cover.{covered}
use Rattle.laws.proofs.Rectangles.{Between, both_some, rectangle_in, in_rectangle, rectangle_most}
use Rattle.laws.proofs.Copies.{Once}

module _ {k : Kind} (v : Proper k) {n : Node} (sh : Shape n) (t : Tree k n) where
  -- a sample that a row has lies in the node and in the picture
  module _ (px py : ℕ) (some : 0 < copies px py (rows_of t)) where
    pub in_node : Between n.x n.w px × Between n.y n.h py
    in_node = in_rectangle n.x n.y n.w n.h px py (both_some _ _ (rw (covered v sh t px py) at some)).0

    is_in_picture : Between 0 k.limits.width px × Between 0 k.limits.height py
    is_in_picture = in_rectangle 0 0 k.limits.width k.limits.height px py (both_some _ _ (rw (covered v sh t px py) at some)).1

  pub tree_once : Once k.limits.width k.limits.height (rows_of t)
  tree_once = record {
    most = λ px py.
        let e = covered v sh t px py in
        let m = mul-le-mul (rectangle_most n.x n.y n.w n.h px py) (rectangle_most 0 0 k.limits.width k.limits.height px py) in
        omega arith;
    inside = λ px py some.
        let i = is_in_picture px py some in
        let x = i.0.high in
        let y = i.1.high in
        (omega arith, omega arith);
  }

  -- and each of these is in one
  pub tree_all : (px py : ℕ) → Between n.x n.w px → Between n.y n.h py → px < k.limits.width → py < k.limits.height
      → copies px py (rows_of t) ≡ 1
  tree_all px py x y wide high =
      let a = rectangle_in n.x n.y n.w n.h px py x y in
      let b = rectangle_in 0 0 k.limits.width k.limits.height px py (record { low = omega arith; high = omega arith }) (record { low = omega arith; high = omega arith }) in
      covered v sh t px py ∙ rw (a, b)
