-- Roots below a unit, and what a kind closes by exponents.
use Prim.Native.Nat.{ℕ, suc, ◌+◌, ◌-◌, ◌*◌, ◌/◌, ◌%◌, ◌^◌, ◌≤◌}
use mathlib.Core.Path.{◌≡◌, refl, sym, ap, ap₂, ◌∙◌}
use mathlib.Core.Bool.{◌||◌}
use lib.Count.{count_trailing_zeros}
use lib.Pow.{pow-add}
use native.Mathlib.Omega.{arith}
use native.Mathlib.Nat.{pow-suc}
use Rattle.sides.specs.Side.{exponent}
use Rattle.tree.specs.declared.Limits.{Limits}
use Rattle.tree.specs.declared.Node.{Node}
use Rattle.tree.specs.declared.Direction.TheVariants.{Horizontal, Vertical}
use Rattle.tree.specs.declared.Decision.{Decision}
use Rattle.tree.specs.declared.Decision.TheVariants.{Quad}
use Rattle.tree.specs.Kind.{Kind, closes}
use Rattle.tree.specs.Children.{share, shares, child, child_mtt, child_offset, children_from, children}
use Rattle.laws.specs.Every.{Every, every_none, every_more}
use Rattle.laws.specs.Proper.{RootSquare}
use Rattle.laws.specs.Shape.{Side, Shape}
use Rattle.laws.proofs.Leaves.{side_exponent}

-- ---- the quarters of a unit of side 128 are roots, one deeper

module _ {l : Limits} {n : Node} (r : RootSquare l n) (side : n.w ≡ 128) (qt : l.minqt ≤ 64) where
  quarter : (i j part : ℕ) → RootSquare l (child l n Quad (share (2 * i) (2 * j) 2 2 part))
  unfolding child child_mtt child_offset count_trailing_zeros
  quarter i j part =
      let high : n.h ≡ 128 = let s = r.square in omega arith in
      let x : n.x % 128 ≡ 0 = rw side at r.left in
      let y : n.y % 128 ≡ 0 = rw side at r.top in
      record {
        power = rw side;
        square = rw (side, high);
        least = rw side (omega arith);
        most = rw side (omega arith);
        left = rw side (omega arith);
        top = rw (side, high) (omega arith);
        uncut = refl;
        unlifted = refl;
      }

  pub quarters_are_roots : Every (RootSquare l) (children l n Quad)
  unfolding children children_from shares
  quarters_are_roots = every_more (quarter 0 0 0) (every_more (quarter 1 0 1) (every_more (quarter 0 1 2) (every_more (quarter 1 1 3) every_none)))

-- ---- by the exponents of a node's sides: that of its width, and the sum of both

half_side : {s : ℕ} → Side s → s / 2 ≡ 2 ^ (exponent s - 1)
half_side {s} a =
    let e = side_exponent a in
    let is = a.fold.is in
    let f : exponent s - 1 ≡ suc a.fold.power = omega arith in
    let u = pow-suc 2 a.fold.power in
    rw f (omega arith)

pub closes_by_exponents : (k : Kind) {n : Node} → Shape n → (d : Decision)
    → closes k n d ≡ (k.by_width (2 ^ (exponent n.w - 1)) d || k.by_area (2 ^ (exponent n.w + exponent n.h - 2)) d)
closes_by_exponents k {n} sh d =
    let w = half_side (sh.side Vertical) in
    let a = side_exponent (sh.side Vertical) in
    let b = side_exponent (sh.side Horizontal) in
    let e : exponent n.w - 1 + (exponent n.h - 1) ≡ exponent n.w + exponent n.h - 2 = omega arith in
    ap₂ (λ x y. k.by_width x d || k.by_area y d) w (ap₂ (λ x y. x * y) w (half_side (sh.side Horizontal)) ∙ sym (pow-add 2 (exponent n.w - 1) (exponent n.h - 1)) ∙ ap (λ x. 2 ^ x) e)
