-- The numbers of a row are small: its bytes lose nothing.
use Prim.Native.Nat.{◌+◌, ◌^◌, ◌≤◌}
use mathlib.Core.Path.{◌≡◌}
use mathlib.Core.Bool.{true}
use native.Mathlib.Omega.{arith}
use Rattle.tree.specs.declared.Limits.{Limits}
use Rattle.tree.specs.declared.Node.{Node}
use Rattle.tree.specs.declared.Share.{Share}
use Rattle.tree.specs.declared.Direction.{Direction}
use Rattle.tree.specs.declared.Direction.TheVariants.{Horizontal, Vertical}
use Rattle.tree.specs.declared.Decision.{Decision}
use Rattle.tree.specs.declared.Decision.TheVariants.{Leaf, Quad, Binary, Ternary}
use Rattle.tree.specs.Kind.{Kind}
use Rattle.tree.specs.Splits.{inside, rights_of, allows}
use Rattle.tree.specs.Children.{child_qt, child_mtt, child, children}
use Rattle.tree.specs.Rows.{row_of}
use Rattle.tree.specs.Tree.{Tree, rows_of}
use Rattle.laws.specs.Geometry.{SmallRow}
use Rattle.laws.specs.Every.{Every, every_none, every_more}
use Rattle.laws.specs.Proper.{Proper}
use Rattle.laws.specs.Directions.{extent}
use Rattle.laws.specs.Shape.{Shape}
use Rattle.laws.proofs.Picture.{inside_end}
use Rattle.laws.proofs.Leaves.{side_exponent}
use Rattle.laws.proofs.EveryRow.{every_row_lem}
use Rattle.laws.proofs.Multiples.{fold_least}
use Rattle.laws.proofs.Parts.{every_child}
use Rattle.laws.proofs.Shape.{side_power, shape_child}
use Rattle.laws.proofs.Levels.{child_shorter}

-- Sides and depths are at most 256 together: a split takes from the sides and adds 1 to a depth.
record Shallow (n : Node) : Type 0 where
  shape : Shape n
  sum : n.w + n.h + n.qt + n.mtt ≤ 256

pub one_deeper : (l : Limits) (n : Node) (d : Decision) (p : Share) → (child l n d p).qt + (child l n d p).mtt ≤ n.qt + n.mtt + 1
unfolding child child_qt child_mtt
one_deeper l n Leaf p = omega arith
one_deeper l n Quad p = omega arith
one_deeper l n (Binary d) p = omega arith
one_deeper l n (Ternary d) p = omega arith

module _ {k : Kind} (v : Proper k) where
  shallow_kids : (n : Node) → Shallow n → (d : Decision) → allows (rights_of k n) d ≡ true → Every Shallow (children k.limits n d)
  shallow_kids n s d ok = every_child k n d (λ p piece. record {
    shape = shape_child v s.shape d ok p piece;
    sum = let a = child_shorter k.limits n s.shape piece in let b = one_deeper k.limits n d p in let e = s.sum in omega arith;
  })

  module _ (picture : (e : Direction) → extent e k.limits ≤ 2 ^ 16) where
    small_leaf : (n : Node) → Shallow n → inside k.limits n ≡ true → SmallRow (row_of n)
    unfolding row_of
    small_leaf n s h =
        let w = s.shape.side Vertical in
        let v = s.shape.side Horizontal in
        let lw = fold_least w.fold in
        let lv = fold_least v.fold in
        let ew = side_exponent w in
        let eh = side_exponent v in
        let pw = side_power w in
        let pv = side_power v in
        let ex = inside_end k.limits n h Vertical in
        let ey = inside_end k.limits n h Horizontal in
        let px = picture Vertical in
        let py = picture Horizontal in
        let sum = s.sum in
        record { x_fits = omega arith; y_fits = omega arith; least_w = omega arith; most_w = omega arith; least_h = omega arith; most_h = omega arith; depths = omega arith }

    pub rows_small : {n : Node} → Shape n → n.w + n.h + n.qt + n.mtt ≤ 256 → (t : Tree k n) → Every SmallRow (rows_of t)
    rows_small sh sum t = every_row_lem k shallow_kids small_leaf t (every_more (record { shape = sh; sum = sum }) every_none)
