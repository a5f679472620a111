-- A coding tree never uses up the levels of a walk: with every split the sides of a node get shorter.
use Prim.Native.Nat.{ℕ, zero, suc, ◌+◌, ◌*◌, ◌/◌, ◌≤◌, ◌<◌}
use mathlib.Core.Path.{◌≡◌}
use mathlib.Core.Bool.{true}
use mathlib.Core.List.{List}
use native.Mathlib.Omega.{arith}
use native.Mathlib.Nat.{mul-le-mul_left}
use native.Mathlib.Decide.{dec_lt}
use Rattle.tree.specs.declared.Limits.{Limits}
use Rattle.tree.specs.declared.Node.{Node}
use Rattle.tree.specs.declared.Share.{Share}
use Rattle.tree.specs.declared.Direction.TheVariants.{Horizontal, Vertical}
use Rattle.tree.specs.declared.Decision.{Decision}
use Rattle.tree.specs.Kind.{Kind}
use Rattle.tree.specs.Splits.{rights_of, allows}
use Rattle.tree.specs.Children.{child, children}
use Rattle.tree.specs.Reading.{levels_left}
use Rattle.tree.specs.Tree.{Trees, Tree, none, skip, node}
use Rattle.laws.specs.Every.{Every, every_none, every_more}
use Rattle.laws.specs.Proper.{Proper}
use Rattle.laws.specs.Shape.{Shape}
use Rattle.laws.proofs.Multiples.{fold_least, four_quarters}
use Rattle.laws.proofs.Parts.{Piece, every_child, slice}
use Rattle.laws.proofs.Shape.{side_four, shape_child}
use Rattle.laws.proofs.Walks.{levels}

-- a node of which both sides together are at most so long
record Under (c : ℕ) (n : Node) : Type 0 where
  shape : Shape n
  size : n.w + n.h ≤ c

-- less than all quarters of both sides
shorter : (a b p q : ℕ) → 0 < a → 0 < b → p ≤ 4 → q ≤ 4 → p + q < 8 → a * p + b * q < a * 4 + b * 4
shorter a b p q ha hb hp hq h = go (dec_lt p 4)
  where
    go : Dec (p < 4) → a * p + b * q < a * 4 + b * 4
    go (yes k) = let u = mul-le-mul_left a k in let v = mul-le-mul_left b hq in omega arith
    go (no k) = let l : q < 4 = omega arith in let u = mul-le-mul_left a hp in let v = mul-le-mul_left b l in omega arith

pub child_shorter : (l : Limits) (n : Node) → Shape n → {d : Decision} {p : Share} → Piece d p → (child l n d p).w + (child l n d p).h < n.w + n.h
unfolding child
child_shorter l n sh {d} {p} piece =
    let w = four_quarters (side_four (sh.side Vertical)) in
    let h = four_quarters (side_four (sh.side Horizontal)) in
    let a = fold_least (sh.side Vertical).fold in
    let b = fold_least (sh.side Horizontal).fold in
    let r = (slice piece Vertical).fits in
    let t = (slice piece Horizontal).fits in
    let s = shorter (n.w / 4) (n.h / 4) p.wide p.high (omega arith) (omega arith) (omega arith) (omega arith) piece.falls in
    omega arith

module _ {k : Kind} (v : Proper k) where
  kids_under : (c : ℕ) (n : Node) → Under (suc c) n → (d : Decision) → allows (rights_of k n) d ≡ true → Every (Under c) (children k.limits n d)
  kids_under c n u d ok = every_child k n d (λ p piece. record {
    shape = shape_child v u.shape d ok p piece;
    size = let s = child_shorter k.limits n u.shape piece in let b = u.size in omega arith;
  })

  levels_under : (c : ℕ) {ns : List Node} (t : Trees k ns) → Every (Under c) ns → levels t ≤ c
  unfolding levels
  levels_under c none us = omega arith
  levels_under c (skip out rest) (every_more u us) = levels_under c rest us
  levels_under zero (node d here ok kids rest) (every_more u us) = let a = fold_least (u.shape.side Vertical).fold in let b = u.size in absurd (omega arith)
  levels_under (suc c) (node {n = n} d here ok kids rest) (every_more u us) =
      let a = levels_under c kids (kids_under c n u d ok) in
      let b = levels_under (suc c) rest us in
      omega arith

  -- the trees of a node, in any kind
  pub levels_left_lem : (n : Node) → Shape n → n.w + n.h + n.qt + n.mtt ≤ 256 → (t : Tree k n) → levels t ≤ levels_left n
  levels_left_lem n sh fits t = let h = levels_under (n.w + n.h) t (every_more (record { shape = sh; size = omega arith }) every_none) in omega arith
