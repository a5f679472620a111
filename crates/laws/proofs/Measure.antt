-- What adds up over the parts of a length adds up over the rows of coding trees.
use Prim.Native.Nat.{ℕ, zero, suc, ◌+◌, ◌*◌, ◌/◌, ◌≤◌}
use mathlib.Core.Path.{◌≡◌, refl, sym, ap₂, ◌∙◌}
use mathlib.Core.Bool.{Bool, true, false, ◌&&◌}
use mathlib.Core.List.{List, [], ◌∷◌, ◌++◌}
use lib.Dec.{ltb}
use borrow.Author.Tests.{ltb-false}
use native.Mathlib.Omega.{arith}
use Rattle.tree.specs.declared.Node.{Node}
use Rattle.tree.specs.declared.Share.{Share}
use Rattle.tree.specs.declared.Direction.{Direction}
use Rattle.tree.specs.declared.Direction.TheVariants.{Horizontal, Vertical}
use Rattle.tree.specs.declared.Decision.{Decision}
use Rattle.tree.specs.declared.Decision.TheVariants.{Leaf, Quad, Binary, Ternary}
use Rattle.tree.specs.Kind.{Kind}
use Rattle.tree.specs.Splits.{along, inside, rights_of, allows}
use Rattle.tree.specs.Children.{shares, child, children_from, children, corner_inside}
use Rattle.tree.specs.Rows.{Row, row_of, own_rows}
use Rattle.tree.specs.Tree.{Trees, none, skip, node, rows_of}
use Rattle.laws.specs.Every.{Every, every_more}
use Rattle.laws.specs.Proper.{Proper}
use Rattle.laws.specs.Directions.{corner, extent}
use Rattle.laws.specs.Shape.{Shape}
use Rattle.laws.proofs.Picture.{inside_end}
use Rattle.laws.proofs.Leaves.{row_start, row_side, leaf_start, leaf_side}
use Rattle.laws.proofs.Multiples.{four_quarters}
use Rattle.laws.proofs.Parts.{from, size, child_along, child_corner}
use Rattle.laws.proofs.Shape.{side_four, shape_kids}

-- A measure gives a number to a length from a start on. f is the measure g up to an end: what it gives adds up, past the end it is nothing.
pub record UpTo (end : ℕ) (g f : ℕ → ℕ → ℕ) : Type 0 where
  pub same : (a l : ℕ) → a + l ≤ end → g a l ≡ f a l
  pub past : (a l : ℕ) → end ≤ a → f a l ≡ 0
  pub empty : (a : ℕ) → f a 0 ≡ 0
  pub join : (a k l : ℕ) → f a (k + l) ≡ f a k + f (a + k) l

-- ---- quarters

-- so many quarters from one on, together; and the shares of a list, together, where u measures across and v down
abbrev run : (ℕ → ℕ) → ℕ → ℕ → ℕ
run u s zero = 0
run u s (suc g) = u s + run u (suc s) g

abbrev over : (ℕ → ℕ) → (ℕ → ℕ) → List Share → ℕ
over u v [] = 0
over u v (p ∷ ps) = run u p.left p.wide * run v p.top p.high + over u v ps

-- the shares of a split are all quarters of both sides, each once
abbrev Tiled : Decision → Type 0
Tiled d = (u v : ℕ → ℕ) → over u v (shares d) ≡ run u 0 4 * run v 0 4

quad_tiled : Tiled Quad
unfolding shares
quad_tiled u v = omega arith

binary_tiled : (d : Direction) → Tiled (Binary d)
unfolding shares
binary_tiled Horizontal u v = omega arith
binary_tiled Vertical u v = omega arith

ternary_tiled : (d : Direction) → Tiled (Ternary d)
unfolding shares
ternary_tiled Horizontal u v = omega arith
ternary_tiled Vertical u v = omega arith

-- so many quarters of length q, by a measure
module _ {end : ℕ} {g f : ℕ → ℕ → ℕ} (m : UpTo end g f) (a q : ℕ) where
  run_measure : (s n : ℕ) → f (a + q * s) (q * n) ≡ run (λ i. f (a + q * i) q) s n
  run_measure s zero = let e : q * 0 ≡ 0 = omega arith in rw e (m.empty (a + q * s))
  run_measure s (suc n) =
      let e : q * suc n ≡ q + q * n = omega arith in
      let h : a + q * s + q ≡ a + q * suc s = omega arith in
      rw e (m.join (a + q * s) q (q * n) ∙ rw h (rw (run_measure (suc s) n)))

-- ---- nodes and rows

-- the measure of a node and of a row, across times down, and of nodes and rows together
abbrev pub of_node : (Direction → ℕ → ℕ → ℕ) → Node → ℕ
of_node f n = f Vertical (corner Vertical n) (along Vertical n) * f Horizontal (corner Horizontal n) (along Horizontal n)

abbrev pub of_nodes : (Direction → ℕ → ℕ → ℕ) → List Node → ℕ
of_nodes f [] = 0
of_nodes f (n ∷ ns) = of_node f n + of_nodes f ns

abbrev pub of_row : (Direction → ℕ → ℕ → ℕ) → Row → ℕ
of_row f r = f Vertical (row_start Vertical r) (row_side Vertical r) * f Horizontal (row_start Horizontal r) (row_side Horizontal r)

abbrev pub of_rows : (Direction → ℕ → ℕ → ℕ) → List Row → ℕ
of_rows f [] = 0
of_rows f (r ∷ rs) = of_row f r + of_rows f rs

rows_append : (g : Direction → ℕ → ℕ → ℕ) (a b : List Row) → of_rows g (a ++ b) ≡ of_rows g a + of_rows g b
rows_append g [] b = omega arith
rows_append g (r ∷ a) b = let e = rows_append g a b in omega arith

module _ {k : Kind} (v : Proper k) {g f : Direction → ℕ → ℕ → ℕ} (m : (e : Direction) → UpTo (extent e k.limits) (g e) (f e)) where
  -- a node whose corner is outside the picture measures nothing
  skipped : (n : Node) → corner_inside k.limits n ≡ false → of_node f n ≡ 0
  unfolding corner_inside
  skipped n h = go (ltb n.x k.limits.width) refl h
    where
      go : (b : Bool) → ltb n.x k.limits.width ≡ b → (b && ltb n.y k.limits.height) ≡ false → of_node f n ≡ 0
      go true e h = rw ((m Horizontal).past n.y n.h (ltb-false _ _ h)) (omega arith)
      go false e h = rw ((m Vertical).past n.x n.w (ltb-false _ _ e)) (omega arith)

  module _ (n : Node) (sh : Shape n) where
    leaf_measure : inside k.limits n ≡ true → of_row g (row_of n) ≡ of_node f n
    leaf_measure h = ap₂ (λ a b. a * b) (part Vertical) (part Horizontal)
      where
        part : (e : Direction) → g e (row_start e (row_of n)) (row_side e (row_of n)) ≡ f e (corner e n) (along e n)
        part e = rw (leaf_start n e, leaf_side sh e) ((m e).same (corner e n) (along e n) (inside_end k.limits n h e))

    -- by quarters
    quarter : Direction → ℕ → ℕ
    quarter e i = f e (corner e n + along e n / 4 * i) (along e n / 4)

    child_measure : (d : Decision) (p : Share) (e : Direction) → f e (corner e (child k.limits n d p)) (along e (child k.limits n d p)) ≡ run (quarter e) (from e p) (size e p)
    unfolding quarter
    child_measure d p e = rw (child_corner k.limits n d p e, child_along k.limits n d p e) (run_measure (m e) (corner e n) (along e n / 4) (from e p) (size e p))

    node_measure : (e : Direction) → f e (corner e n) (along e n) ≡ run (quarter e) 0 4
    unfolding quarter
    node_measure e =
        let q : along e n / 4 * 4 ≡ along e n = four_quarters (side_four (sh.side e)) in
        let z : corner e n + along e n / 4 * 0 ≡ corner e n = omega arith in
        ap₂ (λ a l. f e a l) (sym z) (sym q) ∙ run_measure (m e) (corner e n) (along e n / 4) 0 4

    kids_measure : (d : Decision) (ps : List Share) → of_nodes f (children_from k.limits n d ps) ≡ over (quarter Vertical) (quarter Horizontal) ps
    unfolding children_from
    kids_measure d [] = refl
    kids_measure d (p ∷ ps) = ap₂ (λ a b. a + b) (ap₂ (λ a b. a * b) (child_measure d p Vertical) (child_measure d p Horizontal)) (kids_measure d ps)

    -- the children of a split measure what their node does
    split_measure : (d : Decision) → Tiled d → 0 + of_nodes f (children k.limits n d) ≡ of_node f n
    unfolding children
    split_measure d tiled =
        let e = kids_measure d (shares d) ∙ tiled (quarter Vertical) (quarter Horizontal) ∙ ap₂ (λ a b. a * b) (sym (node_measure Vertical)) (sym (node_measure Horizontal)) in
        omega arith

    own_measure : (d : Decision) → allows (rights_of k n) d ≡ true → of_rows g (own_rows n d) + of_nodes f (children k.limits n d) ≡ of_node f n
    unfolding own_rows children children_from shares rights_of
    own_measure Leaf ok = let e = leaf_measure ok in omega arith
    own_measure Quad ok = split_measure Quad quad_tiled
    own_measure (Binary d) ok = split_measure (Binary d) (binary_tiled d)
    own_measure (Ternary d) ok = split_measure (Ternary d) (ternary_tiled d)

  -- the rows of trees measure what their nodes do up to the end of the picture
  pub measured : {ns : List Node} (t : Trees k ns) → Every Shape ns → of_rows g (rows_of t) ≡ of_nodes f ns
  unfolding rows_of
  measured none shs = refl
  measured (skip {n = n} out rest) (every_more sh shs) = let e = measured rest shs in let z = skipped n out in omega arith
  measured (node {n = n} d here ok kids rest) (every_more sh shs) =
      let a = own_measure n sh d ok in
      let b = measured kids (shape_kids v sh d ok) in
      let c = measured rest shs in
      rw (rows_append g (own_rows n d ++ rows_of kids) (rows_of rest), rows_append g (own_rows n d) (rows_of kids)) (omega arith)
