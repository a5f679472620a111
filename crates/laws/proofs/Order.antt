-- The rows of a coding tree lie within its node; the first one starts at the node's corner; and where the node is inside the picture, the last one
-- ends at its opposite corner. In any kind.
use Prim.Native.Nat.{ℕ, ◌+◌, ◌*◌, ◌/◌, ◌≤◌, ◌<◌}
use mathlib.Core.Path.{◌≡◌, refl, ◌∙◌}
use mathlib.Core.Bool.{true}
use mathlib.Core.List.{List, ◌++◌, append-nil}
use borrow.Author.Tests.{lt-ltb}
use native.Mathlib.Omega.{arith}
use Rattle.sides.proofs.Bools.{clash, and_intro}
use Rattle.tree.specs.declared.Limits.{Limits}
use Rattle.tree.specs.declared.Node.{Node}
use Rattle.tree.specs.declared.Share.{Share}
use Rattle.tree.specs.declared.Direction.{Direction}
use Rattle.tree.specs.declared.Direction.TheVariants.{Horizontal, Vertical}
use Rattle.tree.specs.declared.Decision.{Decision}
use Rattle.tree.specs.declared.Decision.TheVariants.{Leaf, Quad, Binary, Ternary}
use Rattle.tree.specs.Kind.{Kind}
use Rattle.tree.specs.Splits.{along, inside, rights_of, allows}
use Rattle.tree.specs.Children.{share, slab, shares, child, children_from, children, corner_inside}
use Rattle.tree.specs.Rows.{Row, row_of, own_rows}
use Rattle.tree.specs.Tree.{Trees, Tree, none, skip, node, rows_of}
use Rattle.laws.specs.Every.{Every, every_none, every_more}
use Rattle.laws.specs.Proper.{Proper}
use Rattle.laws.specs.Directions.{corner, extent}
use Rattle.laws.specs.Shape.{Shape}
use Rattle.laws.proofs.Picture.{inside_end}
use Rattle.laws.proofs.Leaves.{row_start, row_end, EndsAt, leaf_start, leaf_end}
use Rattle.laws.proofs.Last.{Last, last, later, last_after, last_both}
use Rattle.laws.proofs.Every.{every_join}
use Rattle.laws.proofs.Multiples.{fold_least, four_quarters}
use Rattle.laws.proofs.Parts.{from, size, every_child, child_corner, child_along, child_end}
use Rattle.laws.proofs.Slabs.{far, by_way, from_along, size_along, from_across, size_across}
use Rattle.laws.proofs.Shape.{side_four, shape_child}
use Rattle.laws.proofs.First.{First, first_row}

-- ---- all rows

-- a node and a row that lie within a node
pub record Inner (b n : Node) : Type 0 where
  pub starts : (e : Direction) → corner e b ≤ corner e n
  pub ends : (e : Direction) → far e n ≤ far e b

pub record Within (b : Node) (r : Row) : Type 0 where
  pub starts : (e : Direction) → corner e b ≤ row_start e r
  pub ends : (e : Direction) → row_end e r ≤ far e b

module _ {k : Kind} (v : Proper k) (b : Node) where
  kids_inner : (n : Node) (d : Decision) → allows (rights_of k n) d ≡ true → Shape n → Inner b n → Every (λ c. Shape c × Inner b c) (children k.limits n d)
  kids_inner n d ok sh i = every_child k n d (λ p piece. (
    shape_child v sh d ok p piece,
    record {
      starts = λ e. let a = child_corner k.limits n d p e in let s = i.starts e in omega arith;
      ends = λ e. let a = child_end k.limits n piece e (side_four (sh.side e)) in let s = i.ends e in omega arith;
    },
  ))

  own_within : (n : Node) (d : Decision) → Shape n → Inner b n → Every (Within b) (own_rows n d)
  unfolding own_rows
  own_within n Leaf sh i = every_more {a = row_of n} (record {
    starts = λ e. rw (leaf_start n e) (i.starts e);
    ends = λ e. rw (leaf_end n sh e) (i.ends e);
  }) every_none
  own_within n Quad sh i = every_none
  own_within n (Binary d) sh i = every_none
  own_within n (Ternary d) sh i = every_none

  pub rows_within : {ns : List Node} (t : Trees k ns) → Every (λ n. Shape n × Inner b n) ns → Every (Within b) (rows_of t)
  unfolding rows_of
  rows_within none us = every_none
  rows_within (skip out rest) (every_more u us) = rows_within rest us
  rows_within (node {n = n} d here ok kids rest) (every_more u us) =
      every_join (every_join (own_within n d u.0 u.1) (rows_within kids (kids_inner n d ok u.0 u.1))) (rows_within rest us)

-- ---- the last row

-- a node inside the picture
pub record Fits (l : Limits) (n : Node) : Type 0 where
  pub shape : Shape n
  pub ends : (e : Direction) → far e n ≤ extent e l

-- its corner is, too
pub fits_there : (l : Limits) (n : Node) → Fits l n → corner_inside l n ≡ true
unfolding corner_inside
fits_there l n f = and_intro _ _ (lt-ltb _ _ (short Vertical)) (lt-ltb _ _ (short Horizontal))
  where
    short : (e : Direction) → corner e n < extent e l
    short e = let a = fold_least (f.shape.side e).fold in let b = f.ends e in omega arith

pub inside_fits : (l : Limits) (n : Node) → Shape n → inside l n ≡ true → Fits l n
inside_fits l n sh h = record { shape = sh; ends = inside_end l n h }

-- the last part of a split takes all quarters that are left
quad_ends : (e : Direction) → from e (share 2 2 2 2 3) + size e (share 2 2 2 2 3) ≡ 4
quad_ends Horizontal = refl
quad_ends Vertical = refl

cut_ends : (d : Direction) (start long part : ℕ) → start + long ≡ 4 → (e : Direction) → from e (slab d start long part) + size e (slab d start long part) ≡ 4
cut_ends d start long part h =
    by_way (λ e. from e (slab d start long part) + size e (slab d start long part) ≡ 4) d
    (rw (from_along start long part d, size_along start long part d) h) (rw (from_across start long part d, size_across start long part d))

last_child : (l : Limits) (n : Node) (d : Decision) {P : Node → Type 0} {Q : Share → Type 0} → ((p : Share) → Q p → P (child l n d p)) → {ps : List Share} → Last Q ps → Last P (children_from l n d ps)
unfolding children_from
last_child l n d f (last {a = p} q) = last (f p q)
last_child l n d f (later q) = later (last_child l n d f q)

module _ {k : Kind} (v : Proper k) where
  pub fits_kids : (n : Node) (d : Decision) → allows (rights_of k n) d ≡ true → Fits k.limits n → Every (Fits k.limits) (children k.limits n d)
  fits_kids n d ok f = every_child k n d (λ p piece. record {
    shape = shape_child v f.shape d ok p piece;
    ends = λ e. let a = child_end k.limits n piece e (side_four (f.shape.side e)) in let b = f.ends e in omega arith;
  })

  module _ (goal : Direction → ℕ) where
    -- a node inside the picture that ends there
    abbrev Closing : Node → Type 0
    Closing n = Fits k.limits n × ((e : Direction) → far e n ≡ goal e)

    last_kids : (n : Node) (d : Decision) → allows (rights_of k n) d ≡ true → Closing n → Last (λ p. (e : Direction) → from e p + size e p ≡ 4) (shares d) → Last Closing (children k.limits n d)
    unfolding children
    last_kids n d ok c l = last_both (fits_kids n d ok c.0) (last_child k.limits n d (λ p h e. end p e (h e) ∙ c.1 e) l)
      where
        end : (p : Share) (e : Direction) → from e p + size e p ≡ 4 → far e (child k.limits n d p) ≡ far e n
        end p e h =
            let a = child_corner k.limits n d p e in
            let b = child_along k.limits n d p e in
            let q = four_quarters (side_four (c.0.shape.side e)) in
            let m : along e n / 4 * (from e p + size e p) ≡ along e n / 4 * 4 = rw h in
            omega arith

    last_node : (n : Node) (d : Decision) → allows (rights_of k n) d ≡ true → Closing n → (kids : Trees k (children k.limits n d))
        → (Last Closing (children k.limits n d) → Last (EndsAt goal) (rows_of kids)) → Last (EndsAt goal) (own_rows n d ++ rows_of kids)
    unfolding own_rows children children_from shares rows_of
    last_node n Leaf ok c none below = last (λ e. leaf_end n c.0.shape e ∙ c.1 e)
    last_node n Quad ok c kids below = below (last_kids n Quad ok c (later (later (later (last quad_ends)))))
    last_node n (Binary d) ok c kids below = below (last_kids n (Binary d) ok c (later (last (cut_ends d 2 2 1 refl))))
    last_node n (Ternary d) ok c kids below = below (last_kids n (Ternary d) ok c (later (later (last (cut_ends d 3 1 2 refl)))))

    last_row : {ns : List Node} (t : Trees k ns) → Last Closing ns → Last (EndsAt goal) (rows_of t)
    unfolding rows_of
    last_row none l = elim l [ ]
    last_row (skip {n = n} out rest) (last c) = clash (fits_there k.limits n c.0) out
    last_row (skip out rest) (later l) = last_row rest l
    last_row (node {n = n} d here ok kids none) (last c) = rw append-nil (last_node n d ok c kids (last_row kids))
    last_row (node {n = n} d here ok kids rest) (later l) = last_after (own_rows n d ++ rows_of kids) (last_row rest l)

-- ---- the rows of a tree

pub record InOrder (l : Limits) (n : Node) (rows : List Row) : Type 0 where
  pub first : First n rows
  pub within : Every (Within n) rows
  pub last : inside l n ≡ true → Last (EndsAt (λ e. far e n)) rows

module _ {k : Kind} (v : Proper k) (n : Node) (t : Tree k n) where
  pub tree_within : Shape n → Every (Within n) (rows_of t)
  tree_within sh = rows_within v n t (every_more (sh, record { starts = λ e. omega arith; ends = λ e. omega arith }) every_none)

  pub tree_last : Fits k.limits n → Last (EndsAt (λ e. far e n)) (rows_of t)
  tree_last f = last_row v (λ e. far e n) t (last (f, λ e. refl))

  pub tree_in_order : Shape n → corner_inside k.limits n ≡ true → InOrder k.limits n (rows_of t)
  tree_in_order sh here = record { first = first_row t here; within = tree_within sh; last = λ i. tree_last (inside_fits k.limits n sh i) }
