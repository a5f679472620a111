-- The numbers of the children of a node stand for them.
use Prim.Native.Nat.{ℕ, ◌+◌, ◌*◌, ◌≤◌, ◌<◌, min}
use mathlib.Core.Path.{◌≡◌, refl, sym, ap, ap₂, ◌∙◌}
use mathlib.Core.Bool.{true, false}
use lib.Dec.{ltb}
use borrow.Author.Tests.{not-true, lt-ltb, le-ltb}
use native.Mathlib.Omega.{arith}
use Rattle.sides.specs.Side.{exponent}
use Rattle.sides.proofs.Bools.{clash, and_intro, or_none_left, or_none_right}
use Rattle.tree.specs.declared.Limits.{Limits}
use Rattle.tree.specs.declared.Node.{Node}
use Rattle.tree.specs.declared.Direction.{Direction}
use Rattle.tree.specs.declared.Direction.TheVariants.{Horizontal, Vertical}
use Rattle.tree.specs.declared.Decision.{Decision}
use Rattle.tree.specs.declared.Decision.TheVariants.{Leaf, Quad, Binary, Ternary}
use Rattle.tree.specs.declared.Share.{Share}
use Rattle.tree.specs.Kind.{Kind}
use Rattle.tree.specs.Splits.{along, inside, right_out, bottom_out, out_along, rights_of, allows, open_splits, bit}
use Rattle.tree.specs.Children.{shares, child_mtt, child_offset, child, children_from, children, corner_inside}
use Rattle.tree.specs.Rows.{row_of}
use Rattle.blocks.specs.Table.{share_at}
use Rattle.blocks.specs.RowNumbers.{row_word}
use Rattle.laws.specs.Directions.{corner, extent}
use Rattle.laws.specs.Proper.{Proper}
use Rattle.laws.specs.Shape.{Shape}
use Rattle.laws.proofs.Depths.{one_deeper}
use Rattle.laws.proofs.Edge.{good_child}
use Rattle.laws.proofs.Levels.{child_shorter}
use Rattle.laws.proofs.Multiples.{fold_least}
use Rattle.laws.proofs.Opens.{quad_open_lem, binary_open_lem, ternary_open_lem}
use Rattle.laws.proofs.Parts.{Piece, pieces, child_end}
use Rattle.laws.proofs.Picture.{inside_end, cut_out}
use Rattle.laws.proofs.Shape.{side_four}
use Rattle.laws.proofs.Tests.{bit_most}
use Rattle.nodes.specs.Tables.{table_of}
use Rattle.nodes.specs.RowNodes.{inner_in, child_row, open_below}
use Rattle.walks.specs.Stands.{Word, word, keeps, Placed, Outer, Inside, AllStand, no_more, one_more}
use Rattle.walks.specs.Kids.{inner_kids, outer_kids}
use Rattle.walks.proofs.RowFields.{fits, row_says}
use Rattle.walks.proofs.ChildRows.{child_row_lem}
use Rattle.walks.proofs.Below.{quad_keeps, binary_keeps, ternary_keeps, below_bound, above_depths, below_depths}
use Rattle.walks.proofs.Open.{masked, inner_open}

pub inside_placed : (bound : ℕ) (k : Kind) (n : Node) (w : Word) → Inside bound k n w → Placed k.limits n
inside_placed bound k n w s = s.placed

pub outer_placed : (k : Kind) (n : Node) (w : Word) → Outer k n w → Placed k.limits n
outer_placed k n w s = s.placed

-- ---- a child

-- its offset is at most its depth
child_lifted : (l : Limits) (n : Node) (d : Decision) (p : Share) → n.offset ≤ n.mtt → (child l n d p).offset ≤ (child l n d p).mtt
unfolding child child_mtt child_offset
child_lifted l n Leaf p h = h
child_lifted l n Quad p h = omega arith
child_lifted l n (Binary d) p h = let b = bit_most (out_along d l n) 1 in omega arith
child_lifted l n (Ternary d) p h = omega arith

-- a node that ends in the picture is inside with its corner
ends_in : (l : Limits) {n : Node} → Shape n → ((e : Direction) → corner e n + along e n ≤ extent e l) → (corner_inside l n ≡ true) × (inside l n ≡ true)
unfolding corner_inside
ends_in l {n} sh h =
    let a = h Vertical in
    let b = h Horizontal in
    let w = fold_least (sh.side Vertical).fold in
    let v = fold_least (sh.side Horizontal).fold in
    (and_intro _ _ (lt-ltb n.x l.width (omega arith)) (lt-ltb n.y l.height (omega arith)), rw (le-ltb l.width (n.x + n.w) a, le-ltb l.height (n.y + n.h) b))

module _ {k : Kind} (v : Proper k) {n : Node} {row : ℕ} (s : Placed k.limits n) (is : row ≡ row_word (row_of n)) (d : Decision) (ok : allows (rights_of k n) d ≡ true) where
  abbrev kid : ℕ → Node
  kid i = child k.limits n d (share_at d i)

  module _ (i : ℕ) (piece : Piece d (share_at d i)) where
    ends : (e : Direction) → corner e (kid i) + along e (kid i) ≤ corner e n + along e n
    ends e = child_end k.limits n piece e (side_four (s.good.shape.side e))

    placed : Placed k.limits (kid i)
    placed =
        let r = ends Vertical in
        let b = ends Horizontal in
        let sr = s.right in
        let sb = s.bottom in
        let shorter = child_shorter k.limits n s.good.shape piece in
        let deeper = one_deeper k.limits n d (share_at d i) in
        let sum = s.sum in
        record {
          good = good_child v s.good d ok (share_at d i) piece;
          right = omega arith;
          bottom = omega arith;
          sum = omega arith;
          lifted = child_lifted k.limits n d (share_at d i) s.lifted;
        }

    small : (kid i).w + (kid i).h < 256
    small =
        let a = child_shorter k.limits n s.good.shape piece in
        let w = (s.good.shape.side Vertical).most in
        let h = (s.good.shape.side Horizontal).most in
        omega arith

    own_row : child_row row d i ≡ row_word (row_of (kid i))
    own_row = child_row_lem s is d i piece (fits placed)

    -- by the splits that its depths leave it
    pub kid_outer : {m : ℕ} → m ≡ (kid i).offset * 64 + open_splits (keeps k.limits (kid i)) → Outer k (kid i) (word (child_row row d i) m)
    kid_outer e = record { placed = placed; row = own_row; depths = e; small = λ within. small }

    -- a child of a node inside the picture
    module _ (within : inside k.limits n ≡ true) where
      is_in_picture : (corner_inside k.limits (kid i) ≡ true) × (inside k.limits (kid i) ≡ true)
      is_in_picture = ends_in k.limits placed.good.shape (λ e. let a = ends e in let b = inside_end k.limits n within e in omega arith)

-- ---- the children of a node inside the picture

module _ {k : Kind} (v : Proper k) {bound : ℕ} {n : Node} {row splits : ℕ} (s : Inside bound k n (word row splits)) where
  not_lifted : (e : Direction) → out_along e k.limits n ≡ false
  not_lifted Horizontal = or_none_right (right_out k.limits n) _ (not-true _ s.within)
  not_lifted Vertical = or_none_left _ (bottom_out k.limits n) (not-true _ s.within)

  -- the offset stays
  same_offset : (d : Decision) → allows (rights_of k n) d ≡ true → (p : Share) → (child k.limits n d p).offset ≡ n.offset
  unfolding child child_offset
  same_offset Leaf ok p = refl
  same_offset Quad ok p = let t = (quad_open_lem k n ok).top in let h = s.placed.lifted in omega arith
  same_offset (Binary e) ok p = rw (not_lifted e) (omega arith)
  same_offset (Ternary e) ok p = refl

  module _ (d : Decision) (ok : allows (rights_of k n) d ≡ true) where
    abbrev in_kid : ℕ → Node
    in_kid i = kid v s.placed s.row d ok i

    -- the open splits of a child, by the row of one of its size and depth
    open_as : (i j : ℕ) → Piece d (share_at d i) → Piece d (share_at d j) → (in_kid j).w ≡ (in_kid i).w → (in_kid j).h ≡ (in_kid i).h → (in_kid j).mtt ≡ (in_kid i).mtt
        → (cuts quad : ℕ) → open_splits (keeps k.limits (in_kid i)) ≡ bit (ltb (in_kid i).mtt (k.limits.maxmtt + (in_kid i).offset)) cuts + quad
        → open_below (table_of k) (child_row row d j) bound cuts quad ≡ open_splits (rights_of k (in_kid i))
    open_as i j pi pj ew eh em cuts quad e =
        let q = placed v s.placed s.row d ok j pj in
        let r = own_row v s.placed s.row d ok j pj in
        let f = fits (placed v s.placed s.row d ok i pi) in
        let deep : ltb (child_row row d j) bound ≡ ltb (in_kid i).mtt (k.limits.maxmtt + (in_kid i).offset) =
        ap (ltb (child_row row d j)) s.bounded ∙ below_bound q r (k.limits.maxmtt + n.offset)
        ∙ ap₂ ltb em (ap (λ o. k.limits.maxmtt + o) (sym (same_offset d ok (share_at d i)))) in
        let z : bit (ltb (child_row row d j) bound) cuts + quad ≡ 0 * 32 + open_splits (keeps k.limits (in_kid i)) = rw deep (omega arith) in
        ap (λ x. inner_in (table_of k) (child_row row d j) x) z
        ∙ masked k f (child_row row d j) ((row_says q r).at_w ∙ ap exponent ew) ((row_says q r).at_h ∙ ap exponent eh) 0
        ∙ inner_open k f (small v s.placed s.row d ok i pi) (is_in_picture v s.placed s.row d ok i pi s.within).1

    inner_kid : (i : ℕ) (piece : Piece d (share_at d i)) {m : ℕ} → m ≡ open_splits (rights_of k (in_kid i)) → Inside bound k (in_kid i) (word (child_row row d i) m)
    inner_kid i piece e =
        let p = is_in_picture v s.placed s.row d ok i piece s.within in
        record {
          placed = placed v s.placed s.row d ok i piece;
          here = p.0;
          within = p.1;
          row = own_row v s.placed s.row d ok i piece;
          splits = e;
          bounded = s.bounded ∙ ap (λ o. min 255 (k.limits.maxmtt + o) * 72057594037927936) (sym (same_offset d ok (share_at d i)));
        }

  -- siblings of one size have the same open splits
  module _ (d : Decision) (ok : allows (rights_of k n) d ≡ true) (j : ℕ) (pj : Piece d (share_at d j)) (cuts quad : ℕ) where
    like : (i : ℕ) → Piece d (share_at d i) → (in_kid d ok j).w ≡ (in_kid d ok i).w → (in_kid d ok j).h ≡ (in_kid d ok i).h → (in_kid d ok j).mtt ≡ (in_kid d ok i).mtt
        → open_splits (keeps k.limits (in_kid d ok i)) ≡ bit (ltb (in_kid d ok i).mtt (k.limits.maxmtt + (in_kid d ok i).offset)) cuts + quad
        → Inside bound k (in_kid d ok i) (word (child_row row d i) (open_below (table_of k) (child_row row d j) bound cuts quad))
    like i pi ew eh em e = inner_kid d ok i pi (open_as d ok i j pi pj ew eh em cuts quad e)

  pub inner_kids_lem : (d : Decision) → allows (rights_of k n) d ≡ true → AllStand (Inside bound k) (children k.limits n d) (inner_kids (table_of k) row bound d)
  unfolding children children_from shares share_at inner_kids child child_mtt
  inner_kids_lem Leaf ok = no_more
  inner_kids_lem Quad ok =
      let p = pieces Quad in
      let c = like Quad ok 0 p.0 30 1 in
      let q = quad_keeps k.limits n in
      one_more (c 0 p.0 refl refl refl (q 0)) (one_more (c 1 p.1.0 refl refl refl (q 1)) (one_more (c 2 p.1.1.0 refl refl refl (q 2)) (one_more (c 3 p.1.1.1.0 refl refl refl (q 3)) no_more)))
  inner_kids_lem (Binary Horizontal) ok =
      let p = pieces (Binary Horizontal) in
      let c = like (Binary Horizontal) ok 0 p.0 30 0 in
      let q = binary_keeps k.limits n Horizontal in
      one_more (c 0 p.0 refl refl refl (q 0)) (one_more (c 1 p.1.0 refl refl refl (q 1)) no_more)
  inner_kids_lem (Binary Vertical) ok =
      let p = pieces (Binary Vertical) in
      let c = like (Binary Vertical) ok 0 p.0 30 0 in
      let q = binary_keeps k.limits n Vertical in
      one_more (c 0 p.0 refl refl refl (q 0)) (one_more (c 1 p.1.0 refl refl refl (q 1)) no_more)
  inner_kids_lem (Ternary Horizontal) ok =
      let p = pieces (Ternary Horizontal) in
      let c = like (Ternary Horizontal) ok 0 p.0 30 0 in
      let q = ternary_keeps k.limits n Horizontal in
      one_more (c 0 p.0 refl refl refl (q 0 refl)) (one_more (like (Ternary Horizontal) ok 1 p.1.0 28 0 1 p.1.0 refl refl refl (q 1 refl)) (one_more (c 2 p.1.1.0 refl refl refl (q 2 refl)) no_more))
  inner_kids_lem (Ternary Vertical) ok =
      let p = pieces (Ternary Vertical) in
      let c = like (Ternary Vertical) ok 0 p.0 30 0 in
      let q = ternary_keeps k.limits n Vertical in
      one_more (c 0 p.0 refl refl refl (q 0 refl)) (one_more (like (Ternary Vertical) ok 1 p.1.0 26 0 1 p.1.0 refl refl refl (q 1 refl)) (one_more (c 2 p.1.1.0 refl refl refl (q 2 refl)) no_more))

-- ---- the children of a node that is out

module _ {k : Kind} (v : Proper k) {n : Node} {row depths : ℕ} (s : Outer k n (word row depths)) (out : inside k.limits n ≡ false) where
  -- a binary cut divides what is out
  cut_along : (d : Direction) → allows (rights_of k n) (Binary d) ≡ true → out_along d k.limits n ≡ true
  cut_along d ok = cut_out k.limits n d (binary_open_lem k n d ok).across out

  pub outer_kids_lem : (d : Decision) → allows (rights_of k n) d ≡ true → AllStand (Outer k) (children k.limits n d) (outer_kids (table_of k) row depths d)
  unfolding children children_from shares share_at outer_kids child child_mtt child_offset
  outer_kids_lem Leaf ok = no_more
  outer_kids_lem Quad ok =
      let p = pieces Quad in
      let a : (i : ℕ) → _ = λ i. above_depths k (kid v s.placed s.row Quad ok i) refl refl in
      one_more (kid_outer v s.placed s.row Quad ok 0 p.0 (a 0)) (one_more (kid_outer v s.placed s.row Quad ok 1 p.1.0 (a 1)) (one_more (kid_outer v s.placed s.row Quad ok 2 p.1.1.0 (a 2)) (one_more (kid_outer v s.placed s.row Quad ok 3 p.1.1.1.0 (a 3)) no_more)))
  outer_kids_lem (Binary Horizontal) ok =
      let p = pieces (Binary Horizontal) in
      let b = below_depths k n s.placed s.row s.depths Horizontal (cut_along Horizontal ok) in
      one_more (kid_outer v s.placed s.row (Binary Horizontal) ok 0 p.0 (b 0)) (one_more (kid_outer v s.placed s.row (Binary Horizontal) ok 1 p.1.0 (b 1)) no_more)
  outer_kids_lem (Binary Vertical) ok =
      let p = pieces (Binary Vertical) in
      let b = below_depths k n s.placed s.row s.depths Vertical (cut_along Vertical ok) in
      one_more (kid_outer v s.placed s.row (Binary Vertical) ok 0 p.0 (b 0)) (one_more (kid_outer v s.placed s.row (Binary Vertical) ok 1 p.1.0 (b 1)) no_more)
  outer_kids_lem (Ternary d) ok = clash (ternary_open_lem k n d ok).within out
