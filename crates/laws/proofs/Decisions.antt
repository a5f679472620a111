-- The decision that the rows of a coding tree show is the tree's. In any kind.
use Prim.Native.Nat.{◌+◌, ◌*◌, ◌/◌, ◌<◌}
use mathlib.Core.Path.{◌≡◌, refl, sym, ap, ◌∙◌}
use mathlib.Core.Bool.{Bool, true, false, not, cond, ◌&&◌, ◌||◌}
use mathlib.Core.List.{List, ◌∷◌, ◌++◌}
use lib.Dec.{ltb}
use borrow.Author.Tests.{lt-ltb, le-ltb}
use native.Mathlib.Omega.{arith}
use Rattle.sides.proofs.Bools.{and_late, and_no, and_right}
use Rattle.tree.specs.declared.Limits.{Limits}
use Rattle.tree.specs.declared.Node.{Node}
use Rattle.tree.specs.declared.Share.{Share}
use Rattle.tree.specs.declared.Direction.{Direction}
use Rattle.tree.specs.declared.Direction.TheVariants.{Horizontal, Vertical}
use Rattle.tree.specs.declared.Decision.{Decision}
use Rattle.tree.specs.declared.Decision.TheVariants.{Leaf, Quad, Binary, Ternary}
use Rattle.tree.specs.Kind.{Kind}
use Rattle.tree.specs.Splits.{right_out, bottom_out, inside, out_along, closed_across, rights_of, allows}
use Rattle.tree.specs.Children.{share, slab, shares, child, child_qt, child_mtt, children_from, children, corner_inside}
use Rattle.tree.specs.Rows.{Row, row_of, own_rows}
use Rattle.tree.specs.Back.{starts_after, at_left, at_top, cut_from, is_same_row, decision_from}
use Rattle.tree.specs.Tree.{Trees, rows_of}
use Rattle.laws.specs.Proper.{Proper}
use Rattle.laws.specs.Shape.{Shape}
use Rattle.laws.proofs.Tests.{never}
use Rattle.laws.proofs.Opens.{binary_open_lem, ternary_open_lem}
use Rattle.laws.proofs.Parts.{from}
use Rattle.laws.proofs.Picture.{cut_out}
use Rattle.laws.proofs.First.{Deeper, first_longer, first_row, start_there, quad_from, cut_from_lem}
use Rattle.laws.proofs.Order.{inside_fits}
use Rattle.laws.proofs.Cuts.{binary_found, ternary_found}
use Rattle.laws.proofs.SameRow.{same_self, same_row, other_row}

-- ---- what a row shows

module _ (l : Limits) (n : Node) (r : Row) (rows : List Row) where
  shows_leaf : inside l n ≡ true → r ≡ row_of n → decision_from l n r rows ≡ Leaf
  unfolding decision_from
  shows_leaf i own = rw (i, own, same_self (row_of n))

  -- and only a node's own row shows a leaf
  pub leaf_own : decision_from l n r rows ≡ Leaf → r ≡ row_of n
  unfolding decision_from cut_from
  leaf_own e =
      same_row r (row_of n)
      (and_right (inside l n) _
      (go (inside l n && is_same_row r (row_of n)) (ltb n.qt r.qt) (bottom_out l n) (right_out l n)
      (starts_after (n.w * n.h / 32) (at_left n) (r ∷ rows)) (starts_after (n.w * n.h / 32) (at_top n) (r ∷ rows)) (starts_after (n.w * n.h / 64) (at_left n) (r ∷ rows)) e))
    where
      go : (own quad bottom right left top quarter : Bool)
          → cond own Leaf (cond quad Quad (cond bottom (Binary Horizontal) (cond right (Binary Vertical) (cond left (Binary Horizontal) (cond top (Binary Vertical) (cond quarter (Ternary Horizontal) (Ternary Vertical)))))))
          ≡ Leaf → own ≡ true
      go true q b o s t u e = refl
      go false true b o s t u e = never (cc)
      go false false true o s t u e = never (cc)
      go false false false true s t u e = never (cc)
      go false false false false true t u e = never (cc)
      go false false false false false true u e = never (cc)
      go false false false false false false true e = never (cc)
      go false false false false false false false e = never (cc)

  -- a row that is not the node's own
  other : ¬ (r ≡ row_of n) → (inside l n && is_same_row r (row_of n)) ≡ false
  other differs = and_no (inside l n) _ (other_row r (row_of n) differs)

  shows_quad : n.qt < r.qt → decision_from l n r rows ≡ Quad
  unfolding decision_from row_of
  shows_quad h = rw (other (λ e. let q = ap (λ r. r.qt) e in omega arith), lt-ltb n.qt r.qt h)

  module _ (same : r.qt ≡ n.qt) (deep : n.mtt < r.mtt) where
    shows_cut : decision_from l n r rows ≡ cond (bottom_out l n) (Binary Horizontal) (cond (right_out l n) (Binary Vertical) (cut_from n (r ∷ rows)))
    unfolding decision_from row_of
    shows_cut = rw (other (λ e. let m = ap (λ r. r.mtt) e in omega arith), le-ltb n.qt r.qt (omega arith))

    shows_inside : inside l n ≡ true → decision_from l n r rows ≡ cut_from n (r ∷ rows)
    shows_inside h = shows_cut ∙ go (right_out l n) (bottom_out l n) h
      where
        go : (o b : Bool) → not (o || b) ≡ true → cond b (Binary Horizontal) (cond o (Binary Vertical) (cut_from n (r ∷ rows))) ≡ cut_from n (r ∷ rows)
        go true b e = never (sym e)
        go false true e = never (sym e)
        go false false e = refl

    shows_edge : (d : Direction) → closed_across l n d ≡ false → out_along d l n ≡ true → decision_from l n r rows ≡ Binary d
    shows_edge Horizontal c o = shows_cut ∙ rw o
    shows_edge Vertical c o = shows_cut ∙ rw (and_late (bottom_out l n) true c refl, o)

-- ---- the rows of a tree

module _ {k : Kind} (v : Proper k) (n : Node) (sh : Shape n) (here : corner_inside k.limits n ≡ true)
    (more : List Row) (r : Row) (rows : List Row) where
  -- the depths of the first row below a first part
  below : (d : Decision) (p : Share) → ((e : Direction) → from e p ≡ 0) → {cs : List Node} (kids : Trees k (child k.limits n d p ∷ cs))
      → rows_of kids ++ more ≡ r ∷ rows → Deeper (child_qt d n) (child_mtt d n) r.qt r.mtt
  unfolding child
  below d p zero-from kids e =
      let f = first_longer more (first_row kids (start_there k n d p zero-from here)) in
      let i = f.is in
      let g : f.row ≡ r = cc in
      rw (← g) f.depths

  below_cut : Deeper n.qt (n.mtt + 1) r.qt r.mtt → (r.qt ≡ n.qt) × (n.mtt < r.mtt)
  below_cut u = let c = u.cut (omega arith) in (omega arith, omega arith)

  pub decision_found : (d : Decision) → allows (rights_of k n) d ≡ true → (kids : Trees k (children k.limits n d))
      → (own_rows n d ++ rows_of kids) ++ more ≡ r ∷ rows → decision_from k.limits n r rows ≡ d
  unfolding rights_of row_of own_rows children children_from shares child_qt child_mtt
  decision_found Leaf ok kids e = shows_leaf k.limits n r rows ok (cc)
  decision_found Quad ok kids e =
      let u = below Quad (share 0 0 2 2 0) quad_from kids e in
      let a = u.quad in
      shows_quad k.limits n r rows (omega arith)
  decision_found (Binary d) ok kids e =
      let u = below_cut (below (Binary d) (slab d 0 2 0) (cut_from_lem d 2) kids e) in
      go u (inside k.limits n) refl
    where
      go : (r.qt ≡ n.qt) × (n.mtt < r.mtt) → (b : Bool) → inside k.limits n ≡ b → decision_from k.limits n r rows ≡ Binary d
      go u true i = shows_inside k.limits n r rows u.0 u.1 i ∙ ap (cut_from n) (sym e) ∙ binary_found v n d ok kids (inside_fits k.limits n sh i) more
      go u false i =
          let o = binary_open_lem k n d ok in
          shows_edge k.limits n r rows u.0 u.1 d o.across (cut_out k.limits n d o.across i)
  decision_found (Ternary d) ok kids e =
      let u = below_cut (below (Ternary d) (slab d 0 1 0) (cut_from_lem d 1) kids e) in
      let i = (ternary_open_lem k n d ok).within in
      shows_inside k.limits n r rows u.0 u.1 i ∙ ap (cut_from n) (sym e) ∙ ternary_found v n d ok kids (inside_fits k.limits n sh i) more
