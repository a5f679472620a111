-- The decision at a node that is not a leaf, inside the picture and out of it, as the code finds it.
use mathlib.Core.Path.{◌≡◌, refl, sym}
use mathlib.Core.Bool.{Bool, true, false, not, cond, ◌&&◌, ◌||◌}
use mathlib.Core.List.{List, ◌∷◌}
use lib.Dec.{ltb}
use Rattle.tree.specs.declared.Limits.{Limits}
use Rattle.tree.specs.declared.Node.{Node}
use Rattle.tree.specs.declared.Direction.TheVariants.{Horizontal, Vertical}
use Rattle.tree.specs.declared.Decision.TheVariants.{Leaf, Quad, Binary}
use Rattle.tree.specs.Splits.{right_out, bottom_out, inside}
use Rattle.tree.specs.Rows.{Row, row_of}
use Rattle.tree.specs.Back.{cut_from, is_same_row, decision_from}
use Rattle.laws.proofs.Tests.{never}

module _ (l : Limits) (n : Node) (r : Row) (rows : List Row) where
  pub own_next_lem : inside l n ≡ true → is_same_row r (row_of n) ≡ true → decision_from l n r rows ≡ Leaf
  unfolding decision_from
  own_next_lem i own = rw (i, own)

  pub inside_next : inside l n ≡ true → is_same_row r (row_of n) ≡ false → decision_from l n r rows ≡ cond (ltb n.qt r.qt) Quad (cut_from n (r ∷ rows))
  unfolding decision_from
  inside_next i other = go (right_out l n) (bottom_out l n) (is_same_row r (row_of n)) other i
    where
      go : (o b s : Bool) → s ≡ false → not (o || b) ≡ true
          → cond (not (o || b) && s) Leaf (cond (ltb n.qt r.qt) Quad (cond b (Binary Horizontal) (cond o (Binary Vertical) (cut_from n (r ∷ rows)))))
          ≡ cond (ltb n.qt r.qt) Quad (cut_from n (r ∷ rows))
      go true b s f e = never (sym e)
      go false true s f e = never (sym e)
      go false false s f e = rw f

  pub out_next : inside l n ≡ false → decision_from l n r rows ≡ cond (ltb n.qt r.qt) Quad (cond (bottom_out l n) (Binary Horizontal) (Binary Vertical))
  unfolding decision_from
  out_next out = go (right_out l n) (bottom_out l n) out
    where
      go : (o b : Bool) → not (o || b) ≡ false
          → cond (not (o || b) && is_same_row r (row_of n)) Leaf (cond (ltb n.qt r.qt) Quad (cond b (Binary Horizontal) (cond o (Binary Vertical) (cut_from n (r ∷ rows)))))
          ≡ cond (ltb n.qt r.qt) Quad (cond b (Binary Horizontal) (Binary Vertical))
      go true true e = refl
      go true false e = refl
      go false true e = refl
      go false false e = never (e)
