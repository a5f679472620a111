-- The open splits of a node that is out of the picture, by its two sides: no ternary cut is open, and of the binary ones that which divides what is out, but for the
-- picture's corner, where QT comes first.
use Prim.Native.Nat.{◌+◌, ◌*◌, min}
use mathlib.Core.Path.{◌≡◌, refl, sym, ◌∙◌}
use mathlib.Core.Bool.{Bool, true, false, not, ◌&&◌, ◌||◌}
use lib.Dec.{leb, ltb}
use Rattle.sides.proofs.Bools.{and_no, same, same_eq, for_bool, at_bool, for_five, at_five, clash}
use Rattle.tree.specs.declared.Limits.{Limits}
use Rattle.tree.specs.declared.Node.{Node}
use Rattle.tree.specs.declared.Direction.{Direction}
use Rattle.tree.specs.declared.Direction.TheVariants.{Horizontal, Vertical}
use Rattle.tree.specs.Splits.{pick, right_out, bottom_out, inside, binary_needs, closed_middle, binary_closed, binary_open, ternary_open}
use Rattle.walks.proofs.Sides.{not_large}
use Rattle.walks.proofs.SideRules.{by_sides}

-- the cut that may be open there
abbrev pub edge_open : Bool → Bool → Bool → Direction → Bool
edge_open right bottom quad d = pick d (bottom && not (right && quad)) (not bottom)

-- ---- laws of Bools, by a test of all

-- a horizontal cut at the bottom, a vertical one at the right only: `small` says that the side across is 64 at most
down_law : Bool → Bool → Bool → Bool → Bool → Bool → Bool → Bool → Bool → Bool
down_law deep middle bw bh cut small right quad low =
    same (((deep && not middle) && (bw && small) && (bh && cut)) && (true && not (right && quad)))
    ((cut && bw && bh && deep) && not ((right && not true) || (not small && true) || (right && true && quad) || middle || (low && not small)))

right_law : Bool → Bool → Bool → Bool → Bool → Bool → Bool → Bool → Bool
right_law deep middle bw bh cut small quad low =
    same (((deep && not middle) && (bw && cut) && (bh && small)) && true)
    ((cut && bw && bh && deep) && not ((false && true) || (not small && true) || (true && false && quad) || middle || (low && not small)))

down_tested : for_five (λ deep middle bw bh cut. for_bool (λ small. for_bool (λ right. for_bool (λ quad. for_bool (λ low. down_law deep middle bw bh cut small right quad low))))) ≡ true
unfolding down_law
down_tested = refl

right_tested : for_five (λ deep middle bw bh cut. for_bool (λ small. for_bool (λ quad. for_bool (λ low. right_law deep middle bw bh cut small quad low)))) ≡ true
unfolding right_law
right_tested = refl

module _ (deep middle bw bh cut small : Bool) (large : Bool) (e : large ≡ not small) where
  cut_down : (right quad low : Bool) → (((deep && not middle) && (bw && small) && (bh && cut)) && (true && not (right && quad)))
      ≡ ((cut && bw && bh && deep) && not ((right && not true) || (large && true) || (right && true && quad) || middle || (low && large)))
  unfolding down_law
  cut_down right quad low = rw e (same_eq _ _
      (at_bool (λ low. down_law deep middle bw bh cut small right quad low)
      (at_bool (λ quad. for_bool (λ low. down_law deep middle bw bh cut small right quad low))
      (at_bool (λ right. for_bool (λ quad. for_bool (λ low. down_law deep middle bw bh cut small right quad low)))
      (at_bool (λ small. for_bool (λ right. for_bool (λ quad. for_bool (λ low. down_law deep middle bw bh cut small right quad low))))
      (at_five (λ deep middle bw bh cut. for_bool (λ small. for_bool (λ right. for_bool (λ quad. for_bool (λ low. down_law deep middle bw bh cut small right quad low))))) down_tested deep middle bw bh cut) small) right) quad) low))

  cut_right : (quad low : Bool) → (((deep && not middle) && (bw && cut) && (bh && small)) && true)
      ≡ ((cut && bw && bh && deep) && not ((false && true) || (large && true) || (true && false && quad) || middle || (low && large)))
  unfolding right_law
  cut_right quad low = rw e (same_eq _ _
      (at_bool (λ low. right_law deep middle bw bh cut small quad low)
      (at_bool (λ quad. for_bool (λ low. right_law deep middle bw bh cut small quad low))
      (at_bool (λ small. for_bool (λ quad. for_bool (λ low. right_law deep middle bw bh cut small quad low)))
      (at_five (λ deep middle bw bh cut. for_bool (λ small. for_bool (λ quad. for_bool (λ low. right_law deep middle bw bh cut small quad low)))) right_tested deep middle bw bh cut) small) quad) low))

-- ---- a node that is out

module _ (l : Limits) (n : Node) (out : inside l n ≡ false) where
  deep : Bool
  deep = ltb n.mtt (l.maxmtt + n.offset)

  pub ternary_edge : (d : Direction) → ((by_sides l n).ternary d && false) ≡ ternary_open l n d
  unfolding ternary_open
  ternary_edge d = rw (and_no ((by_sides l n).ternary d) false refl, and_no (ltb (2 * l.mincb) (pick d n.h n.w) && leb n.w (min 64 l.maxtt) && leb n.h (min 64 l.maxtt) && ltb n.mtt (l.maxmtt + n.offset)) (inside l n) out)

  -- where it is out at the bottom or not, and at the right or not
  edge_of : (b r : Bool) → bottom_out l n ≡ b → right_out l n ≡ r → not (r || b) ≡ false → (d : Direction) → ((by_sides l n).binary d && edge_open r b (ltb l.minqt n.w) d) ≡ binary_open l n d
  unfolding deep binary_open binary_closed
  edge_of true r eb er h Horizontal =
      rw (eb, er)
      (cut_down deep (closed_middle n Horizontal) (leb n.w l.maxbt) (leb n.h l.maxbt) (ltb l.mincb n.h) (leb n.w 64) (ltb 64 n.w) (not_large n.w) r (ltb l.minqt n.w) (leb n.h 64))
  edge_of true r eb er h Vertical = rw eb (and_no ((by_sides l n).binary Vertical) false refl ∙ sym (and_no (binary_needs l n Vertical) false refl))
  edge_of false true eb er h Horizontal = rw (eb, er) (and_no ((by_sides l n).binary Horizontal) false refl ∙ sym (and_no (binary_needs l n Horizontal) false refl))
  edge_of false true eb er h Vertical =
      rw (eb, er)
      (cut_right deep (closed_middle n Vertical) (leb n.w l.maxbt) (leb n.h l.maxbt) (ltb l.mincb n.w) (leb n.h 64) (ltb 64 n.h) (not_large n.h) (ltb l.minqt n.w) (leb n.w 64))
  edge_of false false eb er h d = clash refl h

  pub binary_edge : (d : Direction) → ((by_sides l n).binary d && edge_open (right_out l n) (bottom_out l n) (ltb l.minqt n.w) d) ≡ binary_open l n d
  binary_edge d = edge_of (bottom_out l n) (right_out l n) refl refl out d
