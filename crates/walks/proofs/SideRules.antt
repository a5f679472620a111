-- Splits that the depths of a node inside the picture and its two sides leave are those that the rules leave.
use Prim.Native.Nat.{◌+◌, ◌*◌, ◌<◌, min}
use mathlib.Core.Path.{◌≡◌, refl}
use mathlib.Core.Bool.{Bool, true, false, not, ◌&&◌, ◌||◌}
use lib.Dec.{leb, ltb, eqb}
use borrow.Author.Tests.{not-true}
use native.Mathlib.Omega.{arith}
use Rattle.sides.proofs.Bools.{and_left, and_right, or_none_left, or_none_right, same, same_eq, for_bool, at_bool, for_five, at_five}
use Rattle.tree.specs.declared.Limits.{Limits}
use Rattle.tree.specs.declared.Node.{Node}
use Rattle.tree.specs.declared.Direction.{Direction}
use Rattle.tree.specs.declared.Direction.TheVariants.{Horizontal, Vertical}
use Rattle.tree.specs.Splits.{right_out, bottom_out, inside, closed_middle, closed_narrow, quad_open, binary_closed, binary_open, ternary_open, Rights}
use Rattle.nodes.specs.Tables.{side_rights, both}
use Rattle.walks.specs.Stands.{keeps}
use Rattle.laws.proofs.Sides.{One}
use Rattle.walks.proofs.Sides.{not_narrow}

-- ---- laws of Bools, by a test of all

-- a binary cut: it divides a side, and the other one is whole
binary_law : Bool → Bool → Bool → Bool → Bool → Bool → Bool → Bool
binary_law deep middle bw bh cut narrow large =
    same ((deep && not middle) && (bw && not narrow) && (bh && cut)) ((cut && bw && bh && deep) && not ((large && false) || false || middle || narrow))
    && same ((deep && not middle) && (bw && cut) && (bh && not narrow)) ((cut && bw && bh && deep) && not ((large && false) || false || middle || narrow))

binary_tested : for_five (λ deep middle bw bh cut. for_bool (λ narrow. for_bool (λ large. binary_law deep middle bw bh cut narrow large))) ≡ true
unfolding binary_law
binary_tested = refl

ternary_law : Bool → Bool → Bool → Bool → Bool
ternary_law deep tw th cut =
    same (deep && (tw && true) && (th && cut)) ((cut && tw && th && deep) && true) && same (deep && (tw && cut) && (th && true)) ((cut && tw && th && deep) && true)

ternary_tested : for_five (λ deep tw th cut more. ternary_law deep tw th cut) ≡ true
unfolding ternary_law
ternary_tested = refl

module _ (deep middle bw bh cut narrow large : Bool) where
  law : binary_law deep middle bw bh cut narrow large ≡ true
  law =
      at_bool (λ large. binary_law deep middle bw bh cut narrow large)
      (at_bool (λ narrow. for_bool (λ large. binary_law deep middle bw bh cut narrow large))
      (at_five (λ deep middle bw bh cut. for_bool (λ narrow. for_bool (λ large. binary_law deep middle bw bh cut narrow large))) binary_tested deep middle bw bh cut) narrow) large

  cut_down : (small : Bool) → not narrow ≡ small → ((deep && not middle) && (bw && small) && (bh && cut)) ≡ ((cut && bw && bh && deep) && not ((large && false) || false || middle || narrow))
  unfolding binary_law
  cut_down small e = rw (← e) (same_eq _ _ (and_left _ _ law))

  cut_right : (small : Bool) → not narrow ≡ small → ((deep && not middle) && (bw && cut) && (bh && small)) ≡ ((cut && bw && bh && deep) && not ((large && false) || false || middle || narrow))
  unfolding binary_law
  cut_right small e = rw (← e) (same_eq _ _ (and_right (same ((deep && not middle) && (bw && not narrow) && (bh && cut)) _) _ law))

module _ (deep tw th cut : Bool) where
  three : ternary_law deep tw th cut ≡ true
  three = at_five (λ deep tw th cut more. ternary_law deep tw th cut) ternary_tested deep tw th cut true

  three_down : (deep && (tw && true) && (th && cut)) ≡ ((cut && tw && th && deep) && true)
  unfolding ternary_law
  three_down = same_eq _ _ (and_left _ _ three)

  three_right : (deep && (tw && cut) && (th && true)) ≡ ((cut && tw && th && deep) && true)
  unfolding ternary_law
  three_right = same_eq _ _ (and_right (same (deep && (tw && true) && (th && cut)) _) _ three)

-- ---- a node

-- what its depths and its sides leave
abbrev pub by_sides : Limits → Node → Rights
by_sides l n = both (both (keeps l n) (side_rights Vertical l n.w)) (side_rights Horizontal l n.h)

quad_both : (t s : Bool) → (t && s && true) ≡ (t && s)
quad_both true true = refl
quad_both true false = refl
quad_both false s = refl

-- QT plays by the same rule wherever the node lies
pub quad_side : (l : Limits) (n : Node) → (by_sides l n).quad ≡ quad_open l n
quad_side l n = quad_both (eqb n.mtt 0) (ltb l.minqt n.w)

module _ (l : Limits) (n : Node) (w : One n.w) (h : One n.h) (small : n.w + n.h < 256) (within : inside l n ≡ true) where
  right_in : right_out l n ≡ false
  right_in = or_none_left _ (bottom_out l n) (not-true _ within)

  bottom_in : bottom_out l n ≡ false
  bottom_in = or_none_right (right_out l n) _ (not-true _ within)

  deep : Bool
  deep = ltb n.mtt (l.maxmtt + n.offset)

  pub binary_side : (d : Direction) → (by_sides l n).binary d ≡ binary_open l n d
  unfolding deep binary_open binary_closed
  binary_side Horizontal =
      rw (right_in, bottom_in)
      (cut_down deep (closed_middle n Horizontal) (leb n.w l.maxbt) (leb n.h l.maxbt) (ltb l.mincb n.h) (closed_narrow n Horizontal) (ltb 64 n.w) (leb n.w 64) (not_narrow w h small))
  binary_side Vertical =
      rw (right_in, bottom_in)
      (cut_right deep (closed_middle n Vertical) (leb n.w l.maxbt) (leb n.h l.maxbt) (ltb l.mincb n.w) (closed_narrow n Vertical) (ltb 64 n.h) (leb n.h 64) (not_narrow h w (omega arith)))

  pub ternary_side : (d : Direction) → (by_sides l n).ternary d ≡ ternary_open l n d
  unfolding deep ternary_open
  ternary_side Horizontal = rw within (three_down deep (leb n.w (min 64 l.maxtt)) (leb n.h (min 64 l.maxtt)) (ltb (2 * l.mincb) n.h))
  ternary_side Vertical = rw within (three_right deep (leb n.w (min 64 l.maxtt)) (leb n.h (min 64 l.maxtt)) (ltb (2 * l.mincb) n.w))
