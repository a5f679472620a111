-- Nodes and the edge of the picture, by direction.
use Prim.Native.Nat.{◌+◌, ◌≤◌, ◌<◌}
use mathlib.Core.Path.{◌≡◌, refl, ap}
use mathlib.Core.Bool.{Bool, true, false, not, ◌&&◌, ◌||◌}
use lib.Dec.{ltb}
use borrow.Author.Tests.{ltb-true, ltb-false, lt-ltb, not-true}
use native.Mathlib.Omega.{arith}
use Rattle.sides.proofs.Bools.{and_left, and_right, and_intro, and_no, or_right, or_none_left, or_none_right}
use Rattle.tree.specs.declared.Limits.{Limits}
use Rattle.tree.specs.declared.Node.{Node}
use Rattle.tree.specs.declared.Share.{Share}
use Rattle.tree.specs.declared.Direction.{Direction}
use Rattle.tree.specs.declared.Direction.TheVariants.{Horizontal, Vertical}
use Rattle.tree.specs.declared.Decision.{Decision}
use Rattle.tree.specs.Kind.{Kind}
use Rattle.tree.specs.Splits.{along, right_out, bottom_out, inside, out_along, closed_across, closed_corner}
use Rattle.tree.specs.Children.{child, corner_inside}
use Rattle.laws.specs.Directions.{corner, extent}
use Rattle.laws.specs.Multiples.{Multiple}
use Rattle.laws.proofs.Tests.{never, fails}
use Rattle.laws.proofs.Parts.{Piece, child_corner, child_end, child_under}

pub starts_in : (k : Kind) (n : Node) → corner_inside k.limits n ≡ true → (e : Direction) → corner e n < extent e k.limits
unfolding corner_inside
starts_in k n h Horizontal = ltb-true _ _ (and_right (ltb n.x k.limits.width) _ h)
starts_in k n h Vertical = ltb-true _ _ (and_left _ _ h)

module _ (l : Limits) (n : Node) where
  pub out_past : (e : Direction) → out_along e l n ≡ true → extent e l < corner e n + along e n
  out_past Horizontal h = ltb-true _ _ h
  out_past Vertical h = ltb-true _ _ h

  pub past_out : (e : Direction) → extent e l < corner e n + along e n → out_along e l n ≡ true
  past_out Horizontal h = lt-ltb _ _ h
  past_out Vertical h = lt-ltb _ _ h

  -- a node that is not out of the picture ends in it
  pub not_out : (e : Direction) → out_along e l n ≡ false → corner e n + along e n ≤ extent e l
  not_out Horizontal h = ltb-false _ _ h
  not_out Vertical h = ltb-false _ _ h

  pub inside_end : inside l n ≡ true → (e : Direction) → corner e n + along e n ≤ extent e l
  inside_end h Horizontal = not_out Horizontal (or_none_right (right_out l n) _ (not-true _ h))
  inside_end h Vertical = not_out Vertical (or_none_left _ (bottom_out l n) (not-true _ h))

  -- a node out of the picture is out in a direction whose cut `closed_across` leaves open
  pub out_some : inside l n ≡ false → (e : Direction) × (out_along e l n ≡ true) × (closed_across l n e ≡ false)
  out_some h = go (bottom_out l n) (right_out l n) refl refl h
    where
      go : (b r : Bool) → bottom_out l n ≡ b → right_out l n ≡ r → not (r || b) ≡ false → (e : Direction) × (out_along e l n ≡ true) × (closed_across l n e ≡ false)
      go true r eb er h = (Horizontal, eb, and_no (right_out l n) (not (bottom_out l n)) (ap not eb))
      go false true eb er h = (Vertical, er, rw eb)
      go false false eb er h = never h

  pub out_any : (e : Direction) → out_along e l n ≡ true → inside l n ≡ false
  out_any Horizontal h = rw (or_right (right_out l n) (bottom_out l n) h)
  out_any Vertical h = rw h

  -- and it leaves open only a cut that divides what is out
  pub cut_out : (d : Direction) → closed_across l n d ≡ false → inside l n ≡ false → out_along d l n ≡ true
  cut_out Horizontal = go (right_out l n) (bottom_out l n)
    where
      go : (r b : Bool) → (r && not b) ≡ false → not (r || b) ≡ false → b ≡ true
      go r true h o = refl
      go true false h o = never h
      go false false h o = never o
  cut_out Vertical = go (right_out l n) (bottom_out l n)
    where
      go : (r b : Bool) → (b && true) ≡ false → not (r || b) ≡ false → r ≡ true
      go true b h o = refl
      go false true h o = never h
      go false false h o = never o

-- where the corner of a part is in the picture, that of its node is
pub child_here : (k : Kind) (n : Node) (d : Decision) (p : Share) → corner_inside k.limits (child k.limits n d p) ≡ true → corner_inside k.limits n ≡ true
unfolding corner_inside
child_here k n d p here = and_intro _ _ (lt-ltb _ _ (starts Vertical)) (lt-ltb _ _ (starts Horizontal))
  where
    starts : (e : Direction) → corner e n < extent e k.limits
    starts e = let a = starts_in k (child k.limits n d p) here e in let b = child_corner k.limits n d p e in omega arith

-- where a part is out, its node is
module _ (l : Limits) (n : Node) {d : Decision} {p : Share} (piece : Piece d p) (by-four : (e : Direction) → Multiple 4 (along e n)) where
  pub child_past : (e : Direction) → out_along e l (child l n d p) ≡ true → out_along e l n ≡ true
  child_past e h = let a = out_past l (child l n d p) e h in let b = child_end l n piece e (by-four e) in past_out l n e (omega arith)

  pub child_out : inside l (child l n d p) ≡ false → inside l n ≡ false
  child_out h = let o = out_some l (child l n d p) h in out_any l n o.0 (child_past o.0 o.1)

  -- what closes the cuts of a part at the corner of the picture closes those of its node
  pub child_corners : closed_corner l n ≡ false → closed_corner l (child l n d p) ≡ false
  child_corners h = fails (closed_corner l (child l n d p)) (closed_corner l n) up h
    where
      up : closed_corner l (child l n d p) ≡ true → closed_corner l n ≡ true
      up h =
          let both = and_left (right_out l (child l n d p) && bottom_out l (child l n d p)) _ h in
          let large = ltb-true l.minqt (child l n d p).w (and_right (right_out l (child l n d p) && bottom_out l (child l n d p)) _ h) in
          let under = child_under l n piece Vertical (by-four Vertical) in
          and_intro _ _ (and_intro _ _ (child_past Vertical (and_left _ _ both)) (child_past Horizontal (and_right (right_out l (child l n d p)) _ both)))
          (lt-ltb l.minqt n.w (omega arith))
