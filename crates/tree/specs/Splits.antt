-- Which splits are open at a node: H.266 clauses 6.4.1 (quad), 6.4.2 (binary) and 6.4.3 (ternary).
-- A direction names the cut: Horizontal cuts the height, Vertical the width. Document 01's BH is `Binary Horizontal`, its TV `Ternary Vertical`.
-- The 64 of these clauses is the standard's, the same for every CTU side: which flags a stream has depends on it. The
-- pipeline units of R-4 (`pipeline_side`, laws/specs/Geometry.antt) are the board's: rows are measured by them, and no
-- split is opened or closed.
use Rattle.std.specs.Prelude.{ℕ, ◌+◌, ◌*◌, min, Bool, true, false, not, ◌&&◌, ◌||◌, leb, ltb, eqb}
use Rattle.std.specs.Int.Bits.{bit_and}
use Rattle.tree.specs.declared.Limits.{Limits}
use Rattle.tree.specs.declared.Node.{Node}
use Rattle.tree.specs.declared.Direction.{Direction}
use Rattle.tree.specs.declared.Direction.TheVariants.{Horizontal, Vertical}
use Rattle.tree.specs.declared.Decision.{Decision}
use Rattle.tree.specs.declared.Decision.TheVariants.{Leaf, Quad, Binary, Ternary}
use Rattle.tree.specs.Kind.{Kind, closes}

-- one of two values by direction
abbrev pub pick : {A : Type 0} → Direction → A → A → A
pick Horizontal a b = a
pick Vertical a b = b

-- the side that a cut divides ("the cut dimension"), and the other one
abbrev pub along : Direction → Node → ℕ
along d n = pick d n.h n.w

abbrev pub across : Direction → Node → ℕ
across d n = pick d n.w n.h

-- "Right out" and "bottom out"
abbrev pub right_out : Limits → Node → Bool
right_out l n = ltb l.width (n.x + n.w)

abbrev pub bottom_out : Limits → Node → Bool
bottom_out l n = ltb l.height (n.y + n.h)

abbrev pub is_out : Limits → Node → Bool
is_out l n = right_out l n || bottom_out l n

abbrev pub inside : Limits → Node → Bool
inside l n = not (is_out l n)

-- out of the picture in the dimension that a cut divides, and in the other one
abbrev pub out_along : Direction → Limits → Node → Bool
out_along d l n = pick d (bottom_out l n) (right_out l n)

abbrev pub out_across : Direction → Limits → Node → Bool
out_across d l n = pick d (right_out l n) (bottom_out l n)

abbrev pub same_direction : Direction → Direction → Bool
same_direction Horizontal e = pick e true false
same_direction Vertical e = pick e false true

-- the parent was split by the ternary split of direction d
abbrev pub parent_ternary : Direction → Decision → Bool
parent_ternary d Leaf = false
parent_ternary d Quad = false
parent_ternary d (Binary e) = false
parent_ternary d (Ternary e) = same_direction d e

-- ---- quad, 6.4.1

abbrev pub quad_open : Limits → Node → Bool
quad_open l n = eqb n.mtt 0 && ltb l.minqt n.w

-- ---- binary, 6.4.2

-- what a binary split needs, D < M + F among it
abbrev pub binary_needs : Limits → Node → Direction → Bool
binary_needs l n d = ltb l.mincb (along d n) && leb n.w l.maxbt && leb n.h l.maxbt && ltb n.mtt (l.maxmtt + n.offset)

-- "BV and bottom out; BH and right out but not bottom out": the one rule in which the directions differ
abbrev pub closed_across : Limits → Node → Direction → Bool
closed_across l n d = out_across d l n && pick d (not (bottom_out l n)) true

-- the first rule with 64: "BV, H > 64 and right out; BH, W > 64 and bottom out"
abbrev pub closed_large : Limits → Node → Direction → Bool
closed_large l n d = ltb 64 (across d n) && out_along d l n

-- "right and bottom both out, and W > MinQt"
abbrev pub closed_corner : Limits → Node → Bool
closed_corner l n = right_out l n && bottom_out l n && ltb l.minqt n.w

-- "D > 0, part number 1, and the parent was split by the ternary split of the same direction"
abbrev pub closed_middle : Node → Direction → Bool
closed_middle n d = ltb 0 n.mtt && eqb n.part 1 && parent_ternary d n.parent

-- the second rule with 64: "BV with W ≤ 64 and H > 64; BH with W > 64 and H ≤ 64"
abbrev pub closed_narrow : Node → Direction → Bool
closed_narrow n d = leb (along d n) 64 && ltb 64 (across d n)

unfoldable pub binary_closed : Limits → Node → Direction → Bool
binary_closed l n d = closed_across l n d || closed_large l n d || closed_corner l n || closed_middle n d || closed_narrow n d

unfoldable pub binary_open : Limits → Node → Direction → Bool
binary_open l n d = binary_needs l n d && not (binary_closed l n d)

-- ---- ternary, 6.4.3

abbrev pub ternary_needs : Limits → Node → Direction → Bool
ternary_needs l n d =
    ltb (2 * l.mincb) (along d n) && leb n.w (min 64 l.maxtt) && leb n.h (min 64 l.maxtt) && ltb n.mtt (l.maxmtt + n.offset)

unfoldable pub ternary_open : Limits → Node → Direction → Bool
ternary_open l n d = ternary_needs l n d && inside l n

-- ---- the rights of a node: whether it lies inside the picture, and which splits are open

pub record Rights : Type 0 where
  pub within : Bool
  pub quad : Bool
  pub binary : Direction → Bool
  pub ternary : Direction → Bool

unfoldable pub rights_of : Kind → Node → Rights
rights_of k n = record {
  within = inside k.limits n;
  quad = not (closes k n Quad) && quad_open k.limits n;
  binary = λ d. not (closes k n (Binary d)) && binary_open k.limits n d;
  ternary = λ d. not (closes k n (Ternary d)) && ternary_open k.limits n d;
}

-- the decisions that rights allow: a leaf inside the picture, and the open splits
abbrev pub allows : Rights → Decision → Bool
allows r Leaf = r.within
allows r Quad = r.quad
allows r (Binary d) = r.binary d
allows r (Ternary d) = r.ternary d

-- a decision that divides its node
abbrev pub is_split : Decision → Bool
is_split Leaf = false
is_split Quad = true
is_split (Binary d) = true
is_split (Ternary d) = true

-- ---- the open splits as one number

abbrev pub bit : Bool → ℕ → ℕ
bit true k = k
bit false k = 0

-- the masks of the splits: QT 1, BH 2, BV 4, TH 8, TV 16
abbrev pub binary_mask : Direction → ℕ
binary_mask d = pick d 2 4

abbrev pub ternary_mask : Direction → ℕ
ternary_mask d = pick d 8 16

-- "The open splits of a node are one number: the sum of QT 1, BH 2, BV 4, TH 8, TV 16 for those open"
unfoldable pub open_splits : Rights → ℕ
open_splits r =
    bit r.quad 1 + bit (r.binary Horizontal) 2 + bit (r.binary Vertical) 4 + bit (r.ternary Horizontal) 8 + bit (r.ternary Vertical) 16

-- a mask finds its split in a number
abbrev pub has : ℕ → ℕ → Bool
has splits mask = not (eqb (bit_and splits mask) 0)

-- the rights that a number of open splits says of a node that is out of the picture or not
abbrev pub rights_in : Bool → ℕ → Rights
rights_in out splits = record {
  within = not out;
  quad = has splits 1;
  binary = λ d. has splits (binary_mask d);
  ternary = λ d. has splits (ternary_mask d);
}
