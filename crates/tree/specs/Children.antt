-- The children of a decision: document 01, "Children and rows".
use Rattle.std.specs.Prelude.{ℕ, ◌+◌, ◌*◌, ◌/◌, Bool, ◌&&◌, List, [], ◌∷◌, ltb}
use Rattle.tree.specs.declared.Limits.{Limits}
use Rattle.tree.specs.declared.Node.{Node}
use Rattle.tree.specs.declared.Share.{Share}
use Rattle.tree.specs.declared.Part.{Part}
use Rattle.tree.specs.declared.Direction.{Direction}
use Rattle.tree.specs.declared.Decision.{Decision}
use Rattle.tree.specs.declared.Decision.TheVariants.{Leaf, Quad, Binary, Ternary}
use Rattle.tree.specs.Splits.{pick, bit, out_along}

-- A share is where a part starts and how long it is, in quarters of the parent, across and down, and the part's number.
abbrev pub share : ℕ → ℕ → ℕ → ℕ → ℕ → Share
share l t w h p = record { left = l; top = t; wide = w; high = h; part = p }

-- a part of a cut of direction d: from a start, so long, over the whole of the other side
abbrev pub slab : Direction → ℕ → ℕ → ℕ → Share
slab d start size p = pick d (share 0 start 4 size p) (share start 0 size 4 p)

-- "The shares of the five splits, in quarters of the parent": QT 2 and 2 each way, binary 2, 2, ternary 1, 2, 1; a leaf has no parts
unfoldable pub shares : Decision → List Share
shares Leaf = []
shares Quad = share 0 0 2 2 0 ∷ share 2 0 2 2 1 ∷ share 0 2 2 2 2 ∷ share 2 2 2 2 3 ∷ []
shares (Binary d) = slab d 0 2 0 ∷ slab d 2 2 1 ∷ []
shares (Ternary d) = slab d 0 1 0 ∷ slab d 1 2 1 ∷ slab d 3 1 2 ∷ []

-- "QT children have QT depth + 1, D = 0, F = 0. Others have D + 1"
unfoldable pub child_qt : Decision → Node → ℕ
child_qt Leaf n = n.qt
child_qt Quad n = n.qt + 1
child_qt (Binary d) n = n.qt
child_qt (Ternary d) n = n.qt

unfoldable pub child_mtt : Decision → Node → ℕ
child_mtt Leaf n = n.mtt
child_mtt Quad n = 0
child_mtt (Binary d) n = n.mtt + 1
child_mtt (Ternary d) n = n.mtt + 1

-- "F + 1 when BV is used right out or BH bottom out": a cut at the edge of the picture lifts the depth bound
abbrev pub lift : Limits → Node → Direction → ℕ
lift l n d = bit (out_along d l n) 1

unfoldable pub child_offset : Limits → Decision → Node → ℕ
child_offset l Leaf n = n.offset
child_offset l Quad n = 0
child_offset l (Binary d) n = n.offset + lift l n d
child_offset l (Ternary d) n = n.offset

-- a part's place in a parent of sides w and h: where it starts, and its sides
abbrev pub part_of : ℕ → ℕ → Share → Part
part_of w h p = record { left = w / 4 * p.left; top = h / 4 * p.top; wide = w / 4 * p.wide; high = h / 4 * p.high }

unfoldable pub child : Limits → Node → Decision → Share → Node
child l n d p = record {
  x = n.x + (part_of n.w n.h p).left;
  y = n.y + (part_of n.w n.h p).top;
  w = (part_of n.w n.h p).wide;
  h = (part_of n.w n.h p).high;
  qt = child_qt d n;
  mtt = child_mtt d n;
  offset = child_offset l d n;
  part = p.part;
  parent = d;
}

-- a child for each share
unfoldable pub children_from : Limits → Node → Decision → List Share → List Node
children_from l n d [] = []
children_from l n d (p ∷ ps) = child l n d p ∷ children_from l n d ps

-- all children of a node, in coding order, those outside the picture too
unfoldable pub children : Limits → Node → Decision → List Node
children l n d = children_from l n d (shares d)

-- "A child whose corner is outside the picture is skipped"
unfoldable pub corner_inside : Limits → Node → Bool
corner_inside l n = ltb n.x l.width && ltb n.y l.height
