-- A node as the walks carry it, two numbers: `row`, its row as one number, and the splits that are left to it: its open splits where it lies inside the
-- picture; where it may be out, those that its depths leave, and 64 for each 1 of its offset F.
use Rattle.std.specs.Prelude.{ℕ, ◌+◌, ◌-◌, ◌*◌, ◌/◌, ◌%◌, ◌^◌, min, Bool, cond, ◌&&◌, List, ◌==◌, bit_and, nat_lt, slice_index}
use Rattle.tree.specs.declared.Node.{Node}
use Rattle.tree.specs.declared.Share.{Share}
use Rattle.tree.specs.declared.Direction.{Direction}
use Rattle.tree.specs.declared.Decision.{Decision}
use Rattle.tree.specs.declared.Decision.TheVariants.{Leaf, Quad, Binary, Ternary}
use Rattle.tree.specs.Splits.{pick, along, bit, has}
use Rattle.tree.specs.Children.{part_of}
use Rattle.blocks.specs.Table.{share_at}
use Rattle.nodes.specs.Tables.{limits_in}

-- the node that a row says, but for its offset F, its part and its parent
unfoldable pub node_in : ℕ → Node
node_in row = record {
  x = row % 65536;
  y = row / 65536 % 65536;
  w = 2 ^ (row / 4294967296 % 8);
  h = 2 ^ (row / 1099511627776 % 8);
  qt = row / 281474976710656 % 256;
  mtt = row / 72057594037927936 % 256;
  offset = 0;
  part = 0;
  parent = Leaf;
}

-- ---- its open splits

-- inside the picture: of these, what the masks of its sides and of its area leave
abbrev pub inner_in : List ℕ → ℕ → ℕ → ℕ
inner_in u row splits =
    bit_and (bit_and (bit_and splits (slice_index u (6 + row / 4294967296 % 8))) (slice_index u (12 + row / 1099511627776 % 8)))
    (slice_index u (16 + (row / 4294967296 % 8 + row / 1099511627776 % 8)))

-- out of the picture: the binary cut that may be open there is BH (2) at the bottom, else BV (4); none in the picture's corner while QT may be open by the width
abbrev pub edge_cut : List ℕ → ℕ → Bool → Bool → ℕ
edge_cut u row right bottom = cond bottom (cond (right && has (slice_index u (6 + row / 4294967296 % 8)) 1) 0 2) 4

-- QT and that cut, as far as the masks leave them
abbrev pub out_in : List ℕ → ℕ → ℕ → Bool → Bool → ℕ
out_in u row byDepth right bottom = bit_and (inner_in u row byDepth) (1 + edge_cut u row right bottom)

-- ---- its children

-- by how much the exponent of a part's side is below that of its parent's, from the part's length in quarters
abbrev pub fall : ℕ → ℕ
fall size = cond (size == 1) 2 (cond (size == 2) 1 0)

-- what a child adds to its parent's depths in the row's number: 1 to the QT depth under a quad split, else 1 to the MTT depth
abbrev pub deeper : Decision → ℕ
deeper Leaf = 72057594037927936
deeper Quad = 281474976710656
deeper (Binary d) = 72057594037927936
deeper (Ternary d) = 72057594037927936

-- what a part adds to its parent's row: its depth and its place, less the fall of its exponents
abbrev pub step_to : ℕ → Decision → Share → ℕ
step_to row d p =
    deeper d + (part_of (node_in row).w (node_in row).h p).left + (part_of (node_in row).w (node_in row).h p).top * 65536
    - (fall p.wide * 4294967296 + fall p.high * 1099511627776)

-- the parent's row that a child's is made from: a quad split leaves no MTT depth
abbrev pub row_above : ℕ → Decision → ℕ
row_above row Leaf = row
row_above row Quad = row % 72057594037927936
row_above row (Binary d) = row
row_above row (Ternary d) = row

-- the row of the child with a number
unfoldable pub child_row : ℕ → Decision → ℕ → ℕ
child_row row d i = (row_above row d + step_to row d (share_at d i)) % 2 ^ 64

-- The parts of a cut, with its direction as data. A step along the side that it divides: so many quarters of that side, added to the corner.
abbrev pub step_along : ℕ → Direction → ℕ → ℕ
step_along row d start = along d (node_in row) / 4 * start * pick d 65536 1

-- the row of a part so many quarters long, but at its parent's corner
abbrev pub cut_part : ℕ → Direction → ℕ → ℕ
cut_part row d size = (row + (72057594037927936 - fall size * pick d 1099511627776 4294967296)) % 2 ^ 64

-- ---- what is left to its children

-- the cuts of a ternary part: the middle one is without the binary cut of its parent's direction
abbrev pub cuts_of : Direction → ℕ → ℕ
cuts_of d i = cond (i == 1) (pick d 28 26) 30

-- Inside the picture. M + F, the bound of the MTT depth, where that depth stands in a row's number: a child whose row is below it may be cut.
abbrev pub bound_in : List ℕ → ℕ → ℕ
bound_in u byDepth = min 255 ((limits_in u).maxmtt + byDepth / 64) * 72057594037927936

-- the open splits of a child: these cuts where its row is below the bound, QT where quad is 1, and of these what the masks leave
abbrev pub open_below : List ℕ → ℕ → ℕ → ℕ → ℕ → ℕ
open_below u row bound cuts quad = inner_in u row (bit (nat_lt row bound) cuts + quad)

-- Out of the picture: the splits that its depths leave to a child, and 64 for each 1 of its offset F. Above all cuts: QT, and the cuts where M is not 0.
abbrev pub depth_above : List ℕ → ℕ
depth_above u = bit (nat_lt 0 (limits_in u).maxmtt) 30 + 1

-- a part of a cut, with an offset: these cuts where its depth is below M + F, and never QT
abbrev pub depth_at : List ℕ → ℕ → ℕ → ℕ → ℕ
depth_at u row offset cuts = offset % 1024 * 64 + bit (nat_lt ((node_in row).mtt + 1) ((limits_in u).maxmtt + offset)) cuts

-- a part of a binary cut there, which adds 1 to F
abbrev pub depth_below : List ℕ → ℕ → ℕ → ℕ
depth_below u row depths = depth_at u row (depths / 64 + 1) 30

-- a part of a cut inside the picture, where F stays
abbrev pub depth_beside : List ℕ → ℕ → ℕ → ℕ → ℕ
depth_beside u row depths cuts = depth_at u row (depths / 64) cuts
