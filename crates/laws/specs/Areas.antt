-- The areas of nodes and of rows, and how many flags areas have room for.
use Rattle.std.specs.Prelude.{ℕ, ◌+◌, ◌-◌, ◌*◌, Bool, cond, ◌&&◌, ◌||◌, List, [], ◌∷◌, ltb, eqb}
use Rattle.tree.specs.declared.Node.{Node}
use Rattle.tree.specs.Rows.{Row}
use Rattle.tree.specs.Back.{cells_of}

-- the areas of nodes together
unfoldable pub areas_of : List Node → ℕ
areas_of [] = 0
areas_of (n ∷ ns) = n.w * n.h + areas_of ns

-- The spare of a node, by its sides and by whether it is below a cut. 4 times the flags of its tree, and the spare, are at most 7 for each cell of 4 by 4
-- samples: where the node is split, the spares of its parts pay for its own and for the flags of its decision. It is 12; it is 8 above all cuts, where a
-- quad flag may come, and another one for nodes of one or two cells and for sides of 128, which have fewer flags.
abbrev pub spare : ℕ → ℕ → Bool → ℕ
spare w h cut =
    cond (eqb w 128 && eqb h 128) 24
    (cond (eqb w 128 || eqb h 128) 20 (cond (ltb 32 (w * h)) (cond cut 12 8) (cond (ltb 16 (w * h)) 10 7)))

-- room for the flags of a node's tree, 64 for each flag; and of nodes
unfoldable pub room_of : Node → ℕ
room_of n = 7 * (n.w * n.h) - 16 * spare n.w n.h (ltb 0 n.mtt)

unfoldable pub flag_room : List Node → ℕ
flag_room [] = 0
flag_room (n ∷ ns) = room_of n + flag_room ns

-- the cells of 16 samples that rows have together
abbrev pub cells_of_all : List Row → ℕ
cells_of_all [] = 0
cells_of_all (r ∷ rs) = cells_of r + cells_of_all rs
