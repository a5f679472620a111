-- How many flags a coding tree has, counted at its nodes: R-7's "count of flags in the coding tree".
use Rattle.std.specs.Prelude.{ℕ, ◌+◌, List}
use Rattle.tree.specs.declared.Node.{Node}
use Rattle.tree.specs.declared.Direction.{Direction}
use Rattle.tree.specs.declared.Decision.{Decision}
use Rattle.tree.specs.declared.Decision.TheVariants.{Leaf, Quad, Binary, Ternary}
use Rattle.tree.specs.Kind.{Kind}
use Rattle.tree.specs.Splits.{bit, Rights, rights_of}
use Rattle.tree.specs.Flags.{split_there, quad_there, vertical_there, binary_there}
use Rattle.tree.specs.Tree.{Trees, none, skip, node}

-- the flags of clause 7.3.11.4 that are present where a node takes a decision: a leaf ends with the split flag, a quad
-- with the quad flag, a cut has all four
abbrev pub cut_count : Rights → Direction → ℕ
cut_count r d = bit (split_there r) 1 + bit (quad_there r) 1 + bit (vertical_there r) 1 + bit (binary_there r d) 1

abbrev pub flags_at : Rights → Decision → ℕ
flags_at r Leaf = bit (split_there r) 1
flags_at r Quad = bit (split_there r) 1 + bit (quad_there r) 1
flags_at r (Binary d) = cut_count r d
flags_at r (Ternary d) = cut_count r d

-- over all nodes
unfoldable pub flag_count : {k : Kind} {ns : List Node} → Trees k ns → ℕ
flag_count none = 0
flag_count (skip out rest) = flag_count rest
flag_count {k} (node {n = n} d here ok kids rest) = flags_at (rights_of k n) d + (flag_count kids + flag_count rest)
