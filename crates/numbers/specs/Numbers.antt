-- The context numbers of a node's flags: H.266 clause 9.3.4.2, from what the node sees of the block above it and of the block to its left.
use Rattle.std.specs.Prelude.{ℕ, ◌+◌, ◌-◌, ◌*◌, ◌/◌, ◌^◌, Bool, false, cond, List, [], ◌∷◌, ◌++◌, leb, ltb, eqb}
use Rattle.tree.specs.declared.Node.{Node}
use Rattle.tree.specs.declared.Direction.{Direction}
use Rattle.tree.specs.declared.Direction.TheVariants.{Horizontal, Vertical}
use Rattle.tree.specs.declared.Decision.{Decision}
use Rattle.tree.specs.declared.Decision.TheVariants.{Leaf, Quad, Binary, Ternary}
use Rattle.tree.specs.Splits.{pick, bit, Rights}
use Rattle.tree.specs.Flags.{split_there, quad_there, vertical_there, binary_there}

-- What a context takes from a neighbour: the exponent of the width (of the block above) or of the height (of the block to the left) and the QT depth;
-- or the neighbour is unavailable.
pub data Seen : Type 0 where
  unavailable : Seen
  block : ℕ → ℕ → Seen

-- available, and its side is below a length
abbrev pub shorter : Seen → ℕ → Bool
shorter unavailable side = false
shorter (block exponent depth) side = ltb (2 ^ exponent) side

-- available, and its QT depth is above a depth
abbrev pub deeper : Seen → ℕ → Bool
deeper unavailable qt = false
deeper (block exponent depth) qt = ltb qt depth

-- the open splits of a direction; all open splits, QT counted twice
abbrev pub open_cuts : Rights → Direction → ℕ
open_cuts r d = bit (r.binary d) 1 + bit (r.ternary d) 1

abbrev pub open_twice : Rights → ℕ
open_twice r = open_cuts r Vertical + open_cuts r Horizontal + bit r.quad 2

-- split_cu_flag: two neighbours, and 3 for each step of the set
abbrev pub split_number : Rights → Node → Seen → Seen → ℕ
split_number r n above left = bit (shorter above n.w) 1 + bit (shorter left n.h) 1 + 3 * ((open_twice r - 1) / 2)

-- split_qt_flag
abbrev pub quad_number : Node → Seen → Seen → ℕ
quad_number n above left = bit (deeper above n.qt) 1 + bit (deeper left n.qt) 1 + bit (leb 2 n.qt) 3

-- mtt_split_cu_vertical_flag: by the counts of open splits, and where these are equal by how often the neighbours' sides go into the node's
unfoldable pub even_number : Node → Seen → Seen → ℕ
even_number n unavailable left = 0
even_number n (block e q) unavailable = 0
even_number n (block e q) (block f p) = cond (eqb (n.w / 2 ^ e) (n.h / 2 ^ f)) 0 (cond (ltb (n.w / 2 ^ e) (n.h / 2 ^ f)) 1 2)

abbrev pub vertical_number : Rights → Node → Seen → Seen → ℕ
vertical_number r n above left =
    cond (ltb (open_cuts r Horizontal) (open_cuts r Vertical)) 4
    (cond (ltb (open_cuts r Vertical) (open_cuts r Horizontal)) 3 (even_number n above left))

-- mtt_split_cu_binary_flag, of a cut of direction d
abbrev pub binary_number : Node → Direction → ℕ
binary_number n d = 2 * pick d 0 1 + bit (leb n.mtt 1) 1

-- ---- one number for each flag that says a decision, in the order of `flags_for`

-- a flag's number, where the flag is present
abbrev pub number_of : Bool → ℕ → List ℕ
number_of there number = cond there (number ∷ []) []

abbrev pub cut_numbers : Rights → Node → Seen → Seen → Direction → List ℕ
cut_numbers r n above left d =
    number_of (split_there r) (split_number r n above left)
    ++ (number_of (quad_there r) (quad_number n above left)
    ++ (number_of (vertical_there r) (vertical_number r n above left)
    ++ number_of (binary_there r d) (binary_number n d)))

unfoldable pub numbers_for : Rights → Node → Seen → Seen → Decision → List ℕ
numbers_for r n above left Leaf = number_of (split_there r) (split_number r n above left)
numbers_for r n above left Quad = number_of (split_there r) (split_number r n above left) ++ number_of (quad_there r) (quad_number n above left)
numbers_for r n above left (Binary d) = cut_numbers r n above left d
numbers_for r n above left (Ternary d) = cut_numbers r n above left d
