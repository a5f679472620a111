-- The decision of a node that is out of the picture, where one cut is open at most, a binary one: the node is split, and its only flag is the quad one.
use Rattle.std.specs.Prelude.{ℕ, true, false, not, cond, List}
use Rattle.tree.specs.declared.Direction.{Direction}
use Rattle.tree.specs.declared.Direction.TheVariants.{Horizontal, Vertical}
use Rattle.tree.specs.declared.Decision.TheVariants.{Quad, Binary}
use Rattle.tree.specs.Flags.{Flag}
use Rattle.tree.specs.Flags.{Value, Bad}
use Rattle.tree.specs.Flags.{Choice}
use Rattle.tree.specs.Flags.{Chosen, Refused}
use Rattle.tree.specs.Splits.{has, rights_in}
use Rattle.tree.specs.Flags.{quad_flag}

-- the cut that is open: BH (2), else BV
abbrev pub out_direction : ℕ → Direction
out_direction splits = cond (not (has splits 2)) Vertical Horizontal

unfoldable pub after_quad_out : ℕ → Flag → Choice
after_quad_out splits (Bad k p) = Refused k p
after_quad_out splits (Value true at) = Chosen Quad at
after_quad_out splits (Value false at) = Chosen (Binary (out_direction splits)) at

abbrev pub decide_out : ℕ → List ℕ → ℕ → Choice
decide_out splits flags at = after_quad_out splits (quad_flag (rights_in true splits) flags at)
