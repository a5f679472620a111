use Rattle.std.proofs.Common.{◌+◌, ◌*◌}
use Rattle.tree.specs.declared.Decision.TheVariants.{Quad, Binary, Ternary}
use Rattle.walks.specs.Stands.{area_in}
use Rattle.walks.specs.Kids.{inner_kids}
use Rattle.walks.proofs.Measure.{areas_in}
use Rattle.parser.proofs.reading.Reading.+walk.Given as goal

-- four times the area of what is walked, and the calls that a node makes before its children's

abbrev pub decreases-child_walk : goal.decreases-child_walk
decreases-child_walk l = area_in l.row * 4 + 3

abbrev pub decreases-children_walk : goal.decreases-children_walk
decreases-children_walk l = areas_in (inner_kids l.self.now.u.now l.row l.bound l.d) * 4 + 1

abbrev pub decreases-four_walk : goal.decreases-four_walk
decreases-four_walk l = areas_in (inner_kids l.self.now.u.now l.row l.bound Quad) * 4

abbrev pub decreases-node_walk : goal.decreases-node_walk
decreases-node_walk l = area_in l.row * 4 + 2

abbrev pub decreases-three_walk : goal.decreases-three_walk
decreases-three_walk l = areas_in (inner_kids l.self.now.u.now l.row l.bound (Ternary l.v)) * 4

abbrev pub decreases-two_walk : goal.decreases-two_walk
decreases-two_walk l = areas_in (inner_kids l.self.now.u.now l.row l.bound (Binary l.v)) * 4
