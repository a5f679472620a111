use Rattle.std.proofs.Common.{◌+◌, ◌*◌}
use Rattle.tree.specs.declared.Decision.TheVariants.{Quad, Binary, Ternary}
use Rattle.walks.specs.Stands.{area_in}
use Rattle.walks.specs.Kids.{inner_kids}
use Rattle.walks.proofs.Measure.{areas_in}
use Rattle.back.proofs.inside.+back.Given as goal

abbrev pub decreases-child_back : goal.decreases-child_back
decreases-child_back l = area_in l.row * 4 + 3

abbrev pub decreases-children_back : goal.decreases-children_back
decreases-children_back l = areas_in (inner_kids l.u.now l.row l.bound l.d) * 4 + 1

abbrev pub decreases-four_back : goal.decreases-four_back
decreases-four_back l = areas_in (inner_kids l.u.now l.row l.bound Quad) * 4

abbrev pub decreases-node_back : goal.decreases-node_back
decreases-node_back l = area_in l.row * 4 + 2

abbrev pub decreases-three_back : goal.decreases-three_back
decreases-three_back l = areas_in (inner_kids l.u.now l.row l.bound (Ternary l.v)) * 4

abbrev pub decreases-two_back : goal.decreases-two_back
decreases-two_back l = areas_in (inner_kids l.u.now l.row l.bound (Binary l.v)) * 4
