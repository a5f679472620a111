use Rattle.std.proofs.Common.{◌+◌, ◌*◌, [], ◌∷◌}
use Rattle.walks.specs.Stands.{word, area_in}
use Rattle.walks.specs.Kids.{four_words, outer_kids}
use Rattle.walks.proofs.Measure.{areas_in}
use Rattle.back.proofs.edge.+at_edge.Given as goal

abbrev pub decreases-child_back : goal.decreases-child_back
decreases-child_back l = area_in l.row * 4 + 3

abbrev pub decreases-children_back : goal.decreases-children_back
decreases-children_back l = areas_in (outer_kids l.u.now l.row l.depths l.d) * 4 + 1

abbrev pub decreases-four_back : goal.decreases-four_back
decreases-four_back l = areas_in (four_words l.row l.depths) * 4

abbrev pub decreases-node_back : goal.decreases-node_back
decreases-node_back l = area_in l.row * 4 + 2

abbrev pub decreases-pair_back : goal.decreases-pair_back
decreases-pair_back l = areas_in (word l.row0 l.depths ∷ word l.row1 l.depths ∷ []) * 4
