use Rattle.std.proofs.Common.{◌+◌, ◌*◌, [], ◌∷◌}
use Rattle.walks.specs.Stands.{word, area_in}
use Rattle.walks.specs.Kids.{four_words, outer_kids}
use Rattle.walks.proofs.Measure.{areas_in}
use Rattle.parser.proofs.reading.Reading.+at_edge.Given as goal

-- four times the area of what is walked, and the calls that a node makes before its children's

abbrev pub decreases-child_at_edge : goal.decreases-child_at_edge
decreases-child_at_edge l = area_in l.row * 4 + 3

abbrev pub decreases-children_at_edge : goal.decreases-children_at_edge
decreases-children_at_edge l = areas_in (outer_kids l.self.now.u.now l.row l.depths l.d) * 4 + 1

abbrev pub decreases-four_at_edge : goal.decreases-four_at_edge
decreases-four_at_edge l = areas_in (four_words l.row l.depths) * 4

abbrev pub decreases-node_at_edge : goal.decreases-node_at_edge
decreases-node_at_edge l = area_in l.row * 4 + 2

abbrev pub decreases-pair_at_edge : goal.decreases-pair_at_edge
decreases-pair_at_edge l = areas_in (word l.row0 l.depths ∷ word l.row1 l.depths ∷ []) * 4
