use Rattle.std.proofs.Common.{◌+◌, ◌-◌, ◌*◌, length}
use Rattle.tree.specs.Children.{shares}
use Rattle.walks.specs.Stands.{area_in}
use Rattle.search.proofs.node.Search.+search.Given as goal

-- the area of the node; the parts of one are smaller
abbrev pub decreases-child_search : goal.decreases-child_search
decreases-child_search l = area_in l.row * 16 + 12

abbrev pub decreases-node_search : goal.decreases-node_search
decreases-node_search l = area_in l.row * 16 + 11

abbrev pub decreases-cut_search : goal.decreases-cut_search
decreases-cut_search l = area_in l.row * 16 + 10

abbrev pub decreases-split_search : goal.decreases-split_search
decreases-split_search l = area_in l.row * 16 + 9

abbrev pub decreases-parts_search : goal.decreases-parts_search
decreases-parts_search l = area_in l.row * 16 + (length (shares l.d) - l.i)
