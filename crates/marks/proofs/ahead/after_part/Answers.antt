use mathlib.Core.Path.{refl}
use Rattle.nodes.specs.RowNodes.{node_in}
use Rattle.marks.proofs.Found.{part_shown}
use Rattle.marks.proofs.ahead.after_part.Goals as goal

pub returns : goal.returns
unfolding node_in
returns c = part_shown c.before-base.ensures (rw (c.width.ensures.0, c.height.ensures.0)) c.requires refl c.starts.ensures
