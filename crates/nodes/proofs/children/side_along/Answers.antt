use Rattle.nodes.proofs.CutParts.{side_shift, side_most}
use Rattle.nodes.proofs.children.side_along.Goals as goal

pub returns : goal.returns
returns c =
    let a = c.args in
    (rw c.exponent_place.ensures.0 (side_shift a.row a.v), rw (c.exponent_place.ensures.0, side_shift a.row a.v) (side_most a.row a.v))
