use Prim.Native.Nat.{◌/◌}
use mathlib.Core.Path.{sym, ap, ◌∙◌}
use native.Mathlib.Omega.{arith}
use Rattle.nodes.specs.RowNodes.{node_in}
use Rattle.cells.specs.Map.{filled}
use Rattle.cells.proofs.Lines.{lines_next, lines_last, line_room}
use Rattle.cells.proofs.fill.Goals as goal

pub fill_line-requires : goal.fill_line-requires
unfolding node_in
fill_line-requires c = line_room c.requires.1 c.loop-k.k c.corner_cell-corner.ensures.0 (ap (λ m. m / 4) c.width.ensures.0) (ap (λ m. m / 4) c.height.ensures.0) c.loop-k-test.true

pub loop-k-preserved : goal.loop-k-preserved
loop-k-preserved c =
    let corner = c.corner_cell-corner.result in
    let high = c.height.result / 4 in
    let wide = c.width.result / 4 in
    rw c.fill_line.ensures (lines_next corner wide high c.args.row c.loop-k.map c.loop-k.k c.loop-k-test.true ∙ c.loop-k.invariant)

pub returns : goal.returns
unfolding node_in filled
returns c =
    let done = lines_last c.corner_cell-corner.result (c.width.result / 4) (c.height.result / 4) c.args.row c.loop-k.map c.loop-k.k (omega arith) in
    sym done ∙ c.loop-k.invariant ∙ rw (c.width.ensures.0, c.height.ensures.0, c.corner_cell-corner.ensures.0)
