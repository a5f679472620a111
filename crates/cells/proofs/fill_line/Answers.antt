use native.Mathlib.Omega.{arith}
use Rattle.cells.proofs.Lines.{line_filled}
use Rattle.cells.proofs.fill_line.Goals as goal

pub returns : goal.returns
returns c = line_filled c.args.map.now c.args.at c.args.wide c.args.row (omega arith) (c.fill.ensures.after (λ y e. e))
