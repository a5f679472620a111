use mathlib.Core.Path.{◌≡◌}
use Rattle.cells.specs.Map.{put_lines}
use Rattle.cells.proofs.Lines.{lines_from}
use Rattle.cells.proofs.fill.Given as goal

abbrev pub invariant-loop-k : goal.invariant-loop-k
invariant-loop-k l = lines_from l.corner l.wide l.high l.row l.k l.map ≡ put_lines l.high l.wide l.row l.corner l.fn.map
