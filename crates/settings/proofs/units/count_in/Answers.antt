use native.Mathlib.Omega.{arith}
use Rattle.settings.specs.Units.{count_in}
use Rattle.settings.proofs.Grid.{count_most}
use Rattle.settings.proofs.units.count_in.Goals as goal

pub overflow_mul-result : goal.overflow_mul-result
unfolding count_in
overflow_mul-result c = let m = count_most c.requires in rw (c.units_over.ensures, c.units_over-2.ensures) (omega arith)

pub returns : goal.returns
unfolding count_in
returns c = rw (c.units_over-2.ensures, c.units_over.ensures)
