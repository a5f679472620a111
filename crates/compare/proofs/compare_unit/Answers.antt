use Rattle.std.proofs.Common.{refl}
use Rattle.compare.proofs.Calls.{found_unit, found_tabled}
use Rattle.compare.proofs.compare_unit.Goals as goal

pub of-requires : goal.of-requires
of-requires c = found_unit _ _ c.in_ok-q.ensures refl

pub compare_rows-requires : goal.compare_rows-requires
compare_rows-requires c = found_tabled _ _ c.in_ok-q.ensures refl c.of.ensures.limits c.of.ensures.node
