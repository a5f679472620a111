use Rattle.unit.proofs.Luma.{few_units}
use Rattle.unit.proofs.coding.unit_count.Goals as goal

pub returns-clause-few : goal.returns-clause-few
returns-clause-few g c = few_units c.as_luma-luma.ensures
