use Rattle.settings.proofs.Exponents.{larger_side}
use Rattle.settings.proofs.checks.bad_length.Goals as goal

pub multiple-requires : goal.multiple-requires
multiple-requires c = rw c.max.ensures (larger_side c.args.mincb c.requires)
