use Rattle.sides.specs.Side.{exponent}
use Rattle.sides.proofs.Powers.{mask_is_remainder}
use Rattle.settings.proofs.checks.multiple.Goals as goal

-- The bits below a power of two are the remainder by it.
pub returns : goal.returns
returns c = rw (mask_is_remainder (exponent c.args.m) c.args.m c.args.n c.requires)
