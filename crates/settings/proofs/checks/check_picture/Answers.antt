use Rattle.settings.proofs.Passed.{sides}
use Rattle.settings.proofs.checks.check_picture.Goals as goal

-- MinCb and MinQt are powers of two.
pub bad_length-requires : goal.bad_length-requires
bad_length-requires c = (sides c.args.s c.requires).cb.is

pub bad_length-requires-2 : goal.bad_length-requires-2
bad_length-requires-2 c = (sides c.args.s c.requires).cb.is

pub multiple-requires : goal.multiple-requires
multiple-requires c = (sides c.args.s c.requires).qt.is

pub multiple-requires-2 : goal.multiple-requires-2
multiple-requires-2 c = (sides c.args.s c.requires).qt.is
