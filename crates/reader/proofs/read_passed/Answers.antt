use Rattle.std.proofs.Common.{sym}
use Rattle.reader.proofs.Looked.{luma_read}
use Rattle.reader.proofs.read_passed.Goals as goal

pub read_checked-requires : goal.read_checked-requires
read_checked-requires g c = c.as_luma.ensures.usable c.requires

pub returns : goal.returns
returns g c = luma_read c.as_luma.ensures (sym c.requires) c.args.address c.args.flags.now c.args.rows.now c.read_checked.ensures
