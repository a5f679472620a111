use Rattle.std.proofs.Common.{sym}
use Rattle.std.proofs.lemmas.Result.{err_from_is_err_and}
use Rattle.reader.proofs.Looked.{refused_read, luma_read}
use Rattle.reader.proofs.read_unit.Goals as goal

pub read_checked-requires : goal.read_checked-requires
read_checked-requires g c = c.as_luma-luma.ensures.usable (sym c.in_ok-check.ensures)

pub returns-in_err-check : goal.returns-in_err-check
returns-in_err-check g c =
    let p = err_from_is_err_and c.from_residual.result c.from_residual.ensures.1 in
    rw (p.1, p.2) (refused_read (g.S.Coding.units c.args.s) _ c.in_err-check.ensures c.args.address c.args.flags.now c.args.rows.now)

pub returns : goal.returns
returns g c = luma_read c.as_luma-luma.ensures c.in_ok-check.ensures c.args.address c.args.flags.now c.args.rows.now c.read_checked.ensures
