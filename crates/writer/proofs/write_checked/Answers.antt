use Rattle.std.proofs.Common.{sym}
use Rattle.std.proofs.lemmas.Result.{err_from_is_err_and}
use Rattle.writer.proofs.Looked.{refused_written, luma_written}
use Rattle.writer.proofs.write_checked.Goals as goal

pub write_luma-requires : goal.write_luma-requires
write_luma-requires g c = c.as_luma.ensures.usable (sym c.in_ok-check.ensures)

pub returns-in_err-check : goal.returns-in_err-check
returns-in_err-check g c =
    let p = err_from_is_err_and c.from_residual.result c.from_residual.ensures.1 in
    rw (p.1, p.2) (refused_written (g.S.Coding.units c.args.s) _ c.in_err-check.ensures c.args.address c.args.rows.now c.args.flags.now)

pub returns : goal.returns
returns g c = luma_written c.as_luma.ensures c.in_ok-check.ensures c.args.address c.args.rows.now c.args.flags.now c.write_luma.ensures
