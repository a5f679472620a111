use Rattle.std.proofs.Common.{sym}
use Rattle.std.proofs.lemmas.Result.{err_from_is_err_and}
use Rattle.settings.proofs.Passed.{passed}
use Rattle.settings.proofs.Grid.{gridded}
use Rattle.settings.proofs.Refused.{refused_unit}
use Rattle.settings.proofs.units.unit_at.Goals as goal

pub locate-requires : goal.locate-requires
locate-requires c = gridded (passed c.args.s (sym c.in_ok-check.ensures))

pub returns-in_err-check : goal.returns-in_err-check
returns-in_err-check c =
    let p = err_from_is_err_and c.from_residual.result c.from_residual.ensures.1 in
    rw (p.1, p.2) (refused_unit _ c.in_err-check.ensures _ _ _)

pub returns : goal.returns
returns c = rw (c.locate.ensures, ← c.in_ok-check.ensures)
