use Rattle.std.proofs.Common.{refl}
use Rattle.std.proofs.lemmas.Result.{err_from_is_err_and}
use Rattle.settings.proofs.Passed.{passed}
use Rattle.unit.specs.Luma.{limits_of}
use Rattle.unit.proofs.Luma.{usable}
use Rattle.walks.proofs.UnitRoots.{found_root}
use Rattle.writer.proofs.Looked.{none_tested, there_tested}
use Rattle.writer.proofs.test.test_unit.Goals as goal

pub returns-in_err-q : goal.returns-in_err-q
returns-in_err-q c =
    let a = c.args in
    let p = err_from_is_err_and c.from_residual.result c.from_residual.ensures.1 in
    rw (p.1, p.2) (none_tested (limits_of a.s) c.in_err-q.ensures a.rows.now refl)

pub of-requires : goal.of-requires
of-requires c =
    let a = c.args in
    found_root (λ e. usable (passed a.s e)) a.address c.in_ok-q.ensures refl

pub returns : goal.returns
returns c =
    let a = c.args in
    there_tested (limits_of a.s) c.in_ok-q.ensures a.rows.now refl c.of.ensures.limits c.of.ensures.node c.test_rows.ensures
