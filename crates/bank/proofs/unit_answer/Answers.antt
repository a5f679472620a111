use Rattle.std.proofs.Common.{refl}
use Rattle.std.proofs.lemmas.Result.{err_from_is_err_and}
use Rattle.unit.specs.Luma.{units_of}
use Rattle.picture.specs.State.{call}
use Rattle.picture.proofs.Calls.{found_due, state_refused, unit_read}
use Rattle.bank.proofs.OnAccount.{answered}
use Rattle.bank.proofs.unit_answer.Goals as goal

pub returns-in_err-state_at : goal.returns-in_err-state_at
returns-in_err-state_at c =
    let a = c.args in
    let p = err_from_is_err_and c.from_residual.result c.from_residual.ensures.1 in
    rw (p.1, p.2) (answered (state_refused (units_of a.settings) a.due (call a.address a.flags.now a.rows.now) c.unit_count.ensures.counted c.in_err-state_at.ensures (λ x. x) refl refl refl))

pub read_passed-requires : goal.read_passed-requires
read_passed-requires c =
    let a = c.args in
    (found_due (units_of a.settings) a.due (call a.address a.flags.now a.rows.now) c.unit_count.ensures.counted c.in_ok-state_at.ensures refl).passed

pub returns : goal.returns
returns c =
    let a = c.args in
    answered (unit_read (units_of a.settings) a.due (call a.address a.flags.now a.rows.now) c.unit_count.ensures.counted c.in_ok-state_at.ensures (λ x. x) refl c.read_passed.ensures refl)
