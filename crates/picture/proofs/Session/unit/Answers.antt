use Rattle.std.proofs.Common.{refl, ap, arith}
use Rattle.refusals.specs.Said.{said}
use Rattle.picture.specs.State.{call}
use Rattle.picture.specs.Session.{returned}
use Rattle.picture.proofs.Calls.{found_due, state_refused, unit_read}
use Rattle.picture.proofs.Session.unit.Goals as goal

-- a due address is small
pub returned-requires-in-Ok : goal.returned-requires-in-Ok
returned-requires-in-Ok g c count e =
    let a = c.args in
    let d = found_due (g.S.Coding.units a.self.settings) a.self.due (call a.address a.flags.now a.rows.now) c.unit_count.ensures.counted c.state_at.ensures (ap said c.in-Ok.is) in
    let l = d.below in
    let m = c.unit_count.ensures.few d.passed in
    omega arith

pub read_passed-requires : goal.read_passed-requires
read_passed-requires g c =
    let a = c.args in
    (found_due (g.S.Coding.units a.self.settings) a.self.due (call a.address a.flags.now a.rows.now) c.unit_count.ensures.counted c.state_at.ensures (ap said c.in-Ok.is)).passed

pub returns-in-Err : goal.returns-in-Err
returns-in-Err g c =
    let a = c.args in
    state_refused (g.S.Coding.units a.self.settings) a.self.due (call a.address a.flags.now a.rows.now) c.unit_count.ensures.counted c.state_at.ensures (returned a.self) (ap said c.in-Err.is) c.returned.ensures refl

pub returns-in-Ok : goal.returns-in-Ok
returns-in-Ok g c =
    let a = c.args in
    unit_read (g.S.Coding.units a.self.settings) a.self.due (call a.address a.flags.now a.rows.now) c.unit_count.ensures.counted c.state_at.ensures (returned a.self) (ap said c.in-Ok.is) c.read_passed.ensures c.returned-in-Ok.ensures
