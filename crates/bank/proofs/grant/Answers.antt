use Rattle.std.proofs.Common.{sym, ap, ◌∙◌, arith}
use Rattle.std.proofs.Common.{refl, Some, None}
use Rattle.refusals.specs.Said.{said}
use Rattle.bank.specs.Accounts.{left_in}
use Rattle.unit.specs.Luma.{units_of}
use Rattle.picture.specs.State.{call}
use Rattle.picture.specs.Session.{unit_call}
use Rattle.bank.proofs.OnAccount.{within_most, grants_none, grants_within}
use Rattle.bank.proofs.grant.Goals as goal

pub returns-in_default : goal.returns-in_default
returns-in_default c =
    let a = c.args in
    rw (c.in_default.is, c.at.ensures) (grants_none (left_in None) a.own a.session (call a.address a.flags.now a.rows.now) refl)

pub charged-requires : goal.charged-requires
charged-requires c count e =
    let a = c.args in
    let most = within_most c.could_have-could.result a.rows.now (unit_call units_of a.session (call a.address a.flags.now a.rows.now)) (ap (λ x. x.1) (sym c.unit_within-called.ensures.returns) ∙ ap said e) in
    let is = c.could_have-could.ensures in
    omega arith

pub returns : goal.returns
returns c =
    let a = c.args in
    rw c.in-Some.is
    (grants_within (left_in (Some c.in-Some.free)) a.own a.session (call a.address a.flags.now a.rows.now) refl c.could_have-could.ensures c.unit_within-called.ensures c.charged.ensures)
