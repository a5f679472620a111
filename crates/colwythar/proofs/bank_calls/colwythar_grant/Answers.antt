use Rattle.std.proofs.Common.{◌∙◌, refl, ap, fold, take_all, rules, arith}
use Rattle.std.proofs.lemmas.List.Sums.{fold_more}
use Rattle.settings.specs.Words.{settings_in}
use Rattle.unit.specs.Luma.{units_of}
use Rattle.picture.specs.State.{call}
use Rattle.bank.specs.Steps.{all, left_after}
use Rattle.bank.proofs.Sums.{left_is}
use Rattle.colwythar.proofs.Charged.{charges_none, charges_there}
use Rattle.colwythar.proofs.bank_calls.colwythar_grant.Goals as goal

pub returns-then-accounts-camera : goal.returns-then-accounts-camera
returns-then-accounts-camera c =
    let a = c.args in
    charges_none (units_of (settings_in a.settings.now)) a.due.now a.limit a.accounts.now a.camera (call a.address a.flags.now a.rows.now) c.if-accounts-camera.true
    (rw c.at.ensures at c.put_answer.ensures)

pub loop-a-init : goal.loop-a-init
loop-a-init c = refl

pub loop-a-preserved : goal.loop-a-preserved
loop-a-preserved c = search (rules, fold_more left_after)

pub returns : goal.returns
returns c =
    let a = c.args in
    charges_there (units_of (settings_in a.settings.now)) a.due.now a.limit a.accounts.now a.camera (call a.address a.flags.now a.rows.now) c.if-accounts-camera.false
    (c.loop-a.invariant ∙ ap (λ l. fold left_after (all a.limit) l) (take_all c.loop-a.a-index a.accounts.now (omega arith)) ∙ left_is a.limit a.accounts.now) c.grant_unit.ensures
