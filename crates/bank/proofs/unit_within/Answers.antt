use Rattle.std.proofs.Common.{ap}
use Rattle.refusals.specs.Said.{said}
use Rattle.bank.proofs.OnAccount.{within_returns, judged_small}
use Rattle.bank.proofs.unit_within.Goals as goal

pub next_due-requires : goal.next_due-requires
next_due-requires c count e =
    let a = c.args in
    judged_small a.session _ c.unit_answer-called.ensures _ _ c.judged-answer.ensures count (ap said e)

pub returns : goal.returns
returns c =
    let a = c.args in
    within_returns a.session a.could a.address a.flags.now a.rows.now c.min.ensures c.unit_answer-called.ensures c.judged-answer.ensures c.next_due.ensures
