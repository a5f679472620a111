use Rattle.std.proofs.Common.{arith}
use Rattle.reader.proofs.Ends.{all_stop, all_more, all_short, all_few, all_done}
use Rattle.reader.proofs.deliver.all_rows.Goals as goal

pub returns-in_default : goal.returns-in_default
returns-in_default c =
    let a = c.args in
    all_stop a.answer _ c.child_answer.ensures a.scratch.now a.flags.now a.rows.now _ c.in_default.is _ _ c.walk_refusal.ensures.0 c.walk_refusal.ensures.1

pub returns-then-at-flags : goal.returns-then-at-flags
returns-then-at-flags c =
    let a = c.args in
    rw c.at.ensures (all_more a.answer _ c.child_answer.ensures a.scratch.now a.flags.now a.rows.now _ c.in-Ok.is _ c.place-at.ensures.0 c.if-at-flags.true)

pub returns-then-rows-n : goal.returns-then-rows-n
returns-then-rows-n c =
    let a = c.args in
    rw c.at-then-rows-n.ensures (all_short a.answer _ c.child_answer.ensures a.scratch.now a.flags.now a.rows.now _ c.in-Ok.is _ c.place-at.ensures.0 c.if-at-flags.false _ c.count-n.ensures.0 c.if-rows-n.true)

pub copy_words-requires : goal.copy_words-requires
copy_words-requires c =
    let a = c.args in
    let few = all_few a.answer _ c.child_answer.ensures a.scratch.now a.flags.now a.rows.now _ c.in-Ok.is _ c.place-at.ensures.0 c.if-at-flags.false _ c.count-n.ensures.0 c.requires.rows in
    (c.if-rows-n.false, omega arith)

pub returns : goal.returns
returns c =
    let a = c.args in
    all_done a.answer _ c.child_answer.ensures a.scratch.now a.flags.now a.rows.now _ c.in-Ok.is _ c.place-at.ensures.0 c.if-at-flags.false _ c.count-n.ensures.0 c.if-rows-n.false _ c.copy_words.ensures
