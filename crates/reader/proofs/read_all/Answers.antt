use Rattle.std.proofs.Common.{arith}
use Rattle.walks.proofs.Roots.{root_room}
use Rattle.reader.proofs.Whole.{root_count, root_reason, root_delivered}
use Rattle.reader.proofs.read_all.Goals as goal

pub root_walk-answer-requires : goal.root_walk-answer-requires
root_walk-answer-requires c =
    let some = c.requires.0 in
    (some, root_room some.given _ (omega arith), c.requires.1, omega arith)

pub all_rows-requires : goal.all_rows-requires
all_rows-requires c =
    let some = c.requires.0 in
    let done = c.root_walk-answer.ensures some.kind some.root some.given in
    record { rows = root_count some.given.rooted c.args.flags.now done; reason = root_reason some.given.rooted c.args.flags.now done }

pub returns : goal.returns
returns c k root g =
    root_delivered g.rooted c.args.flags.now (c.root_walk-answer.ensures k root g) (omega arith) c.args.rows.now c.all_rows.ensures
