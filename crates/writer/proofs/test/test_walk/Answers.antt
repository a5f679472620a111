use Rattle.std.proofs.Common.{ap, ◌∙◌}
use Rattle.walks.proofs.Apart.{was_walked, was_refused}
use Rattle.writer.specs.Delivery.{walk_end}
use Rattle.writer.proofs.Whole.{root_walked, root_refused}
use Rattle.writer.proofs.test.test_walk.Goals as goal

pub returns-in_default : goal.returns-in_default
returns-in_default c =
    (root_refused c.requires.0 c.args.rows.now c.requires.1 c.walk_all.ensures (was_refused _ c.child_answer.ensures c.in_default.is) c.stuck_end.ensures).answers

pub returns : goal.returns
returns c =
    let on = was_walked _ c.child_answer.ensures c.in-Ok.is in
    (root_walked c.requires.0 c.args.rows.now c.requires.1 c.walk_all.ensures on.1 (c.walk_end.ensures ∙ ap (λ x. walk_end x c.args.rows.now) on.0)).answers
