use Rattle.std.proofs.Common.{◌≡◌, refl, ap, ◌∙◌}
use Rattle.std.proofs.lemmas.Result.{err_from_is_err_and}
use Rattle.tree.specs.Kind.{luma}
use Rattle.unit.specs.Answers.{Answer}
use Rattle.unit.specs.Writer.{test_rows}
use Rattle.walks.proofs.Apart.{was_walked, was_refused}
use Rattle.writer.specs.Delivery.{walk_end, InScratch}
use Rattle.writer.proofs.Whole.{root_walked, root_refused, kept_refused, kept_few, kept_written}
use Rattle.walks.proofs.UnitRoots.{rooted}
use Rattle.writer.proofs.write_all.Goals as goal
use Rattle.writer.proofs.write_all.Goals.{After-walk_end}

pub walk_all-answer-requires : goal.walk_all-answer-requires
walk_all-answer-requires c = (rooted c.args.root.unit, c.requires)

pub stuck_end-requires : goal.stuck_end-requires
stuck_end-requires c = (rooted c.args.root.unit, c.requires)

pub returns-in_default : goal.returns-in_default
returns-in_default c =
    let a = c.args in
    let kept = root_refused (rooted a.root.unit) a.rows.now c.requires c.walk_all-answer.ensures (was_refused _ c.child_answer.ensures c.in_default.is) c.stuck_end.ensures in
    kept_refused a.root.limits a.root.node a.rows.now kept a.flags.now refl

-- a walk that takes the rows of a tree: its end is the test's
kept : (c : After-walk_end) {said : Answer} → said ≡ walk_end c.in-Ok.end c.args.rows.now
    → InScratch (test_rows (luma c.args.root.limits) c.args.root.node c.args.rows.now) said c.walk_all-answer.new.scratch
kept c e =
    let on = was_walked _ c.child_answer.ensures c.in-Ok.is in
    root_walked (rooted c.args.root.unit) c.args.rows.now c.requires c.walk_all-answer.ensures on.1 (e ∙ ap (λ x. walk_end x c.args.rows.now) on.0)

pub returns-in_err-n : goal.returns-in_err-n
returns-in_err-n c =
    let a = c.args in
    let p = err_from_is_err_and c.from_residual.result c.from_residual.ensures.1 in
    rw (p.1, p.2) (kept_refused a.root.limits a.root.node a.rows.now (kept (goal.at.returns-in_err-n c).After-walk_end c.in_err-n.ensures) a.flags.now refl)

pub all_flags-requires : goal.all_flags-requires
all_flags-requires c =
    let a = c.args in
    kept_few a.root.limits a.root.node a.rows.now (kept (goal.at.all_flags-requires c).After-walk_end c.in_ok-n.ensures) a.flags.now refl

pub returns : goal.returns
returns c =
    let a = c.args in
    kept_written a.root.limits a.root.node a.rows.now (kept (goal.at.returns c).After-walk_end c.in_ok-n.ensures) a.flags.now refl c.all_flags.ensures
