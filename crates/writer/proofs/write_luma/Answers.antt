use Rattle.std.proofs.Common.{refl, sym, ◌∙◌}
use Rattle.std.proofs.lemmas.Result.{err_from_is_err_and}
use Rattle.unit.specs.Luma.{limits_of}
use Rattle.walks.proofs.UnitRoots.{found_root}
use Rattle.writer.proofs.Looked.{none_written, there_written}
use Rattle.writer.proofs.QuadLeaf.{quad_delivered}
use Rattle.writer.proofs.write_luma.Goals as goal

pub returns-in_err-q : goal.returns-in_err-q
returns-in_err-q c =
    let a = c.args in
    let p = err_from_is_err_and c.from_residual.result c.from_residual.ensures.1 in
    rw (p.1, p.2) (none_written (limits_of a.s) c.in_err-q.ensures a.rows.now refl a.flags.now)

pub of-root-requires : goal.of-root-requires
of-root-requires c = found_root (λ e. c.requires) c.args.address c.in_ok-q.ensures refl

pub returns-then-is_quad_leaf : goal.returns-then-is_quad_leaf
returns-then-is_quad_leaf c =
    let a = c.args in
    let tested = sym c.is_quad_leaf.ensures ∙ c.if-is_quad_leaf.true in
    there_written (limits_of a.s) c.in_ok-q.ensures a.rows.now refl c.of-root.ensures.limits c.of-root.ensures.node a.flags.now
    (quad_delivered c.of-root.result.unit a.rows.now tested a.flags.now c.leaf_flags.ensures)

pub returns : goal.returns
returns c =
    let a = c.args in
    there_written (limits_of a.s) c.in_ok-q.ensures a.rows.now refl c.of-root.ensures.limits c.of-root.ensures.node a.flags.now c.walk_rows.ensures
