use Rattle.std.proofs.Common.{refl}
use Rattle.std.proofs.lemmas.Result.{err_from_is_err_and}
use Rattle.unit.specs.Luma.{limits_of}
use Rattle.walks.proofs.UnitRoots.{found_root}
use Rattle.reader.proofs.Looked.{none_read, there_read}
use Rattle.reader.proofs.read_checked.Goals as goal

pub returns-in_err-q : goal.returns-in_err-q
returns-in_err-q c =
    let p = err_from_is_err_and c.from_residual.result c.from_residual.ensures.1 in
    rw (p.1, p.2) (none_read (limits_of c.args.s) c.in_err-q.ensures c.args.flags.now c.args.rows.now refl)

pub of-requires : goal.of-requires
of-requires c = found_root (λ e. c.requires) c.args.address c.in_ok-q.ensures refl

pub returns : goal.returns
returns c =
    there_read (limits_of c.args.s) c.in_ok-q.ensures c.args.flags.now c.args.rows.now refl c.of.ensures.limits c.of.ensures.node c.read_tree.ensures
