use Rattle.std.proofs.Common.{sym, ◌∙◌}
use Rattle.writer.proofs.Alone.{leaf_delivered}
use Rattle.writer.proofs.write_rows.Goals as goal

pub returns-then-is_leaf : goal.returns-then-is_leaf
returns-then-is_leaf c =
    leaf_delivered c.args.root.unit c.args.rows.now (sym c.is_leaf.ensures ∙ c.if-is_leaf.true) c.leaf_splits.result c.leaf_splits.ensures c.args.flags.now c.leaf_flags.ensures
