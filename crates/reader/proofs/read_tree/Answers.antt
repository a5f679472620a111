use Rattle.std.proofs.Common.{refl, sym, ap, ◌∙◌, nat_eq}
use Rattle.tree.specs.Kind.{luma}
use Rattle.walks.proofs.UnitRoots.{rooted, unit_given}
use Rattle.reader.proofs.Whole.{leaf_delivered, quad_leaf}
use Rattle.reader.proofs.read_tree.Goals as goal

pub returns-then-is_leaf : goal.returns-then-is_leaf
returns-then-is_leaf c =
    leaf_delivered (rooted c.args.root.unit) c.args.flags.now c.out-out.ensures 1 (quad_leaf (rooted c.args.root.unit) c.if-root.true) (sym c.is_leaf.ensures ∙ c.if-is_leaf.true) refl c.args.rows.now c.one_row.ensures

pub returns-then-is_leaf-2 : goal.returns-then-is_leaf-2
returns-then-is_leaf-2 c =
    let a = c.args in
    leaf_delivered (rooted c.args.root.unit) a.flags.now c.out-out.ensures c.open_splits-splits.result (ap (λ x. nat_eq x 0) c.open_splits-splits.ensures) (sym c.is_leaf-2.ensures ∙ c.if-is_leaf-2.true) c.leaf_count.ensures a.rows.now c.one_row-then-is_leaf-2.ensures

pub read_all-requires : goal.read_all-requires
read_all-requires c =
    let a = c.args in
    let given = unit_given a.root.unit c.luma_table-u.ensures c.row_word.ensures c.out-out.ensures c.open_splits-splits.ensures in
    (record { kind = luma a.root.limits; root = a.root.node; given = given }, sym c.is_leaf-2.ensures ∙ c.if-is_leaf-2.false)

pub returns : goal.returns
returns c =
    let a = c.args in
    c.read_all.ensures (luma a.root.limits) a.root.node (unit_given a.root.unit c.luma_table-u.ensures c.row_word.ensures c.out-out.ensures c.open_splits-splits.ensures)
