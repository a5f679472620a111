use Rattle.std.proofs.Common.{sym, ap, ◌∙◌, false}
use native.Mathlib.Omega.{arith}
use Rattle.tree.specs.Splits.{rights_in, allows}
use Rattle.flags.proofs.Puts.{stored_quad, stored_binary, stored_ternary}
use Rattle.flags.proofs.put.put_split.Goals as goal

pub returns-in-Quad : goal.returns-in-Quad
returns-in-Quad c =
    let e = c.in-Quad.is in
    rw e (stored_quad c.args.splits (omega arith) (ap (allows (rights_in false c.args.splits)) (sym e) ∙ c.requires.2) c.some_cut.ensures c.put.ensures.0)

pub returns-in-Binary : goal.returns-in-Binary
returns-in-Binary c =
    let e = c.in-Binary.is in
    rw e (stored_binary c.args.splits (omega arith) _ (ap (allows (rights_in false c.args.splits)) (sym e) ∙ c.requires.2) c.ternary_mask.ensures c.put_cut.ensures)

pub returns-in-Ternary : goal.returns-in-Ternary
returns-in-Ternary c =
    let e = c.in-Ternary.is in
    rw e (stored_ternary c.args.splits (omega arith) _ (ap (allows (rights_in false c.args.splits)) (sym e) ∙ c.requires.2) c.binary_mask.ensures c.put_cut-in-Ternary.ensures)
