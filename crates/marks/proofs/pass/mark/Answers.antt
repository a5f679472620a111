use mathlib.Core.Path.{refl}
use native.Mathlib.Omega.{arith}
use Rattle.marks.proofs.Marking.{none_marked, few_rows, row_passed, all_marked, enough_marked}
use Rattle.marks.proofs.pass.mark.Goals as goal

pub loop-i-init : goal.loop-i-init
loop-i-init c = (refl, none_marked _ c.requires.1)

pub returns-then-covered-ge1024 : goal.returns-then-covered-ge1024
returns-then-covered-ge1024 c = let p = c.loop-i.invariant in enough_marked p.1 (omega arith)

pub bounds-marks-i : goal.bounds-marks-i
bounds-marks-i c = let f = few_rows c.args.rows.now c.loop-i.invariant (omega arith) in omega arith

pub loop-i-preserved : goal.loop-i-preserved
loop-i-preserved c = row_passed c.args.rows.now c.loop-i.invariant (omega arith) (omega arith) c.word_at-row.ensures c.cells-covered.ensures

pub returns : goal.returns
returns c = all_marked c.loop-i.invariant.1 (omega arith)
