use Rattle.marks.proofs.Marking.{Passed}
use Rattle.marks.proofs.pass.mark.Given as goal

abbrev pub invariant-loop-i : goal.invariant-loop-i
invariant-loop-i l = Passed l.rows l.i l.covered l.marks
