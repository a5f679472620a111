use Rattle.page.proofs.Stores.{Begun}
use Rattle.page.proofs.lines.put_lines.Given as goal

abbrev pub invariant-loop-k : goal.invariant-loop-k
invariant-loop-k l = Begun l.address l.rows l.fn.page l.k l.page
