use mathlib.Core.Path.{◌≡◌}
use Rattle.blocks.proofs.WordCopies.{fronted}
use Rattle.blocks.proofs.copies.copy_words.Given as goal

abbrev pub invariant-loop-i : goal.invariant-loop-i
invariant-loop-i l = l.to ≡ fronted l.fn.to l.words l.i
