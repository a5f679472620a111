use mathlib.Core.Path.{◌∙◌}
use native.Mathlib.Omega.{arith}
use Rattle.blocks.proofs.WordCopies.{copy_step, copy_none}
use Rattle.blocks.proofs.copies.copy_words.Goals as goal

pub loop-i-init : goal.loop-i-init
loop-i-init c = copy_none c.args.to.now c.args.words.now

pub loop-i-preserved : goal.loop-i-preserved
loop-i-preserved c = c.store_word.ensures ∙ copy_step c.args.to.now c.args.words.now _ _ c.loop-i.invariant (omega arith) (omega arith)
