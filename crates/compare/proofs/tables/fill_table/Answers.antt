use Rattle.compare.proofs.Passing.{word_inside}
use Rattle.compare.proofs.tables.fill_table.Goals as goal

pub fill-requires : goal.fill-requires
fill-requires c =
    (c.loop-k.invariant.long, word_inside _ _ c.word_at.ensures.0 c.word_at.ensures.1 c.loop-k-test.true c.requires.1)
