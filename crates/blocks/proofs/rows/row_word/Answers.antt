use Rattle.tree.specs.Rows.{row_of}
use Rattle.blocks.proofs.RowNumbers.{word_is}
use Rattle.blocks.proofs.rows.row_word.Goals as goal

pub returns : goal.returns
unfolding row_of
returns c = let e = word_is (row_of c.args.n) in cc
