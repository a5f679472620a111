use mathlib.Core.Path.{◌∙◌}
use Rattle.blocks.specs.RowNumbers.{word_bytes}
use Rattle.blocks.proofs.WordCopies.{word_stored}
use Rattle.blocks.proofs.rows.store_word.Goals as goal

pub returns : goal.returns
unfolding word_bytes
returns c = word_stored c.args.rows.now c.args.at c.args.word c.requires (c.copy_from_slice.ensures.after ∙ c.to_le_bytes.ensures)
