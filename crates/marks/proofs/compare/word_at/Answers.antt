use native.Mathlib.Omega.{arith}
use Rattle.marks.proofs.RowWords.{sum_word}
use Rattle.marks.proofs.compare.word_at.Goals as goal

pub returns : goal.returns
returns c = sum_word c.args.rows.now c.args.i (λ k. omega (arith, c.type_inv.rows k)) c.from_le_bytes.ensures
