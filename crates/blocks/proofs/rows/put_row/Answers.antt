use Prim.Native.Nat.{◌+◌}
use mathlib.Core.Path.{sym}
use native.Mathlib.Omega.{arith}
use lib.ListN.{length}
use borrow.Author.Tests.{le-leb, lt-leb}
use Rattle.blocks.specs.RowNumbers.{put_word}
use Rattle.blocks.proofs.rows.put_row.Goals as goal

pub returns-then-saturating_sub-lt8 : goal.returns-then-saturating_sub-lt8
unfolding put_word
returns-then-saturating_sub-lt8 c = let no = lt-leb (c.args.at + 8) (length c.args.rows.now) (omega arith) in record { room = sym no; bytes = rw no }

pub returns : goal.returns
unfolding put_word
returns c = let yes = le-leb (c.args.at + 8) (length c.args.rows.now) (omega arith) in record { room = sym yes; bytes = rw yes c.store_word.ensures }
