-- The way back's test of a unit's rows, which other calls share: what it refuses, and what it accepts.
use Rattle.std.specs.Prelude.{ℕ, ◌≡◌, List, length}
use Rattle.settings.specs.declared.Settings.{Settings}
use Rattle.tree.specs.Rows.{table_bytes}
use Rattle.tree.specs.Tree.{flags_of, rows_of}
use Rattle.refusals.specs.Said.{Accepted}
use Rattle.unit.specs.Answers.{answer_of}
use Rattle.unit.specs.Units.{Units, refusal_in}
use Rattle.unit.specs.Luma.{units_of}
use Rattle.unit.specs.Writer.{test_in}
use Rattle.unit.specs.Exactly.{UnitTree, Bytes}
use Rattle.unit.specs.Faults.{RowsFault, rows_numbers, Decides}

pub record TestsExactly (us : Units) (a : ℕ) (bytes : List ℕ) : Type 0 where
  -- it is decided by the faults of the rows; it is lent nothing
  pub decided : Decides {Lent = Unit {0}} (RowsFault us a bytes) (rows_numbers us.numbers) (answer_of (test_in us a bytes)) tt tt
  -- of a unit that is there, it accepts the rows of every coding tree, and answers the number of the tree's flags
  pub tests : refusal_in us a ≡ 0 → (t : UnitTree us a) → table_bytes (rows_of t) ≡ bytes
      → answer_of (test_in us a bytes) ≡ Accepted (length (flags_of t))
  -- it accepts no other rows
  pub counts : (m : ℕ) → answer_of (test_in us a bytes) ≡ Accepted m
      → (t : UnitTree us a) × (table_bytes (rows_of t) ≡ bytes) × (length (flags_of t) ≡ m)

abbrev pub RowsTested : Type 0
RowsTested = (s : Settings) (a : ℕ) (bytes : List ℕ) → Bytes bytes → TestsExactly (units_of s) a bytes
