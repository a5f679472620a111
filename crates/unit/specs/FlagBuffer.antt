-- R-7, "How long must a flag buffer be?": how many flags the two calls read and write, by a unit's R rows, so that memory
-- can be planned before any picture arrives. By the CTU side: `Bounds` (Bounds.antt). The unit call on the due unit is this
-- reading (`Demand1.due_unit`, picture/specs/Demand1.antt).
use Rattle.std.specs.Prelude.{ℕ, ◌+◌, ◌*◌, ◌≤◌, ◌≡◌, List, length}
use Rattle.settings.specs.declared.Settings.{Settings}
use Rattle.settings.specs.Units.{unit_refusal}
use Rattle.tree.specs.Rows.{table_bytes}
use Rattle.tree.specs.Tree.{flags_of, rows_of}
use Rattle.laws.specs.Counts.{flag_count}
use Rattle.refusals.specs.Said.{Accepted, Refused}
use Rattle.unit.specs.Units.{Units}
use Rattle.unit.specs.Luma.{units_of}
use Rattle.unit.specs.Reader.{read_in}
use Rattle.unit.specs.Writer.{write_in}
use Rattle.unit.specs.Exactly.{UnitTree, Bytes}

-- R rows have at most `each` × R − `less` flags; without the subtraction, flags + less ≤ each × R, which also says that no
-- call accepts R = 0 rows.
pub record FlagsOfRows (each less : ℕ) (us : Units) (a : ℕ) : Type 0 where
  -- an accepted reading of R rows, into any buffer
  pub reads : (flags buffer : List ℕ) (rows : ℕ) → (read_in us a flags buffer).answer ≡ Accepted rows
      → length flags + less ≤ each * rows
  -- an accepted way back of a table of R rows
  pub turns : (rows : ℕ) (table : List ℕ) → Bytes table → length table ≡ 8 * rows → (buffer : List ℕ) (flags : ℕ)
      → (write_in us a table buffer).answer ≡ Accepted flags → flags + less ≤ each * rows
  -- a flag buffer of so many bytes is never too short for a table of R whole rows
  pub room : (rows : ℕ) (table : List ℕ) → Bytes table → length table ≡ 8 * rows → (buffer : List ℕ)
      → each * rows ≤ length buffer + less → (place : ℕ) → ¬ ((write_in us a table buffer).answer ≡ Refused 17 place)

-- a number of flags is that of the coding tree that has the rows of a table, and no other tree has them: the length of its
-- flags in coding order, and the number that is counted at its nodes
pub record FlagsOfTree (us : Units) (a : ℕ) (table : List ℕ) (flags : ℕ) : Type 0 where
  pub tree : UnitTree us a
  pub rows : table_bytes (rows_of tree) ≡ table
  pub only : (t : UnitTree us a) → table_bytes (rows_of t) ≡ table → t ≡ tree
  pub said : flags ≡ length (flags_of tree)
  pub counted : flags ≡ flag_count tree

pub record Planned (us : Units) (a : ℕ) : Type 0 where
  -- "the flags read number at most 6 × R − 4. A buffer of that length is then never refused with 17"
  pub six : FlagsOfRows 6 4 us a
  -- the sharper bound, 4 × R − 2
  pub four : FlagsOfRows 4 2 us a
  -- "the count in the result is the count of flags in the coding tree"
  pub count : (table : List ℕ) → Bytes table → (buffer : List ℕ) (flags : ℕ)
      → (write_in us a table buffer).answer ≡ Accepted flags → FlagsOfTree us a table flags
  -- and so is the place of 17, the flags needed
  pub needed : (table : List ℕ) → Bytes table → (buffer : List ℕ) (place : ℕ)
      → (write_in us a table buffer).answer ≡ Refused 17 place → FlagsOfTree us a table place

-- every unit that passes 1 to 10
abbrev pub FlagBuffer : Type 0
FlagBuffer = (s : Settings) (a : ℕ) → unit_refusal s a ≡ 0 → Planned (units_of s) a
