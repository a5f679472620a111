-- Demand 2, one claim about every unit that passes 1 to 10: "Flags become the blocks, in coding order, that
-- H.266's coding tree gives for them; rows become the flags that give them, and are refused exactly when no flags do."
use Rattle.std.specs.Prelude.{ℕ, ◌*◌, ◌%◌, ◌≡◌, List, ◌↔◌, length, take}
use Rattle.settings.specs.declared.Settings.{Settings}
use Rattle.settings.specs.Units.{unit_refusal}
use Rattle.refusals.specs.Said.{Accepted}
use Rattle.unit.specs.Answers.{number_of}
use Rattle.unit.specs.Units.{Units}
use Rattle.unit.specs.Luma.{units_of}
use Rattle.unit.specs.Reader.{read_in}
use Rattle.unit.specs.Writer.{write_in}
use Rattle.unit.specs.Exactly.{OneOf, no_tree_numbers, Bytes, ReadsExactly, TurnsExactly}

-- some flags give these rows: read into some buffer they are accepted, and the buffer then begins with the rows
pub record Given (us : Units) (a : ℕ) (bytes : List ℕ) : Type 0 where
  pub flags : List ℕ
  pub buffer : List ℕ
  pub count : ℕ
  pub accepted : (read_in us a flags buffer).answer ≡ Accepted count
  pub rows : take (8 * count) (read_in us a flags buffer).buffer ≡ bytes

pub record Exact (us : Units) (a : ℕ) : Type 0 where
  -- flags become the blocks of the coding tree that they say
  pub reads : ReadsExactly us a
  -- rows become the flags of the coding tree that has them
  pub turns : TurnsExactly us a
  -- whole rows are refused exactly when no flags give them
  pub refused : (bytes : List ℕ) → Bytes bytes → length bytes % 8 ≡ 0 → (buffer : List ℕ)
      → OneOf (number_of (write_in us a bytes buffer).answer) no_tree_numbers ↔ ¬ Given us a bytes

abbrev pub Demand2 : Type 0
Demand2 = (s : Settings) (a : ℕ) → unit_refusal s a ≡ 0 → Exact (units_of s) a
