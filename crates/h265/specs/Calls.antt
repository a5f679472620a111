-- A single unit of an H.265 picture: the reading and the way back, which are those of all units.
use Rattle.std.specs.Prelude.{ℕ, List}
use Rattle.unit.specs.Answers.{Outcome}
use Rattle.unit.specs.Reader.{read_in}
use Rattle.unit.specs.Writer.{write_in}
use Rattle.h265settings.specs.declared.Settings.{Settings}
use Rattle.h265settings.specs.Units.{units_of}

-- refusals 34, 35, 7, 8 and 10 to 14
abbrev pub read_unit : Settings → ℕ → List ℕ → List ℕ → Outcome
read_unit s address flags buffer = read_in (units_of s) address flags buffer

-- refusals 34, 35, 7, 8, 10, 15, 27, 28, 16 and 17
abbrev pub write_flags : Settings → ℕ → List ℕ → List ℕ → Outcome
write_flags s address bytes buffer = write_in (units_of s) address bytes buffer
