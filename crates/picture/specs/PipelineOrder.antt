-- R-14, "Units arrive whole": one claim about every accepted greyscale unit, read by itself or in a session. Pipeline units
-- have R-4's side. What it says of a table is `CellByCell` (laws/specs/CellOrder.antt).
use Rattle.std.specs.Prelude.{ℕ, ◌≡◌, List, Ok}
use Rattle.settings.specs.declared.Settings.{Settings}
use Rattle.tree.specs.Rows.{Row, rows_at}
use Rattle.laws.specs.Every.{Every}
use Rattle.laws.specs.Geometry.{pipeline_side}
use Rattle.laws.specs.CellOrder.{CellByCell}
use Rattle.refusals.specs.Said.{Accepted}
use Rattle.unit.specs.Luma.{units_of}
use Rattle.unit.specs.Reader.{read_unit}
use Rattle.picture.specs.declared.Session.{Session}
use Rattle.picture.specs.State.{Call}
use Rattle.picture.specs.Session.{opening}
use Rattle.picture.specs.Lists.{rows_of_unit, accepted_in, joined}

-- of a table, by the settings
abbrev pub InPipelineOrder : Settings → List Row → Type 0
InPipelineOrder s rows = CellByCell (pipeline_side s.ctu) s.width s.height rows

-- after a list of calls, by the units accepted in it
pub record OrderAfter (s : Settings) (t : Session Settings) (calls : List Call) : Type 0 where
  -- the table of each unit, as its call left it
  pub each : Every (λ u. InPipelineOrder s (rows_of_unit u)) (accepted_in t calls)
  -- the joined table: a later unit brings no sample of a pipeline unit that is complete
  pub all : InPipelineOrder s (joined (accepted_in t calls))

pub record PipelineOrder : Type 0 where
  -- an accepted reading of a unit: its rows, as many as it answers, in the buffer that it left
  pub reading : (s : Settings) (a : ℕ) (flags buffer : List ℕ) (count : ℕ)
      → (read_unit s a flags buffer).answer ≡ Accepted count
      → InPipelineOrder s (rows_at count (read_unit s a flags buffer).buffer 0)
  -- every list of calls from a freshly opened session, as in demand 3
  pub session : (s : Settings) (t : Session Settings) → opening units_of s ≡ Ok t → (calls : List Call) → OrderAfter s t calls
