-- R-4, in numbers: what demand 3's clause `pipeline` comes to for each CTU side. For CTU side 32 it is sharper: by the
-- clause a row could also consist of several units.
use Rattle.std.specs.Prelude.{◌≤◌, ◌≡◌, List, Ok}
use Rattle.settings.specs.declared.Settings.{Settings}
use Rattle.laws.specs.Every.{Every}
use Rattle.laws.specs.Geometry.{InOneCell, InPipeline}
use Rattle.unit.specs.Luma.{units_of}
use Rattle.picture.specs.declared.Session.{Session}
use Rattle.picture.specs.State.{Call}
use Rattle.picture.specs.Session.{opening}
use Rattle.picture.specs.Lists.{accepted_in, joined}

-- after a list of calls
pub record PipelineAfter (s : Settings) (t : Session Settings) (calls : List Call) : Type 0 where
  -- "with CTU side 32, no row may leave its 32 by 32 unit"
  pub of_32 : s.ctu ≡ 32 → Every (InOneCell 32) (joined (accepted_in t calls))
  -- with CTU side 64 or 128, each lies inside one 64 by 64 unit or consists of whole ones
  pub of_64 : 64 ≤ s.ctu → Every (InPipeline 64) (joined (accepted_in t calls))

-- for every list of calls from a freshly opened session, as in demand 3
abbrev pub PipelineUnits : Type 0
PipelineUnits = (s : Settings) (t : Session Settings) → opening units_of s ≡ Ok t → (calls : List Call) → PipelineAfter s t calls
