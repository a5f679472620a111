-- Demand 3: one claim about every list of unit calls from a freshly opened session.
use Rattle.std.specs.Prelude.{ℕ, ◌≤◌, ◌≡◌, ◌↔◌, Bool, List, length, Ok}
use Rattle.settings.specs.declared.Settings.{Settings}
use Rattle.settings.specs.Units.{unit_count, square_at}
use Rattle.tree.specs.Splits.{bit}
use Rattle.laws.specs.Every.{Every}
use Rattle.laws.specs.Geometry.{copies, InPipeline, pipeline_side}
use Rattle.unit.specs.Answers.{accepted}
use Rattle.unit.specs.Luma.{units_of}
use Rattle.unit.specs.Writer.{write_flags}
use Rattle.sessions.specs.Samples as samples
use Rattle.picture.specs.declared.Session.{Session}
use Rattle.picture.specs.State.{Call}
use Rattle.picture.specs.Session.{opening}
use Rattle.picture.specs.Lists.{Taken, bytes_of_unit, accepted_in, joined, flag_lists}

-- ---- samples

-- whether (px, py) is a sample of the picture
abbrev pub in_picture : Settings → ℕ → ℕ → Bool
in_picture s px py = samples.is_sample s.width s.height px py

-- "A unit's samples are those of the picture in its square": whether (px, py) is a sample of one of the units
abbrev pub in_units : Settings → List Taken → ℕ → ℕ → Bool
in_units s us px py = samples.in_units (λ u. square_at s u.address) s.width s.height us px py

-- ---- the claim

-- turning a unit's rows back into any buffer that is long enough answers the number of its flags, and the buffer then
-- begins with exactly them, the rest untouched
abbrev pub TurnsBack : Settings → Taken → Type 0
TurnsBack s u =
    (buffer : List ℕ) → length u.flags ≤ length buffer
    → write_flags s u.address (bytes_of_unit u) buffer ≡ accepted (length u.flags) u.flags buffer

-- what holds after a list of calls, by the units accepted in it
pub record After (s : Settings) (t : Session Settings) (calls : List Call) : Type 0 where
  -- "every sample of the units accepted in it lies in exactly one row of the joined table, and no row reaches outside
  -- these samples"
  pub covered : (px py : ℕ) → copies px py (joined (accepted_in t calls)) ≡ bit (in_units s (accepted_in t calls) px py) 1
  -- "Where the list completes the picture, they are all of its samples"
  pub complete : length (accepted_in t calls) ≡ unit_count s → (px py : ℕ)
      → in_units s (accepted_in t calls) px py ≡ in_picture s px py
  -- "Each row lies inside one 64 by 64 pipeline unit or consists of whole ones"; R-4: "Where 64 by 64 stood, that side",
  -- the smaller of 64 and the CTU side, "stands from now on"
  pub pipeline : Every (InPipeline (pipeline_side s.ctu)) (joined (accepted_in t calls))
  -- "For every accepted unit, turning its rows back into any buffer that is long enough answers the number of the flags
  -- accepted for it, and the buffer then begins with exactly these flags"
  pub back : Every (TurnsBack s) (accepted_in t calls)
  -- "What was done is legible from the table": two lists "have equal joined tables exactly when they had equally many units
  -- accepted, with equal flags, unit for unit"
  pub legible : (others : List Call)
      → (joined (accepted_in t calls) ≡ joined (accepted_in t others))
      ↔ (flag_lists (accepted_in t calls) ≡ flag_lists (accepted_in t others))

-- "A fresh session is what an accepted opening yields"
abbrev pub Demand3 : Type 0
Demand3 = (s : Settings) (t : Session Settings) → opening units_of s ≡ Ok t → (calls : List Call) → After s t calls
