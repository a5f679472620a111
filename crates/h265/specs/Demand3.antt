-- Demand 3 for H.265, one claim about every list of unit calls from a freshly opened session: `After` (sessions/specs/Demand.antt), of units with one coding tree
-- and one table (`one_tree`, picture/specs/OneTree.antt). It says: every sample of the units accepted lies in exactly one row of the joined table, and no row reaches
-- outside these samples; where the list completes the picture, they are all of its samples; each row lies inside one pipeline unit, of the smaller of 64 and the
-- CTU side, or consists of whole ones; each unit's rows, turned back, give its flags; and two lists have equal joined tables exactly when they had equally many
-- units accepted, with equal flags, unit for unit.
use Rattle.std.specs.Prelude.{◌≡◌, List, Ok}
use Rattle.sessions.specs.Coding.{Coding}
use Rattle.sessions.specs.Demand.{After}
use Rattle.picture.specs.State.{Call}
use Rattle.picture.specs.OneTree.{tree_units, one_tree}
use Rattle.h265settings.specs.declared.Settings.{Settings}
use Rattle.h265settings.specs.Units.{units_of}
use Rattle.picture.specs.declared.Session.{Session}
use Rattle.picture.specs.Session.{opening, unit_call, following}

-- the session of settings, as what demand 3 speaks of
abbrev pub coding : Settings → Coding
coding s = one_tree (tree_units (units_of s) s.ctu) (Session Settings) (unit_call units_of) following

-- "A fresh session is what an accepted opening yields"
abbrev pub Demand3 : Type 0
Demand3 = (s : Settings) (t : Session Settings) → opening units_of s ≡ Ok t → (calls : List Call) → After (coding s) t calls
