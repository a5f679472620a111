-- How many rows and flags a unit of H.265 has at most. Buffers for so many are never too short.
use Rattle.std.specs.Prelude.{ℕ, ◌-◌, ◌*◌, ◌/◌, ◌≡◌, replicate}
use Rattle.refusals.specs.Said.{Accepted}
use Rattle.unit.specs.Bounds.{Bounded}
use Rattle.h265settings.specs.declared.Settings.{Settings}
use Rattle.h265settings.specs.Checks.{settings_refusal}
use Rattle.h265settings.specs.Units.{units_of}
use Rattle.h265.specs.Calls.{read_unit}

-- the blocks of the smallest side in a unit: 64 at most
abbrev pub most_rows : Settings → ℕ
most_rows s = s.ctu / s.smallest * (s.ctu / s.smallest)

-- the nodes above these blocks, each split by its flag: 1 + 4 + 16 at most
abbrev pub most_flags : Settings → ℕ
most_flags s = (most_rows s - 1) / 3

-- a picture of one unit
abbrev pub one_unit : (ctu smallest : ℕ) → Settings
one_unit ctu smallest = record { ctu = ctu; smallest = smallest; width = ctu; height = ctu }

-- that many flags, each 1, give its unit that many rows
abbrev pub HasMost : Settings → Type 0
HasMost s = (read_unit s 0 (replicate (most_flags s) 1) (replicate (8 * most_rows s) 0)).answer ≡ Accepted (most_rows s)

pub record Bounds : Type 0 where
  -- no unit has more
  pub bounded : (s : Settings) (a : ℕ) → Bounded (most_rows s) (most_flags s) (units_of s) a
  -- for each CTU side and smallest side that are taken a unit has so many
  pub reached : (ctu smallest : ℕ) → settings_refusal (one_unit ctu smallest) ≡ 0 → HasMost (one_unit ctu smallest)
