-- The units of an H.265 picture. H.265's tree is H.266's luma tree without cuts: M = 0, and MinQt = MinCb = the smallest side. That this is R-10's tree, node by
-- node, is `QuadNodes` (h265/specs/QuadNodes.antt).
use Rattle.settings.specs.Units.{Count}
use Rattle.settings.specs.declared.Settings as h266
use Rattle.settings.specs.Units.{counted_by}
use Rattle.unit.specs.Units.{Units}
use Rattle.unit.specs.Luma.{luma_units, limits_of}
use Rattle.h265settings.specs.declared.Settings.{Settings}
use Rattle.h265settings.specs.Checks.{settings_refusal}
use Rattle.h265settings.specs.Faults.{SettingsFault, settings_numbers}

abbrev pub as_luma : Settings → h266.Settings
as_luma s = record {
  ctu = s.ctu;
  mincb = s.smallest;
  minqt = s.smallest;
  maxmtt = 0;
  maxbt = s.smallest;
  maxtt = s.smallest;
  width = s.width;
  height = s.height;
}

abbrev pub units_of : Settings → Units
units_of s = luma_units (settings_refusal s) settings_numbers (SettingsFault s) s.ctu (limits_of (as_luma s))

-- what `unit::unit_count` answers for these settings
abbrev pub count_of : Settings → Count
count_of s = counted_by (units_of s).refusal (units_of s).count
