-- Settings as words.
use Rattle.std.specs.Prelude.{ℕ, List, get_or}
use Rattle.settings.specs.declared.Settings.{Settings}

-- the eight settings in document 01's order
abbrev pub settings_in : List ℕ → Settings
settings_in words = record {
  ctu = get_or words 0 0;
  mincb = get_or words 1 0;
  minqt = get_or words 2 0;
  maxmtt = get_or words 3 0;
  maxbt = get_or words 4 0;
  maxtt = get_or words 5 0;
  width = get_or words 6 0;
  height = get_or words 7 0;
}
