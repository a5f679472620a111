-- Settings as words.
use Rattle.std.specs.Prelude.{ℕ, List, get_or}
use Rattle.h265settings.specs.declared.Settings.{Settings}

-- the four settings: CTU side, smallest block side, width, height
abbrev pub settings_in : List ℕ → Settings
settings_in words = record { ctu = get_or words 0 0; smallest = get_or words 1 0; width = get_or words 2 0; height = get_or words 3 0 }
