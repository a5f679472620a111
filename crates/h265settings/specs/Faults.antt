-- What is wrong with the settings of an H.265 picture, in document 02's words: for each number the fault that it names. A fault counts only where none of those
-- before it is met, so settings have one at most.
use Rattle.std.specs.Prelude.{ℕ, ◌%◌, ◌≤◌, ◌<◌, ◌≡◌, List, [], ◌∷◌, ◌⊎◌}
use Rattle.settings.specs.Faults.{PowerFrom}
use Rattle.h265settings.specs.declared.Settings.{Settings}

abbrev pub CtuSide : ℕ → Type 0
CtuSide n = (n ≡ 16) ⊎ ((n ≡ 32) ⊎ (n ≡ 64))

-- "positive multiples of the smallest side and at most 16,384"
abbrev pub PictureSide : ℕ → ℕ → Type 0
PictureSide smallest n = (0 < n) × (n ≤ 16384) × (n % smallest ≡ 0)

pub data SettingsFault (s : Settings) : ℕ → Type 0 where
  -- "34 when the CTU side isn't 16, 32 or 64, checked first"
  bad_ctu_side : ¬ CtuSide s.ctu → SettingsFault s 34
  -- "35 when the smallest side isn't a power of two from 8 to the CTU side, checked next"
  bad_smallest_side : CtuSide s.ctu → ¬ PowerFrom 8 s.ctu s.smallest → SettingsFault s 35
  -- "Of 1 to 9 only 7 and 8 follow"
  bad_width : CtuSide s.ctu → PowerFrom 8 s.ctu s.smallest → ¬ PictureSide s.smallest s.width → SettingsFault s 7
  bad_height : CtuSide s.ctu → PowerFrom 8 s.ctu s.smallest → PictureSide s.smallest s.width → ¬ PictureSide s.smallest s.height
      → SettingsFault s 8

-- their numbers
abbrev pub settings_numbers : List ℕ
settings_numbers = 34 ∷ 35 ∷ 7 ∷ 8 ∷ []
