-- What is wrong with settings, in document 01's words: for each number the fault that it names. `settings_refusal` answers
-- the first of them (settings/proofs/Faults.antt).
use Rattle.std.specs.Prelude.{ℕ, ◌-◌, ◌*◌, ◌%◌, ◌^◌, ◌≤◌, ◌<◌, min, max, ◌≡◌, List, [], ◌∷◌, ◌⊎◌}
use Rattle.settings.specs.declared.Settings.{Settings}

-- a power of two from low to high
pub record PowerFrom (low high n : ℕ) : Type 0 where
  pub exponent : ℕ
  pub is : n ≡ 2 ^ exponent
  pub least : low ≤ n
  pub most : n ≤ high

-- "Width 0, above 16,384, or no multiple of the larger of 8 and MinCb"
abbrev pub BadLength : ℕ → ℕ → Type 0
BadLength mincb n = (n ≡ 0) ⊎ ((16384 < n) ⊎ ¬ (n % max 8 mincb ≡ 0))

pub data Breaks (s : Settings) : ℕ → Type 0 where
  -- "CTU side not 32, 64 or 128"
  bad_ctu_side : ¬ (s.ctu ≡ 32) → ¬ (s.ctu ≡ 64) → ¬ (s.ctu ≡ 128) → Breaks s 1
  -- "MinCb not a power of two from 4 to the smaller of 64 and the CTU side"
  bad_mincb : ¬ PowerFrom 4 (min 64 s.ctu) s.mincb → Breaks s 2
  -- "MinQt not a power of two from MinCb to the smaller of 64 and the CTU side"
  bad_minqt : ¬ PowerFrom s.mincb (min 64 s.ctu) s.minqt → Breaks s 3
  -- "M > 2 × (exponent of CTU side − exponent of MinCb)"
  bad_greatest_depth : (c b : ℕ) → s.ctu ≡ 2 ^ c → s.mincb ≡ 2 ^ b → 2 * (c - b) < s.maxmtt → Breaks s 4
  -- "MaxBt not a power of two from MinQt to the CTU side"
  bad_maxbt : ¬ PowerFrom s.minqt s.ctu s.maxbt → Breaks s 5
  -- "MaxTt not a power of two from MinQt to the smaller of 64 and the CTU side"
  bad_maxtt : ¬ PowerFrom s.minqt (min 64 s.ctu) s.maxtt → Breaks s 6
  bad_width : BadLength s.mincb s.width → Breaks s 7
  -- "Height likewise"
  bad_height : BadLength s.mincb s.height → Breaks s 8
  -- "M = 0, and width or height no multiple of MinQt"
  bad_edge_multiple : s.maxmtt ≡ 0 → ¬ ((s.width % s.minqt ≡ 0) × (s.height % s.minqt ≡ 0)) → Breaks s 9

-- the numbers of these rules
abbrev pub settings_numbers : List ℕ
settings_numbers = 1 ∷ 2 ∷ 3 ∷ 4 ∷ 5 ∷ 6 ∷ 7 ∷ 8 ∷ 9 ∷ []

-- "Checked in this order, first hit wins": this rule is broken, and none before it
pub record SettingsFault (s : Settings) (number : ℕ) : Type 0 where
  pub broken : Breaks s number
  pub first : (earlier : ℕ) → earlier < number → ¬ Breaks s earlier
