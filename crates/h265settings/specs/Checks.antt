-- The settings of an H.265 picture that the engine takes: document 02's R-10, its refusals 34 and 35 and, of document 01's 1 to 9, 7 and 8, in this order.
use Rattle.std.specs.Prelude.{ℕ, ◌%◌, Bool, cond, not, ◌||◌, ltb, eqb}
use Rattle.sides.specs.Side.{side_from}
use Rattle.h265settings.specs.declared.Settings.{Settings}

-- 34: "the CTU side isn't 16, 32 or 64"
abbrev pub bad_ctu : Settings → Bool
bad_ctu s = not (eqb s.ctu 16 || eqb s.ctu 32 || eqb s.ctu 64)

-- 35: "the smallest side isn't a power of two from 8 to the CTU side"
abbrev pub bad_smallest : Settings → Bool
bad_smallest s = not (side_from 8 s.ctu s.smallest)

-- 7 and 8: "Widths and heights are positive multiples of the smallest side and at most 16,384"
abbrev pub bad_length : ℕ → ℕ → Bool
bad_length smallest n = eqb n 0 || ltb 16384 n || not (eqb (n % smallest) 0)

-- the settings' refusal, or 0
unfoldable pub settings_refusal : Settings → ℕ
settings_refusal s =
    cond (bad_ctu s) 34 (cond (bad_smallest s) 35 (cond (bad_length s.smallest s.width) 7 (cond (bad_length s.smallest s.height) 8 0)))
