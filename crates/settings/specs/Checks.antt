-- The settings that the engine takes: document 01's refusals 1 to 9, in their order. 1 to 6 are the ranges of H.266's sequence parameter set.
use Rattle.std.specs.Prelude.{ℕ, ◌+◌, ◌-◌, ◌*◌, ◌%◌, min, max, Bool, true, false, not, ◌&&◌, ◌||◌, List, [], ◌∷◌, ◌++◌, ltb, eqb}
use Rattle.sides.specs.Side.{exponent, side_from}
use Rattle.settings.specs.declared.Settings.{Settings}

-- 1: the CTU side is not 32, 64 or 128
abbrev pub bad_ctu : Settings → Bool
bad_ctu s = not (eqb s.ctu 32 || eqb s.ctu 64 || eqb s.ctu 128)

-- 2: MinCb is not a power of two from 4 to the smaller of 64 and the CTU side
abbrev pub bad_cb : Settings → Bool
bad_cb s = not (side_from 4 (min 64 s.ctu) s.mincb)

-- 3: MinQt is not a power of two from MinCb to the smaller of 64 and the CTU side
abbrev pub bad_qt : Settings → Bool
bad_qt s = not (side_from s.mincb (min 64 s.ctu) s.minqt)

-- 4: M is above 2 × (exponent of the CTU side − exponent of MinCb)
abbrev pub bad_depth : Settings → Bool
bad_depth s = ltb (2 * (exponent s.ctu - exponent s.mincb)) s.maxmtt

-- 5: MaxBt is not a power of two from MinQt to the CTU side
abbrev pub bad_bt : Settings → Bool
bad_bt s = not (side_from s.minqt s.ctu s.maxbt)

-- 6: MaxTt is not a power of two from MinQt to the smaller of 64 and the CTU side
abbrev pub bad_tt : Settings → Bool
bad_tt s = not (side_from s.minqt (min 64 s.ctu) s.maxtt)

-- 7 and 8: a width or height of the picture is 0, above 16,384, or no multiple of the larger of 8 and MinCb
abbrev pub bad_length : ℕ → ℕ → Bool
bad_length mincb n = eqb n 0 || ltb 16384 n || not (eqb (n % max 8 mincb) 0)

-- 9: M is 0, and the width or the height is no multiple of MinQt (this house's rule: an edge node would have no open split)
abbrev pub bad_edge : Settings → Bool
bad_edge s = eqb s.maxmtt 0 && not (eqb (s.width % s.minqt) 0 && eqb (s.height % s.minqt) 0)

-- the rules in their order, true where a rule is broken: 1 to 3 on the smallest sides, 4 to 6 on the cuts, 7 to 9 on the picture
abbrev pub side_rules : Settings → List Bool
side_rules s = bad_ctu s ∷ bad_cb s ∷ bad_qt s ∷ []

abbrev pub limit_rules : Settings → List Bool
limit_rules s = bad_depth s ∷ bad_bt s ∷ bad_tt s ∷ []

abbrev pub picture_rules : Settings → List Bool
picture_rules s = bad_length s.mincb s.width ∷ bad_length s.mincb s.height ∷ bad_edge s ∷ []

-- "Checked in this order, first hit wins": the number of the first broken rule, counted from k; 0 where none is broken
abbrev pub first_hit : ℕ → List Bool → ℕ
first_hit k [] = 0
first_hit k (true ∷ rules) = k
first_hit k (false ∷ rules) = first_hit (k + 1) rules

-- the settings' refusal, 1 to 9, or 0
unfoldable pub settings_refusal : Settings → ℕ
settings_refusal s = first_hit 1 (side_rules s ++ (limit_rules s ++ picture_rules s))
