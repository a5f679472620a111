-- The units with the most flags: the bounds of R-7 are reached, those by rows (`FlagBuffer`, unit/specs/FlagBuffer.antt) and
-- those by the CTU side (`Bounds`, unit/specs/Bounds.antt).
use Rattle.std.specs.Prelude.{ℕ, zero, suc, ◌+◌, ◌-◌, ◌*◌, ◌/◌, ◌%◌, ◌≤◌, ◌≡◌, cond, List, [], ◌∷◌, ◌++◌, length, replicate, leb}
use Rattle.settings.specs.declared.Settings.{Settings}
use Rattle.refusals.specs.Said.{Accepted}
use Rattle.unit.specs.Reader.{read_unit}
use Rattle.unit.specs.Bounds.{most_flags}
use Rattle.unit.specs.Cases.{settings}

-- flags of the unit 0 are accepted with the number of rows `rows`, and their own number is `number`
pub record Reads (s : Settings) (flags : List ℕ) (rows number : ℕ) : Type 0 where
  pub accepted : (read_unit s 0 flags (replicate (8 * rows) 0)).answer ≡ Accepted rows
  pub many : length flags ≡ number

-- The flags of a node below a cut that is halved, by binary cuts one below the other, at most `cuts` of them, until it has
-- `parts` parts: vertically and horizontally in turn, at last horizontally. Each cut is said by a split, a vertical and a
-- binary flag, a part after all `cuts` cuts by the flags `last`, and one before that by 0, as a leaf.
unfoldable pub halved : (last : List ℕ) (cuts parts : ℕ) → List ℕ
halved last zero parts = last
halved last (suc cuts) parts =
    cond (leb parts 1) (0 ∷ []) (1 ∷ cuts % 2 ∷ 1 ∷ (halved last cuts ((parts + 1) / 2) ++ halved last cuts (parts / 2)))

-- of a node above all cuts: a quad flag, 0, comes second
abbrev pub with_quad : List ℕ → List ℕ
with_quad [] = []
with_quad (split ∷ flags) = split ∷ 0 ∷ flags

-- of a unit in blocks of 8 by 4: the parts are 8 by 8, and are cut once more, said by a split and a vertical flag
abbrev pub flags32 : List ℕ
flags32 = with_quad (halved (1 ∷ 0 ∷ 0 ∷ 0 ∷ []) 4 16)

abbrev pub flags64 : List ℕ
flags64 = with_quad (halved (1 ∷ 0 ∷ 0 ∷ 0 ∷ []) 6 64)

-- of four such quarters
abbrev pub flags128 : List ℕ
flags128 = 1 ∷ 1 ∷ (flags64 ++ flags64 ++ flags64 ++ flags64)

pub record Largest : Type 0 where
  -- 4 × R − 2, and 6 × R − 4 too, for R = 1: a picture half as wide as its unit
  pub one_row : Reads (settings 64 4 8 3 64 32 32 64) (0 ∷ 0 ∷ []) 1 2
  -- 4 × R − 2 for R = 2 to 64: a unit of 64 by 64 in R blocks
  pub rows : (rows : ℕ) → 2 ≤ rows → rows ≤ 64
      → Reads (settings 64 4 8 8 64 64 64 64) (with_quad (halved (0 ∷ []) 6 rows)) rows (4 * rows - 2)
  -- the greatest number of each CTU side
  pub of_32 : Reads (settings 32 4 8 6 32 32 32 32) flags32 32 (most_flags 32)
  pub of_64 : Reads (settings 64 4 8 8 64 64 64 64) flags64 128 (most_flags 64)
  pub of_128 : Reads (settings 128 4 8 8 128 64 128 128) flags128 512 (most_flags 128)
