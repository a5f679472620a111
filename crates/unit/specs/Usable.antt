-- Limits of luma trees, in units of a side, as the laws and the walks of coding trees need them. What passes H.266's checks, or H.265's, is usable. No theorem's statement and no entry's
-- contract names this.
use Rattle.std.specs.Prelude.{ℕ, ◌%◌, ◌≤◌, min, max, ◌≡◌}
use Rattle.sides.specs.Side.{Side}
use Rattle.settings.specs.Units.{Gridded}
use Rattle.tree.specs.declared.Limits.{Limits}

pub record Usable (side : ℕ) (l : Limits) : Type 0 where
  pub grid : Gridded side l.width l.height
  pub cb : Side 4 64 l.mincb
  pub qt : Side l.mincb (min 64 side) l.minqt
  pub bt : l.minqt ≤ l.maxbt
  pub width : l.width % max 8 l.mincb ≡ 0
  pub height : l.height % max 8 l.mincb ≡ 0
  pub edge : l.maxmtt ≡ 0 → (l.width % l.minqt ≡ 0) × (l.height % l.minqt ≡ 0)
