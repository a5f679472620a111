-- The shares as the code holds them.
use Rattle.std.specs.Prelude.{ℕ, List, [], ◌∷◌, get_or}
use Rattle.tree.specs.declared.Share.{Share}
use Rattle.tree.specs.declared.Decision.{Decision}
use Rattle.tree.specs.Children.{share, shares}

-- the constant table: three entries each for QT (one way), BH, BV, TH and TV
unfoldable pub share_table : List ℕ
share_table = 2 ∷ 2 ∷ 0 ∷ 2 ∷ 2 ∷ 0 ∷ 2 ∷ 2 ∷ 0 ∷ 1 ∷ 2 ∷ 1 ∷ 1 ∷ 2 ∷ 1 ∷ []

-- the share of the part with a number; an empty one where the split has no such part
unfoldable pub share_at : Decision → ℕ → Share
share_at d i = get_or (shares d) i (share 0 0 0 0 0)
