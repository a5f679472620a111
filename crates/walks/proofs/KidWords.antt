-- The numbers that the code finds for the children of a node that is out.
use Prim.Native.Nat.{ℕ}
use mathlib.Core.Path.{◌≡◌, refl}
use mathlib.Core.List.{List, [], ◌∷◌}
use Rattle.tree.specs.declared.Direction.{Direction}
use Rattle.tree.specs.declared.Decision.{Decision}
use Rattle.tree.specs.declared.Decision.TheVariants.{Leaf, Quad, Binary, Ternary}
use Rattle.nodes.specs.RowNodes.{child_row, depth_above, depth_below}
use Rattle.walks.specs.Stands.{word}
use Rattle.walks.specs.Kids.{four_words, outer_kids}

module _ (u : List ℕ) (row depths : ℕ) {d : Decision} where
  pub out_none : d ≡ Leaf → [] ≡ outer_kids u row depths d
  unfolding outer_kids
  out_none e = rw e refl

  pub out_four : d ≡ Quad → {k : ℕ} → k ≡ depth_above u → four_words row k ≡ outer_kids u row depths d
  unfolding outer_kids
  out_four e f = rw (e, f) refl

  module _ {v : Direction} where
    pub out_two : d ≡ Binary v → {k row0 row1 : ℕ} → k ≡ depth_below u row depths → row0 ≡ child_row row (Binary v) 0 → row1 ≡ child_row row (Binary v) 1 → word row0 k ∷ word row1 k ∷ [] ≡ outer_kids u row depths d
    unfolding outer_kids
    out_two e f g h = rw (e, f, g, h) refl

    pub out_three : d ≡ Ternary v → [] ≡ outer_kids u row depths d
    unfolding outer_kids
    out_three e = rw e refl
