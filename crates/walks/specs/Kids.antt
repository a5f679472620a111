-- The numbers of the children of a decision. Siblings of one size have the same splits left, so these are found once.
use Rattle.std.specs.Prelude.{ℕ, List, [], ◌∷◌}
use Rattle.tree.specs.declared.Direction.{Direction}
use Rattle.tree.specs.declared.Decision.{Decision}
use Rattle.tree.specs.declared.Decision.TheVariants.{Leaf, Quad, Binary, Ternary}
use Rattle.nodes.specs.RowNodes.{child_row, cuts_of, open_below, depth_above, depth_below}
use Rattle.walks.specs.Stands.{Word, word}

-- the four children of a quad split, the two parts of a binary one, and the three parts of a ternary one, of which the middle one is left less
abbrev pub four_words : ℕ → ℕ → List Word
four_words row m = word (child_row row Quad 0) m ∷ word (child_row row Quad 1) m ∷ word (child_row row Quad 2) m ∷ word (child_row row Quad 3) m ∷ []

abbrev pub two_words : ℕ → Direction → ℕ → List Word
two_words row v m = word (child_row row (Binary v) 0) m ∷ word (child_row row (Binary v) 1) m ∷ []

abbrev pub three_words : ℕ → Direction → ℕ → ℕ → List Word
three_words row v m middle = word (child_row row (Ternary v) 0) m ∷ word (child_row row (Ternary v) 1) middle ∷ word (child_row row (Ternary v) 2) m ∷ []

-- of a node inside the picture
unfoldable pub inner_kids : List ℕ → ℕ → ℕ → Decision → List Word
inner_kids u row bound Leaf = []
inner_kids u row bound Quad = four_words row (open_below u (child_row row Quad 0) bound 30 1)
inner_kids u row bound (Binary v) = two_words row v (open_below u (child_row row (Binary v) 0) bound 30 0)
inner_kids u row bound (Ternary v) =
    three_words row v (open_below u (child_row row (Ternary v) 0) bound 30 0) (open_below u (child_row row (Ternary v) 1) bound (cuts_of v 1) 0)

-- of a node that is out, at which no ternary split is open
unfoldable pub outer_kids : List ℕ → ℕ → ℕ → Decision → List Word
outer_kids u row depths Leaf = []
outer_kids u row depths Quad = four_words row (depth_above u)
outer_kids u row depths (Binary v) = two_words row v (depth_below u row depths)
outer_kids u row depths (Ternary v) = []
