-- The reading as a walk over nodes (crate walks). A call's contract needs none of this.
use Rattle.std.specs.Prelude.{ℕ, ◌≡◌, Bool, not, ◌&&◌, ◌||◌, List, [], ◌∷◌, length, get_or, ltb, eqb}
use Rattle.tree.specs.Rows.{Row}
use Rattle.tree.specs.Reading.{read_node}
use Rattle.blocks.specs.RowNumbers.{row_word}
use Rattle.nodes.specs.State.{place_of}
use Rattle.walks.specs.Walks.{Way}

-- rows as they are stored, one number each
unfoldable pub row_words : List Row → List ℕ
row_words [] = []
row_words (r ∷ rows) = row_word r ∷ row_words rows

-- from a place of the flags to rows; a place is below 2 ^ 31
abbrev pub read_way : List ℕ → Way Row ℕ
read_way flags = record {
  go = λ k n at. read_node k flags n at;
  at = λ place s. place ≡ s;
  stored = row_words;
  rows = λ place count. count;
  flags = λ place count. place;
  most = 137438953472;
}

-- the next flag is 0
abbrev pub zero_next : List ℕ → ℕ → Bool
zero_next flags c = ltb (place_of c) (length flags) && eqb (get_or flags (place_of c) 0) 0

-- the next flag, or the lack of an open split, makes a node a leaf: it lies inside the picture, and its split flag is absent or 0
abbrev pub leaf_next : Bool → ℕ → List ℕ → ℕ → Bool
leaf_next out splits flags c = not out && (eqb splits 0 || zero_next flags c)
