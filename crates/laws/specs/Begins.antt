-- Rows beside the tables of a node's coding trees: R-5, "Where a table stops being a tree".
use Rattle.std.specs.Prelude.{ℕ, ◌+◌, ◌<◌, ◌≡◌, List, ◌∷◌, ◌++◌, length, take}
use Rattle.tree.specs.declared.Node.{Node}
use Rattle.tree.specs.Kind.{Kind}
use Rattle.tree.specs.Rows.{Row}
use Rattle.tree.specs.Tree.{Tree, rows_of}

-- some tree has these rows
abbrev pub HasRows : Kind → Node → List Row → Type 0
HasRows k n rows = (t : Tree k n) × (rows_of t ≡ rows)

-- some tree's table begins with them
abbrev pub Begins : Kind → Node → List Row → Type 0
Begins k n rows = (t : Tree k n) × (more : List Row) × (rows_of t ≡ rows ++ more)

-- and is longer
abbrev pub GoesOn : Kind → Node → List Row → Type 0
GoesOn k n rows = (t : Tree k n) × (r : Row) × (more : List Row) × (rows_of t ≡ rows ++ (r ∷ more))

-- they begin with the whole table of some tree, and go on
abbrev pub GoesPast : Kind → Node → List Row → Type 0
GoesPast k n rows = (t : Tree k n) × (r : Row) × (more : List Row) × (rows ≡ rows_of t ++ (r ∷ more))

-- The rows leave all trees at p: they begin with no whole table, some tree's table begins with their first p rows, and none with p + 1 of them.
pub record LeavesAt (k : Kind) (n : Node) (rows : List Row) (p : ℕ) : Type 0 where
  pub none_whole : (t : Tree k n) (rest : List Row) → ¬ (rows ≡ rows_of t ++ rest)
  pub begins : Begins k n (take p rows)
  pub within : p < length rows
  pub no_further : ¬ (Begins k n (take (p + 1) rows))
