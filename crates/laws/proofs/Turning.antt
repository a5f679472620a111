-- The way back of a node is its coding tree, read from the rows: it accepts exactly the rows of its trees, with the flags of these trees; and rows
-- belong to one tree at most. What it does not accept: `SearchIsTree` (Searching.antt).
use Prim.Native.Nat.{◌+◌, ◌≤◌}
use mathlib.Core.Path.{◌≡◌, sym, ap, ◌∙◌}
use mathlib.Core.Bool.{true}
use mathlib.Core.List.{List, [], ◌∷◌, ◌++◌, append-nil}
use Rattle.tree.specs.declared.Node.{Node}
use Rattle.tree.specs.Kind.{Kind}
use Rattle.tree.specs.Children.{corner_inside}
use Rattle.tree.specs.Rows.{Row}
use Rattle.tree.specs.Run.{goes}
use Rattle.tree.specs.Reading.{levels_left}
use Rattle.tree.specs.Back.{back_node}
use Rattle.tree.specs.Tree.{Tree, flags_of, rows_of}
use Rattle.laws.specs.Proper.{Proper}
use Rattle.laws.specs.Good.{Good}
use Rattle.laws.proofs.Runs.{gives}
use Rattle.laws.proofs.Unique.{tree_unique}
use Rattle.laws.proofs.Levels.{levels_left_lem}
use Rattle.laws.proofs.Backs.{Found, back_complete, back_sound}

pub record TurningIsTree (k : Kind) (n : Node) : Type 0 where
  pub sound : (rows rest : List Row) → (back_node k n rows).end ≡ goes rest → Found k (n ∷ []) rows (back_node k n rows).given rest
  pub complete : (t : Tree k n) (rest : List Row) → back_node k n (rows_of t ++ rest) ≡ gives (flags_of t) rest
  pub rows_unique : (t u : Tree k n) → rows_of t ≡ rows_of u → t ≡ u

module _ {k : Kind} {n : Node} (v : Proper k) (g : Good k.limits n) (here : corner_inside k.limits n ≡ true) (fits : n.w + n.h + n.qt + n.mtt ≤ 256) where
  turned : (t : Tree k n) (rest : List Row) → back_node k n (rows_of t ++ rest) ≡ gives (flags_of t) rest
  turned t rest = back_complete v (levels_left n) n g.shape here t (levels_left_lem v n g.shape fits t) rest

  turned_all : (t : Tree k n) → back_node k n (rows_of t) ≡ gives (flags_of t) []
  turned_all t = rw (append-nil (rows_of t)) at (turned t [])

  -- trees of the same rows have the same flags
  unique : (t u : Tree k n) → rows_of t ≡ rows_of u → t ≡ u
  unique t u e = tree_unique t u (ap (λ r. r.given) (sym (turned_all t) ∙ ap (back_node k n) e ∙ turned_all u))

  pub turning_is_tree : TurningIsTree k n
  turning_is_tree = record {
    sound = back_sound k (levels_left n) n here;
    complete = turned;
    rows_unique = unique;
  }
