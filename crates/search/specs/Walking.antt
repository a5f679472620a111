-- The search as a walk over nodes (crate walks). A call's contract needs none of this.
use Rattle.std.specs.Prelude.{ℕ, zero, suc, ◌+◌, ◌*◌, ◌/◌, ◌<◌, ◌≡◌, Bool, true, cond, List, [], ◌∷◌, length}
use Rattle.tree.specs.declared.Node.{Node}
use Rattle.tree.specs.declared.Decision.{Decision}
use Rattle.tree.specs.declared.Decision.TheVariants.{Leaf, Quad, Binary, Ternary}
use Rattle.tree.specs.Kind.{Kind}
use Rattle.tree.specs.Splits.{is_out, rights_of, rights_in, open_splits}
use Rattle.tree.specs.Children.{shares, corner_inside}
use Rattle.tree.specs.Rows.{Row, row_of}
use Rattle.tree.specs.Search.{fit_any, fit_node}
use Rattle.blocks.specs.RowNumbers.{row_word}
use Rattle.laws.specs.FitRun.{fit_run}
use Rattle.nodes.specs.RowNodes.{child_row, cuts_of, depth_above, depth_below, depth_beside}
use Rattle.walks.specs.Stands.{Word, word, area_in, keeps, Placed}
use Rattle.walks.specs.Walks.{Way, Ready, Done}
use Rattle.marks.specs.Table.{Left}

-- from the rows that are left to those that are left after them; a place stands for the rows before it, and nothing is given
abbrev pub search_way : List ℕ → Way ℕ (List Row)
search_way bytes = record {
  go = λ k n rows. fit_run (length bytes / 8) (fit_node k n rows);
  at = λ place rows. Left bytes place rows;
  stored = λ none. none;
  rows = λ place count. place / 8;
  flags = λ place count. count;
  most = 130816;
}

-- ---- a node, and its parts

-- A node that begins inside the picture, of which it is known whether it is out and which splits are open; its numbers as those of `Outer`, also of a root.
pub record Known (out : Bool) (splits : ℕ) (k : Kind) (n : Node) (w : Word) : Type 0 where
  pub placed : Placed k.limits n
  pub here : corner_inside k.limits n ≡ true
  pub row : w.row ≡ row_word (row_of n)
  pub depths : w.left ≡ n.offset * 64 + open_splits (keeps k.limits n)
  pub edge : is_out k.limits n ≡ out
  pub rights : rights_of k n ≡ rights_in out splits

-- what the depths leave to the part with a number: a binary cut of a node that is out divides what is out, and adds 1 to F
unfoldable pub left_to : List ℕ → ℕ → ℕ → Bool → Decision → ℕ → ℕ
left_to u row depths out Leaf i = 0
left_to u row depths out Quad i = depth_above u
left_to u row depths out (Binary v) i = cond out (depth_below u row depths) (depth_beside u row depths 30)
left_to u row depths out (Ternary v) i = depth_beside u row depths (cuts_of v i)

-- the numbers of so many parts, from the one with a number on
unfoldable pub words_from : List ℕ → ℕ → ℕ → Bool → Decision → ℕ → ℕ → List Word
words_from u row depths out d i zero = []
words_from u row depths out d i (suc many) = word (child_row row d i) (left_to u row depths out d i) ∷ words_from u row depths out d (i + 1) many

-- each part is smaller than the node
pub record Falls (row : ℕ) (d : Decision) : Type 0 where
  pub each : (i : ℕ) → i < length (shares d) → area_in (child_row row d i) < area_in row

-- ---- decisions that are tried at a node: a number answers for the best of them

pub record Tried (bytes : List ℕ) (out : Bool) (splits : ℕ) (u : List ℕ) (c : ℕ) (w : Word) (ds : List Decision) (answer : ℕ) : Type 0 where
  pub each : (k : Kind) (n : Node) (rows : List Row) → Ready (search_way bytes) (Known out splits) k (n ∷ []) rows u c (w ∷ [])
      → Done (search_way bytes) (fit_run (length bytes / 8) (fit_any k n (fit_node k) rows ds)) c [] answer []
