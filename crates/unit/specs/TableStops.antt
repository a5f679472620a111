-- R-5, "Where a table stops being a tree": of a unit that passes 1 to 10 and a table of whole rows, what the way back, and its test alone, answer. An answer is
-- one, so exactly one of these is the case: some coding tree of the unit has the rows, or they are refused with 27, with 28 or with 16, at one place.
use Rattle.std.specs.Prelude.{ℕ, ◌%◌, ◌≡◌, List, [], ◌∷◌, ◌++◌, ◌↔◌, length}
use Rattle.settings.specs.declared.Settings.{Settings}
use Rattle.settings.specs.Units.{unit_refusal}
use Rattle.tree.specs.declared.Node.{Node}
use Rattle.tree.specs.Kind.{Kind}
use Rattle.tree.specs.Rows.{Row, rows_in}
use Rattle.tree.specs.Tree.{rows_of}
use Rattle.laws.specs.Begins.{HasRows, GoesOn, GoesPast, LeavesAt}
use Rattle.unit.specs.Answers.{Answer}
use Rattle.refusals.specs.Said.{Refused}
use Rattle.unit.specs.Answers.{answer_of}
use Rattle.unit.specs.Units.{Units, root_in}
use Rattle.unit.specs.Luma.{units_of}
use Rattle.unit.specs.Writer.{test_in, write_in}
use Rattle.unit.specs.Exactly.{no_tree_numbers, AcceptedOr}

-- the answer for rows, by the coding trees of a root; what is delivered of a tree's rows is accepted, or refused with one of these numbers
pub record TableAnswer (k : Kind) (root : Node) (rows : List Row) (delivery : List ℕ) (answer : Answer) : Type 0 where
  -- rows of a tree, and no others, pass the test
  pub delivered : AcceptedOr delivery answer ↔ HasRows k root rows
  -- "27 when all rows are the beginning of some tree's longer table, its place the row count"
  pub early : (p : ℕ) → (answer ≡ Refused 27 p) ↔ (GoesOn k root rows × (p ≡ length rows))
  -- "28 when the rows begin with a whole table and go on, its place that table's row count"
  pub past : (p : ℕ) → (answer ≡ Refused 28 p) ↔ ((g : GoesPast k root rows) × (p ≡ length (rows_of g.0)))
  -- "The place of 16 becomes the longest number of leading rows with which some tree's table for this unit begins"
  pub leaves : (p : ℕ) → (answer ≡ Refused 16 p) ↔ LeavesAt k root rows p
  -- "16 remains for all other tables without a tree"
  pub others : ((p : ℕ) × (answer ≡ Refused 16 p)) ↔ ((¬ HasRows k root rows) × (¬ GoesOn k root rows) × (¬ GoesPast k root rows))
  -- there is no other answer
  pub numbers : AcceptedOr (no_tree_numbers ++ delivery) answer

-- of every table of whole rows of a unit
abbrev pub StopsByTrees : Units → ℕ → Type 0
StopsByTrees us a = (bytes : List ℕ) → length bytes % 8 ≡ 0
    → TableAnswer us.kind (root_in us a) (rows_in bytes) [] (answer_of (test_in us a bytes))
    × ((buffer : List ℕ) → TableAnswer us.kind (root_in us a) (rows_in bytes) (17 ∷ []) (write_in us a bytes buffer).answer)

abbrev pub TableStops : Type 0
TableStops = (s : Settings) (a : ℕ) → unit_refusal s a ≡ 0 → StopsByTrees (units_of s) a
