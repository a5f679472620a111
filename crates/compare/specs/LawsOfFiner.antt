-- R-11, one claim about what R-9's comparison answers: "finer or equal" is "reflexive and transitive over accepted tables of one unit", and "two tables that are each
-- finer or equal" are "the same set of rectangles". So a caller may skip comparisons. It is said of all settings and addresses: where 1 to 10 refuse, nothing is accepted.
use Rattle.std.specs.Prelude.{ℕ, ◌≡◌, List}
use Rattle.settings.specs.declared.Settings.{Settings}
use Rattle.tree.specs.Rows.{rows_in}
use Rattle.refusals.specs.Said.{Accepted}
use Rattle.compare.specs.declared.finer.Finer.{Finer}
use Rattle.compare.specs.declared.finer.Finer.TheVariants.{Equal, First, Second, Neither}
use Rattle.compare.specs.Finer.{finer_number}
use Rattle.compare.specs.Blocks.{EqualBlocks}
use Rattle.compare.specs.Compare.{compare_unit}

-- two tables of a unit are compared with this answer
abbrev pub Answers : Settings → ℕ → List ℕ → List ℕ → Finer → Type 0
Answers s a first second answer = compare_unit s a first second ≡ Accepted (finer_number answer)

-- one of the "accepted tables of one unit": the first or the second table of some accepted comparison
pub data AcceptedTable (s : Settings) (a : ℕ) (table : List ℕ) : Type 0 where
  as_first : (second : List ℕ) (m : ℕ) → compare_unit s a table second ≡ Accepted m → AcceptedTable s a table
  as_second : (first : List ℕ) (m : ℕ) → compare_unit s a first table ≡ Accepted m → AcceptedTable s a table

-- "finer or equal": the answer is equal blocks, or first finer
pub data FinerOrEqual (s : Settings) (a : ℕ) (first second : List ℕ) : Type 0 where
  equal : Answers s a first second Equal → FinerOrEqual s a first second
  finer : Answers s a first second First → FinerOrEqual s a first second

-- the answer for the same tables in the other order
abbrev pub mirrored : Finer → Finer
mirrored Equal = Equal
mirrored First = Second
mirrored Second = First
mirrored Neither = Neither

pub record LawsOfFiner : Type 0 where
  -- any two accepted tables are compared with each other
  pub compared : (s : Settings) (a : ℕ) (first second : List ℕ) → AcceptedTable s a first → AcceptedTable s a second
      → (answer : Finer) × Answers s a first second answer
  -- "reflexive": a table beside itself has equal blocks
  pub reflexive : (s : Settings) (a : ℕ) (table : List ℕ) → AcceptedTable s a table → Answers s a table table Equal
  -- "transitive"
  pub transitive : (s : Settings) (a : ℕ) (first second third : List ℕ) → FinerOrEqual s a first second → FinerOrEqual s a second third
      → FinerOrEqual s a first third
  -- "two tables that are each finer or equal being the same set of rectangles", and the answer is equal blocks
  pub antisymmetric : (s : Settings) (a : ℕ) (first second : List ℕ) → FinerOrEqual s a first second → FinerOrEqual s a second first
      → EqualBlocks (rows_in first) (rows_in second) × Answers s a first second Equal
  -- the tables exchanged: first finer becomes second finer and the other way round, the other two answers stay
  pub mirror : (s : Settings) (a : ℕ) (first second : List ℕ) (answer : Finer) → Answers s a first second answer → Answers s a second first (mirrored answer)
