-- R-9, one claim: "Given settings, an address and two greyscale tables, the answer is: equal blocks, first finer, second finer, or neither." What finer means stands
-- in Finer.antt.
use Rattle.std.specs.Prelude.{ℕ, ◌≡◌, List, [], ◌∷◌, ◌↔◌}
use Rattle.settings.specs.declared.Settings.{Settings}
use Rattle.settings.specs.Faults.{settings_numbers}
use Rattle.settings.specs.Units.{unit_refusal}
use Rattle.tree.specs.Rows.{Row, table_bytes}
use Rattle.tree.specs.Tree.{rows_of}
use Rattle.refusals.specs.Said.{Accepted}
use Rattle.unit.specs.Cases.{row, p2_first, last_three}
use Rattle.unit.specs.Luma.{units_of}
use Rattle.unit.specs.Exactly.{UnitTree, Bytes}
use Rattle.unit.specs.Faults.{RowsFault, rows_numbers, Decides}
use Rattle.compare.specs.declared.finer.Finer.TheVariants.{Equal, First, Second, Neither}
use Rattle.compare.specs.Finer.{comparison, finer_number}
use Rattle.compare.specs.Blocks.{EqualBlocks}
use Rattle.compare.specs.Compare.{compare_unit}

-- "The first table gets the way back's refusals before the second": the faults of the first table, those of the settings and the address among them; then, where
-- some tree has that, the faults of the second
pub data CompareFault (s : Settings) (a : ℕ) (first second : List ℕ) : ℕ → ℕ → Type 0 where
  first_table : {number place : ℕ} → RowsFault (units_of s) a first number place → CompareFault s a first second number place
  second_table : {number place : ℕ} → unit_refusal s a ≡ 0 → (t : UnitTree (units_of s) a) → table_bytes (rows_of t) ≡ first
      → RowsFault (units_of s) a second number place → CompareFault s a first second number place

-- the tables of a unit's coding trees
pub record TreesCompared (s : Settings) (a : ℕ) : Type 0 where
  -- any two are compared
  pub compares : (t u : UnitTree (units_of s) a)
      → compare_unit s a (table_bytes (rows_of t)) (table_bytes (rows_of u)) ≡ Accepted (finer_number (comparison (rows_of t) (rows_of u)))
  -- and no others are
  pub only : (first second : List ℕ) → Bytes first → Bytes second → (m : ℕ) → compare_unit s a first second ≡ Accepted m
      → (t u : UnitTree (units_of s) a) × (table_bytes (rows_of t) ≡ first) × (table_bytes (rows_of u) ≡ second)
      × (finer_number (comparison (rows_of t) (rows_of u)) ≡ m)
  -- "equal blocks": they have the same rectangles exactly where each is finer than the other or equal
  pub equal : (t u : UnitTree (units_of s) a) → (comparison (rows_of t) (rows_of u) ≡ Equal) ↔ EqualBlocks (rows_of t) (rows_of u)

-- the rows of a quad split of 32 by 32, of BH with two BV, which are the same blocks deeper, of BH, and of BV
abbrev pub quad : List Row
quad = row 0 0 4 4 1 0 ∷ row 16 0 4 4 1 0 ∷ row 0 16 4 4 1 0 ∷ row 16 16 4 4 1 0 ∷ []

abbrev pub cut_twice : List Row
cut_twice = row 0 0 4 4 0 2 ∷ row 16 0 4 4 0 2 ∷ row 0 16 4 4 0 2 ∷ row 16 16 4 4 0 2 ∷ []

abbrev pub flat : List Row
flat = row 0 0 5 4 0 1 ∷ row 0 16 5 4 0 1 ∷ []

abbrev pub upright : List Row
upright = row 0 0 4 5 0 1 ∷ row 16 0 4 5 0 1 ∷ []

pub record PartitionsCompared : Type 0 where
  -- of every unit that passes 1 to 10
  pub trees : (s : Settings) (a : ℕ) → unit_refusal s a ≡ 0 → TreesCompared s a
  -- what is refused, with its number and place, and nothing else; nothing is lent but the tables
  pub decided : (s : Settings) (a : ℕ) (first second : List ℕ) → Bytes first
      → Decides {Lent = Unit {0}} (CompareFault s a first second) (rows_numbers settings_numbers) (compare_unit s a first second) tt tt
  -- "Depths and row order play no part": tables with equal blocks are compared alike, whatever lists of rows they are
  pub blocks : (first first' second second' : List Row) → EqualBlocks first first' → EqualBlocks second second'
      → comparison first second ≡ comparison first' second'
  -- a quad, and BH with two BV; either beside one cut; two cuts; P1 beside P2
  pub same : comparison quad cut_twice ≡ Equal
  pub finer : comparison quad flat ≡ First
  pub coarser : comparison upright cut_twice ≡ Second
  pub crossed : comparison flat upright ≡ Neither
  pub p1_p2 : comparison (row 0 0 6 6 0 0 ∷ []) (p2_first ∷ last_three) ≡ Second
