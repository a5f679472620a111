-- R-1, one claim: "a unit's rows on paper, one row a line". Lines and columns are those of Lines.antt.
use Rattle.std.specs.Prelude.{ℕ, ◌*◌, ◌≤◌, ◌≡◌, List, [], ◌∷◌, ◌++◌, ◌↔◌, length}
use Rattle.settings.specs.declared.Settings.{Settings}
use Rattle.settings.specs.Faults.{settings_numbers}
use Rattle.settings.specs.Units.{unit_refusal}
use Rattle.tree.specs.Rows.{table_bytes}
use Rattle.tree.specs.Tree.{rows_of}
use Rattle.laws.specs.Every.{Every}
use Rattle.refusals.specs.Said.{Accepted, Refused}
use Rattle.unit.specs.Answers.{deliver}
use Rattle.unit.specs.Cases.{row}
use Rattle.unit.specs.Luma.{units_of}
use Rattle.unit.specs.Writer.{write_flags}
use Rattle.unit.specs.Exactly.{UnitTree, OneOf, Bytes}
use Rattle.unit.specs.Faults.{TestedFault, rows_numbers, Decides}
use Rattle.page.specs.Lines.{line, lines, Fits}
use Rattle.page.specs.Page.{write_page}

-- the rows' faults; then "23 when the lent page is shorter than 33 × rows, .. its place the bytes needed"
abbrev pub PageFault : Settings → ℕ → List ℕ → ℕ → ℕ → ℕ → Type 0
PageFault s a bytes room = TestedFault (units_of s) a bytes 23 (λ t. lines a (rows_of t)) room

abbrev pub page_numbers : List ℕ
page_numbers = rows_numbers settings_numbers ++ (23 ∷ [])

-- the pages of a unit's coding trees
pub record Printed (s : Settings) (a : ℕ) : Type 0 where
  -- "Only rows that some tree gives are printed", and "an accepted page answers its bytes", 33 for each row
  pub only : (bytes : List ℕ) → Bytes bytes → (page : List ℕ) (m : ℕ) → (write_page s a bytes page).answer ≡ Accepted m
      → (t : UnitTree (units_of s) a) × (table_bytes (rows_of t) ≡ bytes) × (33 * length (rows_of t) ≡ m)
  -- all of these are, "one row a line"
  pub prints : (t : UnitTree (units_of s) a) (page : List ℕ)
      → write_page s a (table_bytes (rows_of t)) page ≡ deliver 23 (33 * length (rows_of t)) (lines a (rows_of t)) page
  -- a line has "33 bytes", so what 23 asks for is "33 × rows"
  pub wide : (t : UnitTree (units_of s) a) → Every (λ r. length (line a r) ≡ 33) (rows_of t)
  pub long : (t : UnitTree (units_of s) a) → length (lines a (rows_of t)) ≡ 33 * length (rows_of t)
  -- no page of a unit is longer than that of 1,024 rows
  pub most : (t : UnitTree (units_of s) a) → length (lines a (rows_of t)) ≤ 33792
  -- nothing is cut off, and columns never touch
  pub fits : (t : UnitTree (units_of s) a) → Every (Fits a) (rows_of t)

pub record PartitionPage : Type 0 where
  -- of every unit that passes 1 to 10
  pub printed : (s : Settings) (a : ℕ) → unit_refusal s a ≡ 0 → Printed s a
  -- what is refused, with its number and place, and nothing else; a refusal leaves the page as it was
  pub decided : (s : Settings) (a : ℕ) (bytes : List ℕ) → Bytes bytes → (page : List ℕ)
      → Decides (PageFault s a bytes (length page)) page_numbers (write_page s a bytes page).answer page (write_page s a bytes page).buffer
  -- "others get the way back's refusals"
  pub others : (s : Settings) (a : ℕ) (bytes page buffer : List ℕ) (number place : ℕ) → OneOf number (rows_numbers settings_numbers)
      → ((write_page s a bytes page).answer ≡ Refused number place) ↔ ((write_flags s a bytes buffer).answer ≡ Refused number place)
  -- "P2's second row reads `     0    32     0  32  32  1  0`"
  pub p2 : line 0 (row 32 0 5 5 1 0) ≡
      32 ∷ 32 ∷ 32 ∷ 32 ∷ 32 ∷ 48
      ∷ 32 ∷ 32 ∷ 32 ∷ 32 ∷ 51 ∷ 50
      ∷ 32 ∷ 32 ∷ 32 ∷ 32 ∷ 32 ∷ 48
      ∷ 32 ∷ 32 ∷ 51 ∷ 50
      ∷ 32 ∷ 32 ∷ 51 ∷ 50
      ∷ 32 ∷ 32 ∷ 49
      ∷ 32 ∷ 32 ∷ 48
      ∷ 10 ∷ []
