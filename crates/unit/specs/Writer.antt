-- The way back of a single unit: its test, the refusals of its settings, document 01's 10 and 15, and 27, 28 and 16 of document 02's R-5; then refusal 17, the
-- number of flags, and the flag buffer afterwards.
use Rattle.std.specs.Prelude.{Ok, Err}
use Rattle.std.specs.Prelude.{ℕ, zero, suc, ◌-◌, ◌/◌, ◌%◌, cond, List, [], ◌∷◌, length, eqb}
use Rattle.settings.specs.declared.Settings.{Settings}
use Rattle.settings.specs.Units.{Located}
use Rattle.tree.specs.declared.Node.{Node}
use Rattle.tree.specs.Kind.{Kind}
use Rattle.tree.specs.Rows.{Row, rows_in}
use Rattle.tree.specs.Run.{Run, End, goes, stops, refuse}
use Rattle.tree.specs.Back.{back_node}
use Rattle.tree.specs.Search.{Fit, whole, stuck, fit_node}
use Rattle.unit.specs.Answers.{Outcome, finish}
use Rattle.unit.specs.Units.{Units, located_in, root_of}
use Rattle.unit.specs.Luma.{units_of}

-- So many rows, by how far they go along the trees of a root: those of a tree; 28, the rows of a tree and more; 27, the beginning of a tree's longer table;
-- else 16. The place is the number of leading rows that a tree's table begins with, for 28 those of the whole table.
unfoldable pub fit_end : ℕ → Fit → End (List Row)
fit_end count (whole []) = goes []
fit_end count (whole (r ∷ rest)) = stops 28 (count - suc (length rest))
fit_end count (stuck zero) = stops 27 count
fit_end count (stuck (suc left)) = stops 16 (count - suc left)

-- the flags that give exactly these rows, or refusal 27, 28 or 16
unfoldable pub flags_from : Kind → Node → List Row → Run ℕ (List Row)
flags_from k root rows = record { given = (back_node k root rows).given; end = fit_end (length rows) (fit_node k root rows) }

-- the test of a table: 15 where its bytes are no multiple of 8, the place its whole rows; then 27, 28 or 16, or the flags of its rows
unfoldable pub test_rows : Kind → Node → List ℕ → Run ℕ (List Row)
test_rows k root bytes =
    cond (eqb (length bytes % 8) 0) (flags_from k root (rows_in bytes)) (refuse 15 (length bytes / 8))

-- the test of the table of a unit that was looked for: the unit's refusal, then 15, 27, 28 and 16, or the flags that give exactly its rows
unfoldable pub test_located : Kind → Located → List ℕ → Run ℕ (List Row)
test_located k (Ok q) bytes = test_rows k (root_of q) bytes
test_located k (Err number) bytes = refuse number 0

abbrev pub test_in : Units → ℕ → List ℕ → Run ℕ (List Row)
test_in us address bytes = test_located us.kind (located_in us address) bytes

-- the delivery of a test's flags, refusal 17
abbrev pub flags_into : List ℕ → Run ℕ (List Row) → Outcome
flags_into buffer test = finish (λ flags. flags) 17 test buffer

-- the way back of a table, refusals 15, 27, 28, 16 and 17
unfoldable pub write_rows : Kind → Node → List ℕ → List ℕ → Outcome
write_rows k root bytes buffer = flags_into buffer (test_rows k root bytes)

-- the way back of a unit: its test, then 17
unfoldable pub write_located : Kind → Located → List ℕ → List ℕ → Outcome
write_located k at bytes buffer = flags_into buffer (test_located k at bytes)

abbrev pub write_in : Units → ℕ → List ℕ → List ℕ → Outcome
write_in us address bytes buffer = write_located us.kind (located_in us address) bytes buffer

-- in an H.266 picture, refusals 1 to 10, 15, 27, 28 and 16, and then 17
abbrev pub test_unit : Settings → ℕ → List ℕ → Run ℕ (List Row)
test_unit s address bytes = test_in (units_of s) address bytes

abbrev pub write_flags : Settings → ℕ → List ℕ → List ℕ → Outcome
write_flags s address bytes buffer = write_in (units_of s) address bytes buffer
