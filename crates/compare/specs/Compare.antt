-- R-9's call: the refusals of the settings and the address, then the way back's of the first table, 15, 27, 28 and 16, then those of the second; else the number
-- of the comparison.
use Rattle.std.specs.Prelude.{Ok, Err}
use Rattle.std.specs.Prelude.{ℕ, List}
use Rattle.settings.specs.declared.Settings.{Settings}
use Rattle.settings.specs.Units.{Located}
use Rattle.tree.specs.declared.Node.{Node}
use Rattle.tree.specs.Kind.{Kind}
use Rattle.tree.specs.Rows.{Row, rows_in}
use Rattle.tree.specs.Run.{End, goes, stops}
use Rattle.unit.specs.Answers.{Answer}
use Rattle.refusals.specs.Said.{Accepted, Refused}
use Rattle.unit.specs.Units.{located_in, root_of}
use Rattle.unit.specs.Luma.{units_of}
use Rattle.unit.specs.Writer.{test_rows}
use Rattle.compare.specs.Finer.{comparison, finer_number}

-- "The first table gets the way back's refusals before the second"
unfoldable pub after_both : End (List Row) → End (List Row) → Answer → Answer
after_both (stops number place) second answer = Refused number place
after_both (goes rest) (stops number place) answer = Refused number place
after_both (goes rest) (goes rest₁) answer = answer

-- two tables of a root
unfoldable pub compare_rows : Kind → Node → List ℕ → List ℕ → Answer
compare_rows k root first second =
    after_both (test_rows k root first).end (test_rows k root second).end (Accepted (finer_number (comparison (rows_in first) (rows_in second))))

-- two tables of a unit that was looked for
unfoldable pub compare_located : Kind → Located → List ℕ → List ℕ → Answer
compare_located k (Ok q) first second = compare_rows k (root_of q) first second
compare_located k (Err number) first second = Refused number 0

abbrev pub compare_unit : Settings → ℕ → List ℕ → List ℕ → Answer
compare_unit s address first second = compare_located (units_of s).kind (located_in (units_of s) address) first second
