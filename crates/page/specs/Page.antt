-- R-1: the partition page of a unit: the way back's refusals 1 to 10, 15, 27, 28 and 16, then 23; the number of bytes, and the lent
-- page afterwards.
use Rattle.std.specs.Prelude.{ℕ, List, length}
use Rattle.settings.specs.declared.Settings.{Settings}
use Rattle.tree.specs.Rows.{rows_in}
use Rattle.unit.specs.Answers.{Outcome, finish_end}
use Rattle.unit.specs.Writer.{test_unit}
use Rattle.page.specs.Lines.{lines}

-- the lines of a table's rows
abbrev pub page_text : ℕ → List ℕ → List ℕ
page_text address bytes = lines address (rows_in bytes)

-- the way back's test, and the delivery of the lines
unfoldable pub write_page : Settings → ℕ → List ℕ → List ℕ → Outcome
write_page s address bytes page =
    finish_end 23 (length (page_text address bytes)) (page_text address bytes) (test_unit s address bytes).end page
