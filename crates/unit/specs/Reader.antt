-- The reader of a single unit: the refusals of its settings, document 01's refusals 10 to 14, the number of rows, and the row buffer afterwards.
use Rattle.std.specs.Prelude.{Ok, Err}
use Rattle.std.specs.Prelude.{ℕ, cond, List, length, ltb}
use Rattle.settings.specs.declared.Settings.{Settings}
use Rattle.settings.specs.Units.{Located}
use Rattle.tree.specs.declared.Node.{Node}
use Rattle.tree.specs.Kind.{Kind}
use Rattle.tree.specs.Rows.{Row, table_bytes}
use Rattle.tree.specs.Run.{Run, End, goes, stops}
use Rattle.tree.specs.Reading.{read_node}
use Rattle.unit.specs.Answers.{Outcome, refused, finish}
use Rattle.unit.specs.Units.{Units, located_in, root_of}
use Rattle.unit.specs.Luma.{units_of}

-- 13: bytes, of any value, follow the last flag; the place is the first of them
unfoldable pub none_after : List ℕ → End ℕ → End ℕ
none_after flags (stops number place) = stops number place
none_after flags (goes at) = cond (ltb at (length flags)) (stops 13 at) (goes at)

-- the rows that all of the flags give, or refusal 11, 12 or 13
unfoldable pub rows_from : Kind → Node → List ℕ → Run Row ℕ
rows_from k root flags = record { given = (read_node k flags root 0).given; end = none_after flags (read_node k flags root 0).end }

-- the reading of a whole tree, refusals 11 to 14
unfoldable pub read_tree : Kind → Node → List ℕ → List ℕ → Outcome
read_tree k root flags buffer = finish table_bytes 14 (rows_from k root flags) buffer

-- the reading of a unit that was looked for: its refusal, then 11 to 14
unfoldable pub read_located : Kind → Located → List ℕ → List ℕ → Outcome
read_located k (Ok q) flags buffer = read_tree k (root_of q) flags buffer
read_located k (Err number) flags buffer = refused number 0 buffer

-- the reading of a unit
abbrev pub read_in : Units → ℕ → List ℕ → List ℕ → Outcome
read_in us address flags buffer = read_located us.kind (located_in us address) flags buffer

-- in an H.266 picture, refusals 1 to 14
abbrev pub read_unit : Settings → ℕ → List ℕ → List ℕ → Outcome
read_unit s address flags buffer = read_in (units_of s) address flags buffer
