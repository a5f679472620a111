-- Units with one coding tree and one table, and a session over them, as what demand 3 speaks of.
use Rattle.std.specs.Prelude.{ℕ, ◌≤◌, ◌≡◌, List, length}
use Rattle.settings.specs.declared.Settings.{Settings}
use Rattle.settings.specs.declared.Square.{Square}
use Rattle.tree.specs.Kind.{Kind}
use Rattle.laws.specs.Geometry.{pipeline_side}
use Rattle.unit.specs.Answers.{Answer}
use Rattle.unit.specs.Answers.{Outcome, accepted}
use Rattle.unit.specs.Units.{Units}
use Rattle.unit.specs.Luma.{units_of}
use Rattle.unit.specs.Reader.{read_in}
use Rattle.unit.specs.Writer.{write_in}
use Rattle.sessions.specs.Coding.{Coding}
use Rattle.picture.specs.State.{Call}
use Rattle.picture.specs.Lists.{Taken, rows_of_unit, bytes_of_unit, taken}

-- the units of a picture: the kind of their trees, how many there are, the square of each, and a single unit's calls
pub record OneTree : Type 0 where
  pub kind : Kind
  pub count : ℕ
  pub square : ℕ → Square
  -- the side of the pipeline units
  pub cell : ℕ
  -- the reading, of an address, flags and a row buffer; the way back, of an address, row bytes and a flag buffer
  pub read : ℕ → List ℕ → List ℕ → Outcome
  pub turn : ℕ → List ℕ → List ℕ → Outcome

-- the units of a picture, by their side
abbrev pub tree_units : Units → (side : ℕ) → OneTree
tree_units us side = record {
  kind = us.kind;
  count = us.count;
  square = us.square;
  cell = pipeline_side side;
  read = λ a flags buffer. read_in us a flags buffer;
  turn = λ a bytes buffer. write_in us a bytes buffer;
}

-- of a greyscale H.266 picture
abbrev pub greyscale : Settings → OneTree
greyscale s = tree_units (units_of s) s.ctu

-- The coding of a session over such units, by what a unit call on it answers and leaves, and the session that follows
-- an answer. A unit has one table. Its rows are turned back into any buffer that is long enough.
abbrev pub one_tree : OneTree → (Session : Type 0) → (Session → Call → Outcome) → (Session → Answer → Session) → Coding
one_tree o Session call follow = record {
  Session = Session;
  Call = Call;
  Taken = Taken;
  takes = λ t c. taken c (call t c).answer (call t c).buffer;
  yields = λ t c. follow t (call t c).answer;
  Table = Unit {0};
  address = λ u. u.address;
  flags = λ u. u.flags;
  rows = λ i u. rows_of_unit u;
  TurnsBack = λ u. (buffer : List ℕ) → length u.flags ≤ length buffer
      → o.turn u.address (bytes_of_unit u) buffer ≡ accepted (length u.flags) u.flags buffer;
  width = o.kind.limits.width;
  height = o.kind.limits.height;
  count = o.count;
  square = o.square;
  cell = o.cell;
}
