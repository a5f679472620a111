-- What is wrong with a call on a single unit: document 01's numbers and places, each beside the fault that it names. A
-- fault counts only where none of those before it, in document 01's order, is met; so a call has one at most.
use Rattle.std.specs.Prelude.{ℕ, ◌*◌, ◌/◌, ◌%◌, ◌≤◌, ◌<◌, ◌≡◌, List, [], ◌∷◌, ◌++◌, ◌↔◌, length}
use Rattle.tree.specs.declared.Node.{Node}
use Rattle.tree.specs.Kind.{Kind}
use Rattle.tree.specs.Rows.{Row, table_bytes, rows_in}
use Rattle.tree.specs.Tree.{Tree, flags_of, rows_of}
use Rattle.laws.specs.Begins.{GoesOn, GoesPast, LeavesAt}
use Rattle.unit.specs.Answers.{Answer}
use Rattle.refusals.specs.Said.{Accepted, Refused}
use Rattle.unit.specs.Units.{Units, refusal_in, root_in}
use Rattle.unit.specs.Exactly.{UnitTree, AcceptedOr}

-- ---- the settings and the unit

-- the first rule that the settings break (of H.266's: settings/specs/Faults.antt), then 10
pub data UnitFault (us : Units) (a : ℕ) : ℕ → Type 0 where
  bad_settings : {number : ℕ} → us.Fault number → UnitFault us a number
  -- "No such unit"
  no_unit : us.refusal ≡ 0 → us.count ≤ a → UnitFault us a 10

-- ---- flags, by the coding trees of a root

pub data FlagFault (k : Kind) (root : Node) (flags : List ℕ) : ℕ → ℕ → Type 0 where
  -- "A present flag lies past the end; place: the number of bytes": the flags are the beginning of some tree's flags, and
  -- that tree has more
  end_early : (t : Tree k root) (flag : ℕ) (more : List ℕ) → flags_of t ≡ flags ++ (flag ∷ more)
      → FlagFault k root flags 11 (length flags)
  -- "A byte above 1 where a present flag is read; place: its index": what stands before it is the beginning of some
  -- tree's flags, and that tree has a flag there
  no_flag : (t : Tree k root) (front : List ℕ) (byte : ℕ) (after : List ℕ) (flag : ℕ) (more : List ℕ)
      → flags ≡ front ++ (byte ∷ after) → 1 < byte → flags_of t ≡ front ++ (flag ∷ more)
      → FlagFault k root flags 12 (length front)
  -- "Bytes, of any value, follow the last flag; place: the first one": the flags begin with all flags of some tree
  run_over : (t : Tree k root) (byte : ℕ) (after : List ℕ) → flags ≡ flags_of t ++ (byte ∷ after)
      → FlagFault k root flags 13 (length (flags_of t))

-- ---- the calls on a unit, by the length of the buffer that they are lent

pub data ReadFault (us : Units) (a : ℕ) (flags : List ℕ) (room : ℕ) : ℕ → ℕ → Type 0 where
  read_unit_fault : {number : ℕ} → UnitFault us a number → ReadFault us a flags room number 0
  read_flags : {number place : ℕ} → refusal_in us a ≡ 0 → FlagFault us.kind (root_in us a) flags number place
      → ReadFault us a flags room number place
  -- "Row buffer shorter than 8 × rows; place: rows needed"
  read_room : refusal_in us a ≡ 0 → (t : UnitTree us a) → flags_of t ≡ flags → room < 8 * length (rows_of t)
      → ReadFault us a flags room 14 (length (rows_of t))

-- ---- rows, by the coding trees of a root

pub data TableFault (k : Kind) (root : Node) (rows : List Row) : ℕ → ℕ → Type 0 where
  -- "All rows are the beginning of some tree's longer table; its place the row count"
  ends_early : GoesOn k root rows → TableFault k root rows 27 (length rows)
  -- "The rows begin with a whole table and go on; its place that table's row count"
  goes_past : (g : GoesPast k root rows) → TableFault k root rows 28 (length (rows_of g.0))
  -- "16 remains for all other tables without a tree"; its place "the longest number of leading rows with which some
  -- tree's table for this unit begins"
  leaves_trees : {p : ℕ} → LeavesAt k root rows p → TableFault k root rows 16 p

-- rows that are tested for the way back: the unit's, 15, then 27, 28 and 16
pub data RowsFault (us : Units) (a : ℕ) (bytes : List ℕ) : ℕ → ℕ → Type 0 where
  rows_unit : {number : ℕ} → UnitFault us a number → RowsFault us a bytes number 0
  -- "Row bytes no multiple of 8; place: whole rows"
  rows_cut : refusal_in us a ≡ 0 → ¬ (length bytes % 8 ≡ 0) → RowsFault us a bytes 15 (length bytes / 8)
  rows_none : {number place : ℕ} → refusal_in us a ≡ 0 → length bytes % 8 ≡ 0
      → TableFault us.kind (root_in us a) (rows_in bytes) number place → RowsFault us a bytes number place

-- a call that tests rows and then delivers what it makes of their tree: refused with a number of its own where the lent
-- buffer is shorter than that, the place the bytes needed
pub data TestedFault (us : Units) (a : ℕ) (bytes : List ℕ) (short : ℕ) (made : UnitTree us a → List ℕ) (room : ℕ)
    : ℕ → ℕ → Type 0 where
  tested_rows : {number place : ℕ} → RowsFault us a bytes number place → TestedFault us a bytes short made room number place
  tested_room : refusal_in us a ≡ 0 → (t : UnitTree us a) → table_bytes (rows_of t) ≡ bytes → room < length (made t)
      → TestedFault us a bytes short made room short (length (made t))

-- the way back: the rows' faults; then "Flag buffer shorter than the flags; place: flags needed"
abbrev pub TurnFault : Units → ℕ → List ℕ → ℕ → ℕ → ℕ → Type 0
TurnFault us a bytes room = TestedFault us a bytes 17 flags_of room

-- ---- a call that its faults decide

-- after the numbers of the settings' refusals, for H.266 1 to 9. Document 01: "A single unit's reader uses 1 to 14, the way back 1 to 10 and 15 to 17",
-- and document 02's 27 and 28
abbrev pub read_numbers : List ℕ → List ℕ
read_numbers settings = settings ++ (10 ∷ 11 ∷ 12 ∷ 13 ∷ 14 ∷ [])

-- the test of rows uses those of the way back but 17
abbrev pub rows_numbers : List ℕ → List ℕ
rows_numbers settings = settings ++ (10 ∷ 15 ∷ 27 ∷ 28 ∷ 16 ∷ [])

abbrev pub turn_numbers : List ℕ → List ℕ
turn_numbers settings = rows_numbers settings ++ (17 ∷ [])

-- What a call's answer says, given its possible faults, the numbers that it uses, and what it was lent before and after.
pub record Decides {Lent : Type 0} (Fault : ℕ → ℕ → Type 0) (numbers : List ℕ) (answer : Answer) (lent left : Lent) : Type 0 where
  -- its answer accepts, or refuses with one of the numbers
  pub uses : AcceptedOr numbers answer
  -- it refuses with a number and a place exactly where these are its fault's
  pub refuses : (number place : ℕ) → (answer ≡ Refused number place) ↔ Fault number place
  -- it accepts exactly where it has no fault: "Everything else is accepted"
  pub accepts : ((count : ℕ) × (answer ≡ Accepted count)) ↔ ((number place : ℕ) → ¬ Fault number place)
  -- "Buffers and session stay untouched": a refusal leaves what was lent as it was
  pub leaves : (number place : ℕ) → answer ≡ Refused number place → left ≡ lent
