-- What reading a unit and turning its rows back mean, by its coding trees.
use Rattle.std.specs.Prelude.{ℕ, ◌%◌, ◌<◌, ◌≡◌, List, [], ◌∷◌, ◌⊎◌, ◌↔◌, length}
use Rattle.tree.specs.Rows.{table_bytes}
use Rattle.tree.specs.Tree.{Tree, flags_of, rows_of}
use Rattle.unit.specs.Answers.{Answer}
use Rattle.refusals.specs.Said.{Accepted, Refused}
use Rattle.unit.specs.Answers.{number_of, deliver}
use Rattle.unit.specs.Units.{Units, root_in}
use Rattle.unit.specs.Reader.{read_in}
use Rattle.unit.specs.Writer.{write_in}

-- the coding trees of a unit
abbrev pub UnitTree : Units → ℕ → Type 0
UnitTree us a = Tree us.kind (root_in us a)

-- a number is one of a list
abbrev pub OneOf : ℕ → List ℕ → Type 0
OneOf n [] = ⊥
OneOf n (m ∷ ms) = (n ≡ m) ⊎ OneOf n ms

-- the numbers of a table of whole rows that no tree has
abbrev pub no_tree_numbers : List ℕ
no_tree_numbers = 27 ∷ 28 ∷ 16 ∷ []

-- an answer that accepts, or refuses with one of these numbers; 0 is in none of the lists used, so no refusal has the
-- number of an accepted call
abbrev pub AcceptedOr : List ℕ → Answer → Type 0
AcceptedOr numbers (Accepted count) = Unit {0}
AcceptedOr numbers (Refused number place) = OneOf number numbers

-- every number of a list is a byte: so are the contents of a lent `&[u8]`, by its type
abbrev pub Bytes : List ℕ → Type 0
Bytes [] = Unit {0}
Bytes (b ∷ bs) = (b < 256) × Bytes bs

-- A unit that is there is read as follows: the flags of a coding tree give the rows of this tree, no other
-- flags are accepted, flags say one tree at most, and what is not accepted is refused with 11 to 14.
pub record ReadsExactly (us : Units) (a : ℕ) : Type 0 where
  pub reads : (t : UnitTree us a) (buffer : List ℕ)
      → read_in us a (flags_of t) buffer ≡ deliver 14 (length (rows_of t)) (table_bytes (rows_of t)) buffer
  pub only : (flags buffer : List ℕ) (m : ℕ) → (read_in us a flags buffer).answer ≡ Accepted m
      → (t : UnitTree us a) × (flags_of t ≡ flags)
  pub unique : (t u : UnitTree us a) → flags_of t ≡ flags_of u → t ≡ u
  pub numbers : (flags buffer : List ℕ) → AcceptedOr (11 ∷ 12 ∷ 13 ∷ 14 ∷ []) (read_in us a flags buffer).answer

-- Its rows are turned back as follows: the bytes of a tree's rows give its flags, no other bytes are accepted, whole rows
-- are refused with 27, 28 or 16 exactly where no tree has them, rows belong to one tree at most, and what is not accepted
-- is refused with 15, with one of these or with 17. Which one, and its place: `TableStops` (TableStops.antt).
pub record TurnsExactly (us : Units) (a : ℕ) : Type 0 where
  pub turns : (t : UnitTree us a) (buffer : List ℕ)
      → write_in us a (table_bytes (rows_of t)) buffer ≡ deliver 17 (length (flags_of t)) (flags_of t) buffer
  pub only : (bytes : List ℕ) → Bytes bytes → (buffer : List ℕ) (m : ℕ)
      → (write_in us a bytes buffer).answer ≡ Accepted m
      → (t : UnitTree us a) × (table_bytes (rows_of t) ≡ bytes) × (length (flags_of t) ≡ m)
  pub refused : (bytes : List ℕ) → Bytes bytes → length bytes % 8 ≡ 0 → (buffer : List ℕ)
      → OneOf (number_of (write_in us a bytes buffer).answer) no_tree_numbers ↔ ((t : UnitTree us a) → ¬ (table_bytes (rows_of t) ≡ bytes))
  pub unique : (t u : UnitTree us a) → table_bytes (rows_of t) ≡ table_bytes (rows_of u) → t ≡ u
  pub numbers : (bytes buffer : List ℕ) → AcceptedOr (15 ∷ 27 ∷ 28 ∷ 16 ∷ 17 ∷ []) (write_in us a bytes buffer).answer
