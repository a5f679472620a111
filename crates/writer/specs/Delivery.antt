-- The end of a way back as the code takes it: from a root that is a leaf, from the number that a walk answers, and from the place that is found for a refusal.
use Rattle.std.specs.Prelude.{ℕ, ◌/◌, ◌≤◌, ◌≡◌, Bool, false, ◌&&◌, cond, List, ◌++◌, length, take, drop, ltb, eqb}
use Rattle.tree.specs.declared.Limits.{Limits}
use Rattle.tree.specs.declared.Node.{Node}
use Rattle.tree.specs.declared.Decision.TheVariants.{Leaf}
use Rattle.tree.specs.Kind.{Kind}
use Rattle.tree.specs.Splits.{inside, rights_in}
use Rattle.tree.specs.Flags.{flags_for}
use Rattle.tree.specs.Rows.{Row, row_of, row_at, rows_in}
use Rattle.tree.specs.Run.{Run, stops}
use Rattle.tree.specs.Back.{is_same_row}
use Rattle.tree.specs.Search.{stuck, fit_node}
use Rattle.unit.specs.Answers.{Answer}
use Rattle.refusals.specs.Said.{Accepted, Refused}
use Rattle.unit.specs.Writer.{fit_end}
use Rattle.unit.specs.Answers.{Outcome, refused, deliver, answer_of}
use Rattle.nodes.specs.State.{place_of, given_of}

-- the bytes are one row, the root's own, and the root lies inside the picture: it is a leaf
abbrev pub leaf_alone : Limits → Node → List ℕ → Bool
leaf_alone l root bytes = eqb (length bytes) 8 && (is_same_row (row_at bytes 0) (row_of root) && inside l root)

-- QT is open there besides
abbrev pub quad_alone : Limits → Node → List ℕ → Bool
quad_alone l root bytes = ltb l.minqt root.w && leaf_alone l root bytes

-- the flags of a root that is a leaf, by its open splits
abbrev pub leaf_flags : ℕ → List ℕ
leaf_flags splits = flags_for (rights_in false splits) Leaf

-- their delivery; 17 where the buffer is too short
abbrev pub deliver_leaf : ℕ → List ℕ → Outcome
deliver_leaf splits buffer = deliver 17 (length (leaf_flags splits)) (leaf_flags splits) buffer

-- the end of a walk that takes the rows of a tree: 28 where rows are left, or the count of flags
unfoldable pub walk_end : ℕ → List ℕ → Answer
walk_end end rows = cond (ltb (place_of end) (length rows)) (Refused 28 (place_of end / 8)) (Accepted (given_of end))

-- the end of rows that no walk takes: a refusal's number and place, those of rows that are stuck
pub record StuckEnd (k : Kind) (root : Node) (bytes : List ℕ) (number place : ℕ) : Type 0 where
  pub ends : (left : ℕ) → fit_node k root (rows_in bytes) ≡ stuck left → fit_end (length bytes / 8) (stuck left) ≡ stops number place

-- the first flags of a scratch table into a buffer; 17 where it is too short
unfoldable pub deliver_flags : ℕ → List ℕ → List ℕ → Outcome
deliver_flags n scratch buffer =
    cond (ltb (length buffer) n) (refused 17 n buffer) (record { answer = Accepted n; buffer = take n scratch ++ drop n buffer })

-- a test's answer, its flags at the front of a scratch table, and that they are 2,048 at most
pub record InScratch (run : Run ℕ (List Row)) (said : Answer) (after : List ℕ) : Type 0 where
  pub answers : said ≡ answer_of run
  pub flags : take (length run.given) after ≡ run.given
  pub few : length run.given ≤ 2048
