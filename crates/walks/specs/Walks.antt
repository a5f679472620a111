-- A walk over the nodes of a tree, the reading or the way back: what each of its functions asks of the next, and what it gives. No call's contract names it.
use Rattle.std.specs.Prelude.{ℕ, ◌+◌, ◌*◌, ◌≤◌, ◌≡◌, List, ◌++◌, length, take}
use Rattle.tree.specs.declared.Node.{Node}
use Rattle.tree.specs.Kind.{Kind}
use Rattle.tree.specs.Run.{End, goes, stops, Run, over_all}
use Rattle.laws.specs.Areas.{areas_of, flag_room}
use Rattle.laws.specs.Proper.{Proper}
use Rattle.nodes.specs.Tables.{table_of}
use Rattle.nodes.specs.State.{refusal, place_of, given_of}
use Rattle.walks.specs.Stands.{Word, AllStand}

-- What is walked: what happens at a node, from a state; which states stand at a place of what is read; what is given, as it is stored, one number each;
-- how many rows and flags a place and a count stand for; and how many flags there may be, 64 for each.
pub record Way (A S : Type 0) : Type 1 where
  pub go : Kind → Node → S → Run A S
  pub at : ℕ → S → Type 0
  pub stored : List A → List ℕ
  pub rows : ℕ → ℕ → ℕ
  pub flags : ℕ → ℕ → ℕ
  pub most : ℕ

-- room for the rows and the flags of nodes: 16 samples for each row, and flags up to a bound
pub record Room (rows flags most : ℕ) (ns : List Node) : Type 0 where
  pub for_rows : 16 * rows + areas_of ns ≤ 16384
  pub for_flags : 64 * flags + flag_room ns ≤ most

module _ {A S : Type 0} (way : Way A S) where
  -- the walk over nodes, from a state
  abbrev pub walk_over : Kind → List Node → S → Run A S
  walk_over k ns s = over_all k.limits (λ n t. way.go k n t) ns s

  -- room for what a place and a count stand for, and for nodes
  abbrev pub RoomAt : ℕ → ℕ → List Node → Type 0
  RoomAt place count ns = Room (way.rows place count) (way.flags place count) way.most ns

  -- a number says how a run ends, after so many given
  unfoldable pub Says : ℕ → ℕ → End S → Type 0
  Says answer count (goes s) = (given_of answer ≡ count) × way.at (place_of answer) s
  Says answer count (stops number place) = answer ≡ refusal number place

  -- a run is answered, and what it gives follows what was given so far in the scratch table
  pub record Done (run : Run A S) (c : ℕ) (before : List ℕ) (answer : ℕ) (after : List ℕ) : Type 0 where
    pub said : Says answer (given_of c + length run.given) run.end
    pub long : length after ≡ length before
    pub given : take (given_of c + length run.given) after ≡ take (given_of c) before ++ way.stored run.given

  module _ (stands : Kind → Node → Word → Type 0) where
    -- what a walk starts from: the table of the kind, numbers that stand for the nodes, a place of what is read, and room
    pub record Ready (k : Kind) (ns : List Node) (s : S) (u : List ℕ) (c : ℕ) (ws : List Word) : Type 0 where
      pub proper : Proper k
      pub table : u ≡ table_of k
      pub stand : AllStand (stands k) ns ws
      pub placed : way.at (place_of c) s
      pub room : RoomAt (place_of c) (given_of c) ns

    pub record Asked (u : List ℕ) (c : ℕ) (ws : List Word) : Type 0 where
      pub kind : Kind
      pub nodes : List Node
      pub state : S
      pub ready : Ready kind nodes state u c ws

    pub record Walked (u : List ℕ) (c : ℕ) (ws : List Word) (before : List ℕ) (answer : ℕ) (after : List ℕ) : Type 0 where
      pub done : (k : Kind) (ns : List Node) (s : S) → Ready k ns s u c ws → Done (walk_over k ns s) c before answer after
