-- The context numbers by the flags: the walk of `Reading`, which carries besides what is known of the blocks coded so far and the numbers given so far.
use Rattle.std.specs.Prelude.{ℕ, zero, suc, List, ◌++◌}
use Rattle.tree.specs.declared.Node.{Node}
use Rattle.tree.specs.declared.Decision.{Decision}
use Rattle.tree.specs.Flags.{Choice}
use Rattle.tree.specs.Flags.{Chosen, Refused}
use Rattle.tree.specs.Kind.{Kind}
use Rattle.tree.specs.Splits.{rights_of}
use Rattle.tree.specs.Flags.{decide}
use Rattle.tree.specs.Children.{children}
use Rattle.tree.specs.Rows.{Row, own_rows}
use Rattle.tree.specs.Run.{Run, End, goes, stops, refuse, before, over_all}
use Rattle.tree.specs.Reading.{levels_left}
use Rattle.numbers.specs.Numbers.{numbers_for}
use Rattle.numbers.specs.Walk.{Finder, put_all}

-- where a reading with numbers is: the place in the flags, what is known of the blocks coded so far, and the numbers given so far
pub record Stand (S : Type 0) : Type 0 where
  pub at : ℕ
  pub known : S
  pub numbers : List ℕ

-- how the reading ends without the numbers
unfoldable pub ended : {S : Type 0} → End (Stand S) → End ℕ
ended (goes s) = goes s.at
ended (stops number place) = stops number place

module _ {S : Type 0} (f : Finder S) (k : Kind) where
  -- where it is when a node's decision is read, which ends at a place: the node's numbers are given, and a leaf's block is known
  abbrev pub stand_in : Node → Stand S → Decision → ℕ → Stand S
  stand_in n s d at = record {
    at = at;
    known = put_all f (own_rows n d) s.known;
    numbers = s.numbers ++ numbers_for (rights_of k n) n (f.above s.known n.x n.y) (f.left s.known n.x n.y) d;
  }

  -- a node of which the decision is read: a leaf's row, or the children's rows and numbers
  unfoldable pub enter_numbers : Node → Stand S → (Node → Stand S → Run Row (Stand S)) → Choice → Run Row (Stand S)
  enter_numbers n s go (Refused number place) = refuse number place
  enter_numbers n s go (Chosen d at) = before (own_rows n d) (over_all k.limits go (children k.limits n d) (stand_in n s d at))

  -- the first argument as in `walk`
  unfoldable pub walk_numbers : ℕ → List ℕ → Node → Stand S → Run Row (Stand S)
  walk_numbers zero flags n s = refuse 0 0
  walk_numbers (suc levels) flags n s = enter_numbers n s (λ c t. walk_numbers levels flags c t) (decide (rights_of k n) flags s.at)

  -- the rows and the numbers of a node from a place of the flags
  abbrev pub read_numbers : List ℕ → Node → Stand S → Run Row (Stand S)
  read_numbers flags n s = walk_numbers (levels_left n) flags n s
