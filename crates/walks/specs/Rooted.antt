-- The root of a tree, as the walk of its root needs it: above all cuts, of any QT depth. A call's contract needs none of this.
use Rattle.std.specs.Prelude.{ℕ, ◌+◌, ◌*◌, ◌≤◌, ◌≡◌, Bool, true, List}
use Rattle.tree.specs.declared.Limits.{Limits}
use Rattle.tree.specs.declared.Node.{Node}
use Rattle.tree.specs.Kind.{Kind, luma}
use Rattle.tree.specs.Splits.{is_out, rights_of, open_splits}
use Rattle.tree.specs.Children.{corner_inside}
use Rattle.tree.specs.Rows.{row_of}
use Rattle.blocks.specs.RowNumbers.{row_word}
use Rattle.laws.specs.Proper.{Proper, RootSquare}
use Rattle.nodes.specs.State.{place_of, given_of}
use Rattle.nodes.specs.Tables.{table_of}
use Rattle.walks.specs.Stands.{Placed, area_in}
use Rattle.walks.specs.Walks.{Way}

pub record Rooted (k : Kind) (root : Node) : Type 0 where
  pub proper : Proper k
  pub placed : Placed k.limits root
  pub here : corner_inside k.limits root ≡ true
  pub uncut : root.mtt ≡ 0

-- What the root of a unit is known by, in a struct of the code: it is a square at multiples of its side, its corner lies in a picture of at most 16,384 by 16,384,
-- and its depth fits. Such a root can be walked (`square_rooted`, `walks/proofs/Roots.antt`).
pub record UnitRoot (l : Limits) (root : Node) : Type 0 where
  pub proper : Proper (luma l)
  pub square : RootSquare l root
  pub here : corner_inside l root ≡ true
  pub wide : l.width ≤ 16384
  pub high : l.height ≤ 16384
  pub deep : root.w + root.h + root.qt ≤ 256

-- The numbers that the walk of a root is given: the table of its kind, its row, whether it is out of the picture, and its open splits.
pub record Given (k : Kind) (root : Node) (u : List ℕ) (row : ℕ) (out : Bool) (splits : ℕ) : Type 0 where
  pub rooted : Rooted k root
  pub table : u ≡ table_of k
  pub row_is : row ≡ row_word (row_of root)
  pub out_is : out ≡ is_out k.limits root
  pub splits_are : splits ≡ open_splits (rights_of k root)

-- of some root
pub record SomeRoot (u : List ℕ) (row : ℕ) (out : Bool) (splits : ℕ) : Type 0 where
  pub kind : Kind
  pub root : Node
  pub given : Given kind root u row out splits

-- A root's walk may begin at any place, after any number given: there is room for its tree behind so many rows and flags.
pub record RootRoom (rows flags most row : ℕ) : Type 0 where
  pub for_rows : 16 * rows + area_in row ≤ 16384
  pub for_flags : 64 * flags + 7 * area_in row ≤ most

-- behind what a walk has read and given at a state
module _ {A S : Type 0} (way : Way A S) where
  abbrev pub RoomFor : ℕ → ℕ → Type 0
  RoomFor c row = RootRoom (way.rows (place_of c) (given_of c)) (way.flags (place_of c) (given_of c)) way.most row
