-- Which nodes the numbers of a walk stand for. It is what the functions of a walk ask of each other; no call's contract names it.
use Rattle.std.specs.Prelude.{ℕ, ◌+◌, ◌*◌, ◌/◌, ◌%◌, ◌^◌, ◌≤◌, ◌<◌, min, ◌≡◌, true, not, ◌&&◌, List, [], ◌∷◌, ltb, eqb}
use Rattle.tree.specs.declared.Limits.{Limits}
use Rattle.tree.specs.declared.Node.{Node}
use Rattle.tree.specs.Kind.{Kind}
use Rattle.tree.specs.Splits.{inside, closed_middle, Rights, rights_of, open_splits}
use Rattle.tree.specs.Children.{corner_inside}
use Rattle.tree.specs.Rows.{row_of}
use Rattle.blocks.specs.RowNumbers.{row_word}
use Rattle.laws.specs.Good.{Good}

-- the two numbers of a node: its row as one number, and the splits that are left to it
pub record Word : Type 0 where
  pub row : ℕ
  pub left : ℕ

abbrev pub word : ℕ → ℕ → Word
word r k = record { row = r; left = k }

-- the area of the node that a row says
abbrev pub area_in : ℕ → ℕ
area_in row = 2 ^ (row / 4294967296 % 8) * 2 ^ (row / 1099511627776 % 8)

-- the splits that a node's depths and its parent leave it
abbrev pub keeps : Limits → Node → Rights
keeps l n = record {
  within = true;
  quad = eqb n.mtt 0;
  binary = λ d. ltb n.mtt (l.maxmtt + n.offset) && not (closed_middle n d);
  ternary = λ d. ltb n.mtt (l.maxmtt + n.offset);
}

-- a node of a tree whose fields fit the places of a row
pub record Placed (l : Limits) (n : Node) : Type 0 where
  pub good : Good l n
  pub right : n.x + n.w ≤ 65536
  pub bottom : n.y + n.h ≤ 65536
  pub sum : n.w + n.h + n.qt + n.mtt ≤ 256
  pub lifted : n.offset ≤ n.mtt

-- A node that may reach past the picture: what its depths and its parent leave it, and 64 for each 1 of its offset F. Inside the picture it is below a root.
pub record Outer (k : Kind) (n : Node) (w : Word) : Type 0 where
  pub placed : Placed k.limits n
  pub row : w.row ≡ row_word (row_of n)
  pub depths : w.left ≡ n.offset * 64 + open_splits (keeps k.limits n)
  pub small : inside k.limits n ≡ true → n.w + n.h < 256

-- M + F at the place of the MTT depth in a row: the depth of a row below it lets cuts open
abbrev pub bound_of : Limits → Node → ℕ
bound_of l n = min 255 (l.maxmtt + n.offset) * 72057594037927936

-- A node inside the picture: its open splits. The bound is that of all nodes below it.
pub record Inside (bound : ℕ) (k : Kind) (n : Node) (w : Word) : Type 0 where
  pub placed : Placed k.limits n
  pub here : corner_inside k.limits n ≡ true
  pub within : inside k.limits n ≡ true
  pub row : w.row ≡ row_word (row_of n)
  pub splits : w.left ≡ open_splits (rights_of k n)
  pub bounded : bound ≡ bound_of k.limits n

-- each of a list of numbers stands for its node
pub data AllStand (stands : Node → Word → Type 0) : List Node → List Word → Type 0 where
  no_more : AllStand stands [] []
  one_more : {n : Node} {ns : List Node} {w : Word} {ws : List Word} → stands n w → AllStand stands ns ws → AllStand stands (n ∷ ns) (w ∷ ws)
