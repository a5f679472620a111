-- What the laws of walks need of a walk.
use Prim.Native.Nat.{ℕ, ◌+◌, ◌≤◌}
use mathlib.Core.Path.{◌≡◌}
use mathlib.Core.List.{List, [], ◌∷◌, ◌++◌}
use lib.ListN.{length}
use Rattle.tree.specs.declared.Node.{Node}
use Rattle.tree.specs.Kind.{Kind}
use Rattle.tree.specs.Run.{goes, Run}
use Rattle.laws.specs.Proper.{Proper}
use Rattle.walks.specs.Stands.{Placed}
use Rattle.walks.specs.Walks.{Way, RoomAt, walk_over}

module _ {A S : Type 0} (way : Way A S) where
  -- after the first of several nodes: the count stays small, and where the walk goes on there is room for the other nodes
  pub record Step (ns : List Node) (count : ℕ) (run : Run A S) : Type 0 where
    pub small : count + length run.given ≤ 8192
    pub room : (p : ℕ) (s : S) → run.end ≡ goes s → way.at p s → RoomAt way p (count + length run.given) ns

  pub record Lawful : Type 0 where
    pub join : (xs ys : List A) → way.stored (xs ++ ys) ≡ way.stored xs ++ way.stored ys
    pub step : (k : Kind) (n : Node) → Proper k → Placed k.limits n → (ns : List Node) (p count : ℕ) (s : S) → way.at p s
        → RoomAt way p count (n ∷ ns) → Step ns count (walk_over way k (n ∷ []) s)
