-- Where the way back of a root starts: from any row of a table, or from its first.
use Prim.Native.Nat.{ℕ, ◌-◌, ◌/◌}
use mathlib.Core.Path.{◌≡◌, refl, subst}
use mathlib.Core.List.{List}
use native.Mathlib.Omega.{arith}
use lib.ListN.{length}
use Rattle.tree.specs.declared.Node.{Node}
use Rattle.tree.specs.Kind.{Kind}
use Rattle.tree.specs.Rows.{rows_at, rows_in}
use Rattle.tree.specs.Back.{back_node}
use Rattle.nodes.specs.State.{place_of}
use Rattle.walks.specs.Rooted.{RoomFor}
use Rattle.walks.specs.Walks.{Done}
use Rattle.marks.specs.Table.{rows_left, Left}
use Rattle.back.specs.Walking.{back_way, Starts}

-- its rows are those that are left
pub starts_left : {bytes : List ℕ} {c row : ℕ} → Starts bytes c row → Left bytes (place_of c) (rows_left bytes (place_of c / 8))
starts_left s = record { from = refl; first = s.first; within = s.within }

-- from the first row on, all rows are left, and none is before them
pub starts_first : (bytes : List ℕ) {row : ℕ} → RoomFor (back_way bytes) 0 row → Starts bytes 0 row
starts_first bytes room = record { first = refl; within = omega arith; room = room }

pub first_done : (bytes : List ℕ) (k : Kind) (root : Node) {b z : List ℕ} {r : ℕ} → Done (back_way bytes) (back_node k root (rows_left bytes 0)) 0 b r z → Done (back_way bytes) (back_node k root (rows_in bytes)) 0 b r z
first_done bytes k root {b} {z} {r} d =
    let e : length bytes / 8 - 0 ≡ length bytes / 8 = omega arith in
    subst (λ (i : ℕ). Done (back_way bytes) (back_node k root (rows_at i bytes 0)) 0 b r z) e d
