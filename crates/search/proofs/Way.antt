-- The search is a lawful walk: nothing is given, and the rows that it takes at a node are within the node's area.
use Prim.Native.Nat.{ℕ, ◌+◌, ◌-◌, ◌*◌, ◌/◌, ◌≤◌}
use mathlib.Core.Path.{◌≡◌, refl, ap, ◌∙◌}
use mathlib.Core.Bool.{true}
use mathlib.Core.List.{List, [], ◌∷◌}
use native.Mathlib.Omega.{arith}
use lib.ListN.{length, length-append}
use Rattle.tree.specs.declared.Node.{Node}
use Rattle.tree.specs.Kind.{Kind}
use Rattle.tree.specs.Children.{corner_inside}
use Rattle.tree.specs.Rows.{Row}
use Rattle.tree.specs.Run.{Run, goes, over_all}
use Rattle.tree.specs.Search.{Fit, whole, stuck, fit_node}
use Rattle.tree.specs.Tree.{rows_of}
use Rattle.laws.specs.Areas.{areas_of, flag_room}
use Rattle.laws.specs.FitRun.{fit_run}
use Rattle.laws.specs.Proper.{Proper}
use Rattle.laws.proofs.Searching.{search_is_tree}
use Rattle.laws.proofs.Sizes.{rows_fit}
use Rattle.laws.proofs.Tables.{rows_long}
use Rattle.laws.proofs.Tests.{never}
use Rattle.walks.specs.Stands.{Placed}
use Rattle.walks.specs.Walks.{RoomAt, walk_over}
use Rattle.walks.proofs.Lawful.{Step, Lawful}
use Rattle.walks.proofs.One.{here_or_gone}
use Rattle.marks.specs.Table.{Left}
use Rattle.search.specs.Walking.{search_way}

-- how many rows are left at a place
pub left_long : {bytes : List ℕ} {at : ℕ} {rows : List Row} → Left bytes at rows → length rows ≡ length bytes / 8 - at / 8
left_long {bytes} {at} l = ap length l.from ∙ rows_long (length bytes / 8 - at / 8) bytes (at / 8 * 8)

-- nothing is given, and so many rows are taken, 16 samples for each
record Took (area : ℕ) (rows : List Row) (run : Run ℕ (List Row)) : Type 0 where
  given : length run.given ≡ 0
  taken : (rest : List Row) → run.end ≡ goes rest → (m : ℕ) × (length rows ≡ m + length rest) × (16 * m ≤ area)

node_took : (count : ℕ) {k : Kind} → Proper k → {n : Node} → Placed k.limits n → corner_inside k.limits n ≡ true → (rows : List Row) → Took (n.w * n.h) rows (fit_run count (fit_node k n rows))
node_took count {k} v {n} p here rows = go (fit_node k n rows) refl
  where
    go : (f : Fit) → fit_node k n rows ≡ f → Took (n.w * n.h) rows (fit_run count f)
    go (whole left) e =
        let t = ((search_is_tree v p.good here p.sum).exactly rows left).0 e in
        let l : length rows ≡ length (rows_of t.0) + length left = ap length t.1 ∙ length-append (rows_of t.0) left in
        record { given = refl; taken = λ rest i. let same : left ≡ rest = cc in (length (rows_of t.0), rw (← same) l, rows_fit v p.good.shape t.0) }
    go (stuck left) e = record { given = refl; taken = λ rest i. never (cc) }

one_took : (bytes : List ℕ) {k : Kind} → Proper k → {n : Node} → Placed k.limits n → (rows : List Row) → Took (n.w * n.h) rows (walk_over (search_way bytes) k (n ∷ []) rows)
unfolding over_all
one_took bytes {k} v {n} p rows =
    here_or_gone (search_way bytes) k n rows (λ r. Took (n.w * n.h) rows r) (λ here. node_took (length bytes / 8) v p here rows)
    (record { given = refl; taken = λ rest e. let same : rows ≡ rest = cc in (0, rw same (omega arith), omega arith) })

one_step : (bytes : List ℕ) (k : Kind) (n : Node) → Proper k → Placed k.limits n → (ns : List Node) (p count : ℕ) (rows : List Row) → Left bytes p rows
    → RoomAt (search_way bytes) p count (n ∷ ns) → Step (search_way bytes) ns count (walk_over (search_way bytes) k (n ∷ []) rows)
unfolding areas_of flag_room
one_step bytes k n v s ns p count rows at room =
    let t = one_took bytes v s rows in
    let g = t.given in
    let i = room.for_rows in
    let j = room.for_flags in
    record {
      small = omega arith;
      room = λ q left e on.
          let m = t.taken left e in
          let l = left_long at in
          let r = left_long on in
          let w = at.within in
          let x = on.within in
          let sum = m.1 in
          let few = m.2 in
          record { for_rows = omega arith; for_flags = omega arith };
    }

pub search_lawful : (bytes : List ℕ) → Lawful (search_way bytes)
search_lawful bytes = record { join = λ xs ys. refl; step = one_step bytes }
