-- The way back is a lawful walk: its flags stay within the area of its nodes, and so do the cells of the rows that it takes.
use Prim.Native.Nat.{ℕ, ◌+◌, ◌-◌, ◌*◌, ◌/◌}
use mathlib.Core.Path.{◌≡◌, refl, sym, ap, ◌∙◌}
use mathlib.Core.List.{List, [], ◌∷◌}
use native.Mathlib.Omega.{arith}
use lib.ListN.{length, take, length-drop}
use Rattle.tree.specs.declared.Node.{Node}
use Rattle.tree.specs.Kind.{Kind}
use Rattle.tree.specs.Rows.{Row}
use Rattle.tree.specs.Run.{over_all}
use Rattle.laws.specs.Areas.{areas_of, flag_room, cells_of_all}
use Rattle.laws.specs.Proper.{Proper}
use Rattle.laws.proofs.BackBounds.{Taken, BackBound, back_bound}
use Rattle.laws.proofs.Tables.{rows_long}
use Rattle.walks.specs.Stands.{Placed}
use Rattle.walks.specs.Walks.{RoomAt, walk_over}
use Rattle.walks.proofs.Lawful.{Step, Lawful}
use Rattle.walks.proofs.One.{here_or_gone}
use Rattle.marks.specs.Table.{Left}
use Rattle.marks.specs.Marks.{cells_before}
use Rattle.back.specs.Walking.{back_way}
use Rattle.marks.proofs.NextRows.{cells_on}

-- ---- rows that are taken

-- the cells before the place at which rows are left, after those before the place from which some were taken
cells_before_lem : (bytes : List ℕ) {p q area : ℕ} {rows left : List Row} → Left bytes p rows → (t : Taken area rows left) → Left bytes q left
    → cells_before bytes (q / 8) ≡ cells_before bytes (p / 8) + cells_of_all (take t.0 rows)
cells_before_lem bytes {p} {q} {area} {rows} {left} a t b =
    let k = t.0 in
    let la = ap length a.from ∙ rows_long (length bytes / 8 - p / 8) bytes (p / 8 * 8) in
    let lb = ap length b.from ∙ rows_long (length bytes / 8 - q / 8) bytes (q / 8 * 8) in
    let ld = ap length t.1 ∙ length-drop k rows in
    let h = t.2 in
    let pw = a.within in
    let qw = b.within in
    let e : q / 8 ≡ p / 8 + k = omega arith in
    ap (cells_before bytes) e ∙ cells_on bytes (p / 8) k ∙ ap (λ rs. cells_before bytes (p / 8) + cells_of_all (take k rs)) (sym a.from)

-- ---- one node

-- its way back is bounded by its area, also where it is skipped
one_bound : (bytes : List ℕ) {k : Kind} → Proper k → {n : Node} → Placed k.limits n → (rows : List Row) → BackBound n rows (walk_over (back_way bytes) k (n ∷ []) rows)
unfolding over_all
one_bound bytes {k} v {n} s rows =
    here_or_gone (back_way bytes) k n rows (λ r. BackBound n rows r) (λ here. back_bound v s.good s.sum rows)
    (record { flags = omega arith; rest = λ left h. (0, cc, omega arith, omega arith) })

one_step : (bytes : List ℕ) (k : Kind) (n : Node) → Proper k → Placed k.limits n → (ns : List Node) (p count : ℕ) (rows : List Row) → Left bytes p rows
    → RoomAt (back_way bytes) p count (n ∷ ns) → Step (back_way bytes) ns count (walk_over (back_way bytes) k (n ∷ []) rows)
unfolding areas_of flag_room
one_step bytes k n v s ns p count rows at room =
    let b = one_bound bytes v s rows in
    let f = b.flags in
    let i = room.for_rows in
    let j = room.for_flags in
    record {
      small = omega arith;
      room = λ q left e on.
          let t = b.rest left e in
          let c = cells_before_lem bytes at t on in
          let h = t.3 in
          record { for_rows = omega arith; for_flags = omega arith };
    }

pub back_lawful : (bytes : List ℕ) → Lawful (back_way bytes)
back_lawful bytes = record { join = λ xs ys. refl; step = one_step bytes }
