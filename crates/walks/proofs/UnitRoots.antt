-- The roots of the units of settings that passed their check.
use Rattle.std.proofs.Common.{Ok}
use Prim.Native.Nat.{ℕ}
use mathlib.Core.Path.{◌≡◌}
use mathlib.Core.Bool.{Bool}
use mathlib.Core.List.{List}
use native.Mathlib.Omega.{arith}
use Rattle.settings.specs.declared.Settings.{Settings}
use Rattle.settings.specs.declared.Square.{Square}
use Rattle.settings.specs.Units.{Located}
use Rattle.settings.specs.Units.{unit_count, square_at, refusal_at, located_by}
use Rattle.settings.proofs.Grid.{unit_taken}
use Rattle.tree.specs.declared.Limits.{Limits}
use Rattle.tree.specs.declared.Node.{Node}
use Rattle.tree.specs.Kind.{luma}
use Rattle.tree.specs.Splits.{is_out, rights_of, open_splits}
use Rattle.tree.specs.Rows.{row_of}
use Rattle.blocks.specs.RowNumbers.{row_word}
use Rattle.nodes.specs.Tables.{table_of}
use Rattle.unit.specs.Units.{root_of}
use Rattle.unit.specs.Luma.{limits_of}
use Rattle.unit.proofs.Located.{found}
use Rattle.unit.specs.Usable.{Usable}
use Rattle.unit.proofs.Roots.{usable_root}
use Rattle.walks.specs.Rooted.{Rooted, UnitRoot, Given}
use Rattle.walks.proofs.Roots.{square_rooted}

-- the root of a unit that was found
pub found_root : {refusal : ℕ} {s : Settings} → (refusal ≡ 0 → Usable s.ctu (limits_of s)) → (a : ℕ) {at : Located}
    → at ≡ located_by (refusal_at refusal (unit_count s) a) (square_at s a) → {q : Square} → at ≡ Ok q → UnitRoot (limits_of s) (root_of q)
found_root {refusal} {s} usable a e h =
    let f = found (refusal_at refusal (unit_count s) a) (square_at s a) (rw e at h) in
    let t = unit_taken refusal (unit_count s) a f.0 in
    let r = usable_root (usable t.0) a t.1 in
    let fits = r.fits in
    rw f.1 (record { proper = r.valid; square = r.square; here = r.here; wide = r.wide; high = r.high; deep = omega arith })

-- it can be walked
pub rooted : {l : Limits} {root : Node} → UnitRoot l root → Rooted (luma l) root
rooted u = square_rooted u.proper u.square u.here u.wide u.high u.deep

-- the numbers that its walk is given
pub unit_given : {l : Limits} {root : Node} → UnitRoot l root → {u : List ℕ} {row : ℕ} {out : Bool} {splits : ℕ} → u ≡ table_of (luma l) → row ≡ row_word (row_of root)
    → out ≡ is_out l root → splits ≡ open_splits (rights_of (luma l) root) → Given (luma l) root u row out splits
unit_given unit t r o s = record { rooted = rooted unit; table = t; row_is = r; out_is = o; splits_are = s }
