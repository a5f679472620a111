-- R-14, proved: of a reading by the law of coding trees, of a list of calls by the laws of sessions.
use Prim.Native.Nat.{ℕ}
use mathlib.Core.Path.{◌≡◌}
use mathlib.Core.List.{List}
use native.Mathlib.Omega.{arith}
use Rattle.settings.specs.Checks.{settings_refusal}
use Rattle.settings.specs.Units.{unit_count}
use Rattle.settings.proofs.Grid.{unit_taken}
use Rattle.tree.specs.Rows.{rows_at}
use Rattle.laws.specs.CellOrder.{CellByCell}
use Rattle.refusals.specs.Said.{Accepted}
use Rattle.unit.specs.Luma.{units_of}
use Rattle.unit.proofs.Luma.{luma_sound}
use Rattle.unit.proofs.RoundTrips.{read_there}
use Rattle.sessions.proofs.Parts.{part_cells}
use Rattle.sessions.proofs.CellOrder.{each_cells, joined_cells}
use Rattle.picture.specs.OneTree.{OneTree}
use Rattle.picture.specs.PipelineOrder.{PipelineOrder}
use Rattle.picture.proofs.OneTree.{UnitLaws}
use Rattle.picture.proofs.Demand3.{greyscale_units, greyscale_laws}
use Rattle.picture.proofs.Sessions.{fresh}

-- an accepted reading of units with one tree
pub unit_order : (o : OneTree) → UnitLaws o → {side : ℕ} → side ≡ o.cell → (a : ℕ) (flags buffer : List ℕ) {m : ℕ}
    → (o.read a flags buffer).answer ≡ Accepted m
    → CellByCell side o.kind.limits.width o.kind.limits.height (rows_at m (o.read a flags buffer).buffer 0)
unit_order o units e a flags buffer f =
    let x = units.accepts a flags buffer f in rw x.rows (part_cells (units.good a x.there) e x.tree)

pub pipeline_order : PipelineOrder
pipeline_order = record {
  reading = λ s a flags buffer count e.
      let t = unit_taken (settings_refusal s) (unit_count s) a (read_there (luma_sound s) a flags buffer count e) in
      unit_order _ (greyscale_units s t.0) (omega arith) a flags buffer e;
  session = λ s t e calls.
      let f = fresh units_of s t e in
      let l = greyscale_laws s f.0 in
      record { each = each_cells l tt f.1 calls; all = joined_cells l tt f.1 calls };
}
