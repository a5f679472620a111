-- Demand 3, proved for every coding that has the laws.
use Prim.Native.Nat.{ℕ, ◌<◌}
use mathlib.Core.List.{List}
use Rattle.tree.specs.Rows.{Row}
use Rattle.tree.specs.Tree.{Tree, rows_of}
use Rattle.laws.specs.Every.{Every, every_none, every_more}
use Rattle.laws.specs.Geometry.{InOneCell, InPipeline}
use Rattle.laws.proofs.Joins.{Joins, every_joins}
use Rattle.sessions.specs.Lists as lists
use Rattle.sessions.specs.Coding.{Coding}
use Rattle.sessions.specs.Forest.{UnitPart}
use Rattle.sessions.specs.Demand.{accepted_in, joined, After}
use Rattle.sessions.proofs.Parts.{part_pipeline, part_inside}
use Rattle.sessions.proofs.Forests.{GoodPart, forest_joined}
use Rattle.sessions.proofs.Laws.{Laws}
use Rattle.sessions.proofs.Units.{no_units, a_unit, Read, ReadFrom, accepted_units}
use Rattle.sessions.proofs.Covered.{units_covered}
use Rattle.sessions.proofs.Complete.{units_complete}
use Rattle.sessions.proofs.Legible.{flags_legible, rows_legible}

module _ {g : Coding} {first : ℕ} {next : ℕ → ℕ} {Due : ℕ → g.Session → Type 0} (l : Laws g first next Due) where
  -- A property that joined tables have where their parts have it: where the rows of each good part's tree have it, so
  -- do a unit's rows, and the joined table of units.
  module _ {F : List Row → Type 0} (joins : Joins F)
      (of_part : (p : UnitPart g.Table) → GoodPart g.width g.height g.cell p → (t : Tree p.kind p.root)
      → F (rows_of t)) (i : g.Table) where
    unit_joined : {a : ℕ} {u : g.Taken} → Read l a u → F (g.rows i u)
    unit_joined {a} x =
        let good = l.trees.good a x.there in
        rw (x.rows i) (forest_joined g.width g.height g.cell l.trees.same i joins of_part good x.forest)

    pub units_joined : {a : ℕ} {us : List g.Taken} → ReadFrom l a us → F (joined g i us)
    unfolding lists.joined
    units_joined no_units = joins.empty
    units_joined (a_unit x rest) = joins.join (unit_joined x) (units_joined rest)

  units_back : {a : ℕ} {us : List g.Taken} → ReadFrom l a us → Every g.TurnsBack us
  units_back no_units = every_none
  units_back (a_unit {u = u} x rest) = every_more {a = u} x.back (units_back rest)

  pub after : {t : g.Session} → Due first t → (calls : List g.Call) → After g t calls
  after d calls =
      let units = accepted_units l d calls in
      record {
        covered = λ i px py. units_covered l px py i units;
        complete = λ all px py. units_complete l px py units all;
        pipeline = λ i. units_joined (every_joins (InPipeline g.cell)) (λ p. part_pipeline) i units;
        back = units_back units;
        legible = λ others. let o = accepted_units l d others in (flags_legible l units o, rows_legible l units o);
      }

  -- where pipeline units are smaller than 64 by 64, no row leaves its own
  pub after_inside : {t : g.Session} → Due first t → g.cell < 64 → (calls : List g.Call) (i : g.Table)
      → Every (InOneCell g.cell) (joined g i (accepted_in g t calls))
  after_inside d small calls i =
      units_joined (every_joins (InOneCell g.cell)) (λ p s. part_inside s small) i (accepted_units l d calls)
