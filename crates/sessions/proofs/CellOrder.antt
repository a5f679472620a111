-- R-14 for every coding that has the laws: the tables of units have the pipeline units one after the other.
use Prim.Native.Nat.{ℕ, ◌<◌}
use mathlib.Core.Path.{◌≡◌, refl, ap, ◌∙◌}
use mathlib.Core.Bool.{Bool, true, false}
use mathlib.Core.List.{List, append-nil}
use native.Mathlib.Omega.{arith}
use lib.Dec.{ltb}
use borrow.Author.Tests.{ltb-true}
use Rattle.sides.proofs.Bools.{and_left, and_right}
use Rattle.tree.specs.Splits.{bit}
use Rattle.laws.specs.Every.{Every, every_none, every_more}
use Rattle.laws.specs.Geometry.{copies}
use Rattle.laws.specs.CellOrder.{CellByCell}
use Rattle.laws.proofs.Tests.{bit_most}
use Rattle.laws.proofs.Copies.{Once}
use Rattle.laws.proofs.CellOrder.{filled_joins, cell_by_cell}
use Rattle.sessions.specs.Lists as lists
use Rattle.sessions.specs.Coding.{Coding}
use Rattle.sessions.specs.Demand.{accepted_in, joined, in_picture, in_units}
use Rattle.sessions.proofs.Parts.{part_filled}
use Rattle.sessions.proofs.Laws.{Laws}
use Rattle.sessions.proofs.Units.{no_units, a_unit, Read, ReadFrom, accepted_units}
use Rattle.sessions.proofs.Covered.{units_covered}
use Rattle.sessions.proofs.Complete.{none_outside}
use Rattle.sessions.proofs.Demand.{units_joined}

module _ {g : Coding} {first : ℕ} {next : ℕ → ℕ} {Due : ℕ → g.Session → Type 0} (l : Laws g first next Due)
    (i : g.Table) where
  -- the joined table has each sample of the picture once at most, and no other
  units_once : {a : ℕ} {us : List g.Taken} → ReadFrom l a us → Once g.width g.height (joined g i us)
  units_once {us = us} units = record {
    most = λ px py. let e = units_covered l px py i units in let b = bit_most (in_units g us px py) 1 in omega arith;
    inside = λ px py h. go px py h (in_picture g px py) refl;
  }
    where
      go : (px py : ℕ) → 0 < copies px py (joined g i us) → (b : Bool) → in_picture g px py ≡ b
          → (px < g.width) × (py < g.height)
      go px py h true e =
          let x = ltb px g.width in
          (ltb-true px g.width (and_left x _ e), ltb-true py g.height (and_right x _ e))
      go px py h false e =
          let z = units_covered l px py i units ∙ ap (λ b. bit b 1) (none_outside l px py us e) in absurd (omega arith)

  abbrev Cells : g.Taken → Type 0
  Cells u = CellByCell g.cell g.width g.height (g.rows i u)

  units_cells : {a : ℕ} {us : List g.Taken} → ReadFrom l a us
      → CellByCell g.cell g.width g.height (joined g i us)
  units_cells units = cell_by_cell _ _ _ (units_once units) (units_joined l (filled_joins _ _ _) (λ p. part_filled) i units)

  -- one unit is a list of one
  unit_cells : {a : ℕ} {u : g.Taken} → Read l a u → Cells u
  unfolding lists.joined
  unit_cells x = rw append-nil at (units_cells (a_unit x no_units))

  each_unit : {a : ℕ} {us : List g.Taken} → ReadFrom l a us → Every Cells us
  each_unit no_units = every_none
  each_unit (a_unit {u = u} x rest) = every_more {a = u} (unit_cells x) (each_unit rest)

  -- after a list of calls: the table of each unit accepted in it, and the joined table
  pub each_cells : {t : g.Session} → Due first t → (calls : List g.Call) → Every Cells (accepted_in g t calls)
  each_cells d calls = each_unit (accepted_units l d calls)

  pub joined_cells : {t : g.Session} → Due first t → (calls : List g.Call)
      → CellByCell g.cell g.width g.height (joined g i (accepted_in g t calls))
  joined_cells d calls = units_cells (accepted_units l d calls)
