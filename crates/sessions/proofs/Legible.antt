-- Joined tables and flags of units say the same.
use Prim.Native.Nat.{ℕ}
use mathlib.Core.Path.{◌≡◌, refl, sym, ap, ap₂, ◌∙◌}
use mathlib.Core.List.{List, ◌∷◌, ◌++◌}
use Rattle.tree.specs.Rows.{Row}
use Rattle.laws.proofs.Tests.{never}
use Rattle.sessions.specs.Lists as lists
use Rattle.sessions.specs.Coding.{Coding}
use Rattle.sessions.specs.Demand.{joined, flag_lists}
use Rattle.sessions.specs.Forest.{Forest, forest_rows}
use Rattle.sessions.proofs.Forests.{forest_unique, forest_legible}
use Rattle.sessions.proofs.Laws.{Laws}
use Rattle.sessions.proofs.Units.{no_units, a_unit, Read, ReadFrom}
use Rattle.sessions.proofs.Covered.{some_row_lem}

module _ {g : Coding} {first : ℕ} {next : ℕ → ℕ} {Due : ℕ → g.Session → Type 0} (l : Laws g first next Due) where
  -- ---- of one unit, before other rows

  module _ {a : ℕ} {u v : g.Taken} (x : Read l a u) (y : Read l a v) where
    unit_legible : (more others : g.Table → List Row)
        → ((i : g.Table) → g.rows i u ++ more i ≡ g.rows i v ++ others i)
        → (g.flags u ≡ g.flags v) × ((i : g.Table) → more i ≡ others i)
    unit_legible more others e =
        let good = l.trees.good a x.there in
        let f =
        forest_legible g.width g.height g.cell l.trees.same l.trees.itself good x.forest y.forest
        more others
        (λ i. ap (λ (r : List Row). r ++ more i) (sym (x.rows i)) ∙ e i
        ∙ ap (λ (r : List Row). r ++ others i) (y.rows i)) in
        (sym x.said ∙ f.0 ∙ y.said, f.1)

    unit_rows : g.flags u ≡ g.flags v → (i : g.Table) → g.rows i u ≡ g.rows i v
    unit_rows e i =
        let same = forest_unique x.forest y.forest (x.said ∙ e ∙ sym y.said) in
        x.rows i ∙ ap (λ (t : Forest (l.trees.parts a)). forest_rows l.trees.same i t) same ∙ sym (y.rows i)

  -- ---- of lists of units

  pub flags_legible : {a : ℕ} {us vs : List g.Taken} → ReadFrom l a us → ReadFrom l a vs
      → ((i : g.Table) → joined g i us ≡ joined g i vs) → flag_lists g us ≡ flag_lists g vs
  unfolding lists.joined lists.flag_lists
  flags_legible no_units no_units e = refl
  flags_legible no_units (a_unit y rest) e =
      let i = l.trees.some_table in absurd (some_row_lem l i (a_unit y rest) (e i))
  flags_legible (a_unit x rest) no_units e =
      let i = l.trees.some_table in absurd (some_row_lem l i (a_unit x rest) (sym (e i)))
  flags_legible (a_unit {us = us} x rest) (a_unit {us = vs} y others) e =
      let f = unit_legible x y (λ i. joined g i us) (λ i. joined g i vs) e in
      ap₂ (λ i j. i ∷ j) f.0 (flags_legible rest others f.1)

  pub rows_legible : {a : ℕ} {us vs : List g.Taken} → ReadFrom l a us → ReadFrom l a vs
      → flag_lists g us ≡ flag_lists g vs → (i : g.Table) → joined g i us ≡ joined g i vs
  unfolding lists.joined lists.flag_lists
  rows_legible no_units no_units e i = refl
  rows_legible no_units (a_unit y rest) e i = never (cc)
  rows_legible (a_unit x rest) no_units e i = never (cc)
  rows_legible (a_unit {u = u} {us = us} x rest) (a_unit {u = v} {us = vs} y others) e i =
      let f : g.flags u ≡ g.flags v = cc in
      let h : flag_lists g us ≡ flag_lists g vs = cc in
      ap₂ (λ (a b : List Row). a ++ b) (unit_rows x y f i) (rows_legible rest others h i)
