-- The joined tables cover each sample of the accepted units once, and no other.
use Prim.Native.Nat.{ℕ, ◌+◌, ◌*◌, ◌<◌}
use mathlib.Core.Path.{◌≡◌, refl, sym, ap, ap₂, ◌∙◌}
use mathlib.Core.Bool.{Bool, true, false, ◌&&◌}
use mathlib.Core.List.{List, [], ◌∷◌}
use native.Mathlib.Omega.{arith}
use borrow.Author.Tests.{eqb-true}
use Rattle.sides.proofs.Bools.{and_left, and_right}
use Rattle.tree.specs.Splits.{bit}
use Rattle.laws.specs.Geometry.{copies}
use Rattle.laws.proofs.Copies.{copies_append}
use Rattle.sessions.specs.Lists as lists
use Rattle.sessions.specs.Samples as samples
use Rattle.sessions.specs.Samples.{in_square}
use Rattle.sessions.specs.Coding.{Coding}
use Rattle.sessions.specs.Demand.{joined, in_picture, in_units}
use Rattle.sessions.proofs.Counts.{both, either, picture_bit}
use Rattle.sessions.proofs.Forests.{forest_covered}
use Rattle.sessions.proofs.Laws.{Laws}
use Rattle.sessions.proofs.Units.{no_units, a_unit, Read, ReadFrom}

module _ {g : Coding} {first : ℕ} {next : ℕ → ℕ} {Due : ℕ → g.Session → Type 0} (l : Laws g first next Due) where
  module _ (px py : ℕ) where
    abbrev holder : ℕ
    holder = l.tiling.holder px py

    abbrev place : ℕ → ℕ
    place = l.order.place

    -- whether the sample is one of the unit at an address
    abbrev pub holds : ℕ → Bool
    holds a = in_square (g.square a) px py && in_picture g px py

    -- the rows of one unit
    unit_covered : (i : g.Table) {a : ℕ} {u : g.Taken} → Read l a u
        → copies px py (g.rows i u) ≡ bit (holds (g.address u)) 1
    unit_covered i {a} x =
        let good = l.trees.good a x.there in
        rw (x.rows i, x.at)
        (forest_covered g.width g.height g.cell l.trees.same i good x.forest px py
        ∙ ap₂ (λ m n. m * n) (l.trees.fill i a px py) (picture_bit px py g.width g.height)
        ∙ both (in_square (g.square a) px py) (in_picture g px py))

    -- the unit that holds a sample
    only_unit : (a : ℕ) → holds a ≡ true → a ≡ holder
    only_unit a h =
        let square = in_square (g.square a) px py in
        eqb-true a holder (sym (l.tiling.holds px py (and_right square _ h) a) ∙ and_left square _ h)

    -- is none of the units after it
    not_later : (a : ℕ) → holds a ≡ true → {b : ℕ} {us : List g.Taken} → ReadFrom l b us → place a < place b
        → in_units g us px py ≡ false
    unfolding samples.in_units
    not_later a e no_units h = refl
    not_later a e {b} (a_unit {u = u} x rest) h =
        let n = l.order.goes b x.there in
        rw (other (holds (g.address u)) refl) (not_later a e rest (omega arith))
      where
        other : (o : Bool) → holds (g.address u) ≡ o → holds (g.address u) ≡ false
        other true f =
            let i : a ≡ b = only_unit a e ∙ sym (only_unit (g.address u) f) ∙ x.at in
            absurd (omega (arith, ap place i))
        other false f = f

    pub units_covered : (i : g.Table) {a : ℕ} {us : List g.Taken} → ReadFrom l a us
        → copies px py (joined g i us) ≡ bit (in_units g us px py) 1
    unfolding lists.joined samples.in_units copies
    units_covered i no_units = refl
    units_covered i {a} (a_unit {u = u} {us = us} x rest) =
        let n = l.order.goes a x.there in
        copies_append px py (g.rows i u) (joined g i us)
        ∙ ap₂ (λ m n. m + n) (unit_covered i x) (units_covered i rest)
        ∙ either (holds (g.address u)) (in_units g us px py)
        (λ h. not_later (g.address u) h rest (omega (arith, ap place x.at)))

  -- so a unit has a row in every table: one with its corner
  pub some_row_lem : (i : g.Table) {a : ℕ} {u : g.Taken} {us : List g.Taken} → ReadFrom l a (u ∷ us)
      → ¬ ([] ≡ joined g i (u ∷ us))
  unfolding samples.in_units copies
  some_row_lem i {a} {u} {us} (a_unit x rest) e =
      let q = g.square a in
      let c = l.tiling.corner a x.there in
      let n = units_covered q.x q.y i (a_unit x rest) in
      let h : holds q.x q.y (g.address u) ≡ true = rw (x.at, c.0, c.1) in
      let m : copies q.x q.y (joined g i (u ∷ us)) ≡ 1 = n ∙ rw h in
      omega (arith, ap (λ r. copies q.x q.y r) e ∙ m)
