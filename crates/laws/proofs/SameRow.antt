-- `is_same_row` tests whether two rows are equal.
use mathlib.Core.Path.{◌≡◌, refl}
use mathlib.Core.Bool.{Bool, true, false, ◌&&◌}
use lib.Dec.{eqb}
use borrow.Author.Tests.{eqb-true, eq-eqb}
use Rattle.sides.proofs.Bools.{and_left, and_right}
use Rattle.tree.specs.Rows.{Row}
use Rattle.tree.specs.Back.{is_same_row}
use Rattle.laws.proofs.Tests.{and_four}

pub same_self : (r : Row) → is_same_row r r ≡ true
unfolding is_same_row
same_self r = rw (eq-eqb r.x r.x refl, eq-eqb r.y r.y refl, eq-eqb r.ew r.ew refl, eq-eqb r.eh r.eh refl, eq-eqb r.qt r.qt refl, eq-eqb r.mtt r.mtt refl)

pub same_row : (a b : Row) → is_same_row a b ≡ true → a ≡ b
unfolding is_same_row
same_row a b h =
    let five = and_left (eqb a.x b.x && eqb a.y b.y && eqb a.ew b.ew && eqb a.eh b.eh && eqb a.qt b.qt) _ h in
    let four = and_left (eqb a.x b.x && eqb a.y b.y && eqb a.ew b.ew && eqb a.eh b.eh) _ five in
    let t = and_four (eqb a.x b.x) _ _ _ four in
    λ i. record {
      x = eqb-true a.x b.x t.0 i;
      y = eqb-true a.y b.y t.1 i;
      ew = eqb-true a.ew b.ew t.2 i;
      eh = eqb-true a.eh b.eh t.3 i;
      qt = eqb-true a.qt b.qt (and_right (eqb a.x b.x && eqb a.y b.y && eqb a.ew b.ew && eqb a.eh b.eh) _ five) i;
      mtt = eqb-true a.mtt b.mtt (and_right (eqb a.x b.x && eqb a.y b.y && eqb a.ew b.ew && eqb a.eh b.eh && eqb a.qt b.qt) _ h) i;
    }

pub other_row : (a b : Row) → ¬ (a ≡ b) → is_same_row a b ≡ false
other_row a b differs = go (is_same_row a b) refl
  where
    go : (s : Bool) → is_same_row a b ≡ s → s ≡ false
    go true e = absurd (differs (same_row a b e))
    go false e = refl
