-- As many units as the picture has are all of its samples.
use Prim.Native.Nat.{ℕ, ◌+◌, ◌<◌, ◌≤◌}
use mathlib.Core.Path.{◌≡◌, refl, ◌∙◌}
use mathlib.Core.Bool.{Bool, true, false, ◌||◌}
use mathlib.Core.List.{List, [], ◌∷◌}
use native.Mathlib.Omega.{arith}
use native.Mathlib.Decide.{ℕ_discrete}
use lib.ListN.{length}
use borrow.Author.Tests.{eq-eqb}
use Rattle.sides.proofs.Bools.{and_no, or_right}
use Rattle.sessions.specs.Samples as samples
use Rattle.sessions.specs.Samples.{in_square}
use Rattle.sessions.specs.Coding.{Coding}
use Rattle.sessions.specs.Demand.{in_picture, in_units}
use Rattle.sessions.proofs.Laws.{Laws}
use Rattle.sessions.proofs.Units.{no_units, a_unit, Read, ReadFrom}
use Rattle.sessions.proofs.Covered.{holds}

module _ {g : Coding} {first : ℕ} {next : ℕ → ℕ} {Due : ℕ → g.Session → Type 0} (l : Laws g first next Due)
    (px py : ℕ) where
  abbrev holder : ℕ
  holder = l.tiling.holder px py

  abbrev place : ℕ → ℕ
  place = l.order.place

  -- outside the picture
  pub none_outside : (us : List g.Taken) → in_picture g px py ≡ false → in_units g us px py ≡ false
  unfolding samples.in_units
  none_outside [] h = refl
  none_outside (u ∷ us) h = rw (h, and_no (in_square (g.square (g.address u)) px py) false refl) (none_outside us h)

  -- inside, the unit that holds the sample is there
  module _ (h : in_picture g px py ≡ true) where
    holds_own : (a : ℕ) → a ≡ holder → holds l px py a ≡ true
    holds_own a e = rw (l.tiling.holds px py h a, eq-eqb a holder e, h)

    above : (a : ℕ) → (place a ≡ place holder → ⊥) → place (next a) ≡ place a + 1 → place a ≤ place holder
        → place (next a) ≤ place holder
    above a differ goes le = omega arith

    found_step : {a : ℕ} {u : g.Taken} (us : List g.Taken) → Read l a u
        → (place (next a) ≤ place holder → in_units g us px py ≡ true) → place a ≤ place holder → Dec (a ≡ holder)
        → (holds l px py (g.address u) || in_units g us px py) ≡ true
    found_step {u = u} us x later le (yes e) = rw (holds_own (g.address u) (x.at ∙ e))
    found_step {a} {u} us x later le (no e) =
        let n = l.order.goes a x.there in
        let m = l.order.once a holder x.there (l.tiling.there px py h) in
        or_right (holds l px py (g.address u)) _ (later (above a (λ q. e (m q)) n le))

    found_unit : {a : ℕ} {us : List g.Taken} → ReadFrom l a us → place a ≤ place holder
        → place holder < place a + length us → in_units g us px py ≡ true
    unfolding samples.in_units
    found_unit no_units le lt = absurd (omega arith)
    found_unit {a} (a_unit {u = u} {us = us} x rest) le lt =
        let n = l.order.goes a x.there in
        found_step us x (λ i. found_unit rest i (omega arith)) le (ℕ_discrete a holder)

  pub units_complete : {us : List g.Taken} → ReadFrom l first us → length us ≡ g.count
      → in_units g us px py ≡ in_picture g px py
  units_complete {us} units e = go (in_picture g px py) refl
    where
      go : (b : Bool) → in_picture g px py ≡ b → in_units g us px py ≡ b
      go true h =
          let z = l.order.starts in
          let b = l.order.below holder (l.tiling.there px py h) in
          found_unit h units (omega arith) (omega arith)
      go false h = none_outside us h
