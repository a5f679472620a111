-- Squares that tile a picture: each of its samples lies in the square of one unit, and each unit has a sample.
use Prim.Native.Nat.{ℕ, ◌<◌}
use mathlib.Core.Path.{◌≡◌}
use mathlib.Core.Bool.{true}
use lib.Dec.{eqb}
use Rattle.settings.specs.declared.Square.{Square}
use Rattle.sessions.specs.Samples.{in_square, is_sample}

pub record Tiling (width height count : ℕ) (square : ℕ → Square) : Type 0 where
  -- the address of the unit that holds a sample
  pub holder : ℕ → ℕ → ℕ
  pub there : (px py : ℕ) → is_sample width height px py ≡ true → holder px py < count
  pub holds : (px py : ℕ) → is_sample width height px py ≡ true
      → (a : ℕ) → in_square (square a) px py ≡ eqb a (holder px py)
  -- a unit's corner is a sample of it
  pub corner : (a : ℕ) → a < count
      → (in_square (square a) (square a).x (square a).y ≡ true)
      × (is_sample width height (square a).x (square a).y ≡ true)
