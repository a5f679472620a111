-- Where the units of a picture lie, and how many there are.
use Prim.Native.Nat.{ℕ, ◌+◌, ◌-◌, ◌*◌, ◌/◌, ◌^◌, ◌≤◌, ◌<◌}
use mathlib.Core.Path.{◌≡◌, refl}
use mathlib.Core.Bool.{Bool, true, false, cond}
use native.Mathlib.Nat.{add-mul, le-div_iff_mul-le, div-lt_iff_lt-mul, mod-lt, mul-le-mul}
use native.Mathlib.Omega.{arith}
use lib.Dec.{leb, eqb}
use borrow.Author.Tests.{leb-false, eqb-true, eqb-false}
use Rattle.sides.specs.Side.{exponent}
use Rattle.settings.specs.declared.Settings.{Settings}
use Rattle.settings.specs.Units.{units_over, count_in, square_in, Gridded, refusal_at}
use Rattle.settings.proofs.Passed.{Passed, unit_side}

module _ {side width height : ℕ} (g : Gridded side width height) where
  -- ---- the units over a length

  pub units_some : {n : ℕ} → 0 < n → 0 < units_over side n
  unfolding units_over
  units_some l = let s = g.least in (le-div_iff_mul-le {k = side} (omega arith)).1 (omega arith)

  -- each begins inside the length
  begins : (i n : ℕ) → i < units_over side n → i * side < n
  unfolding units_over
  begins i n h =
      let s = g.least in
      let q = (le-div_iff_mul-le {k = side} (omega arith)).0 h in
      omega arith

  -- as many as go over 16,384 samples
  units_few : {n : ℕ} → n ≤ 16384 → (most : ℕ) → 16384 ≤ most * side → units_over side n ≤ most
  unfolding units_over
  units_few {n} l most h =
      let s = g.least in
      let d = add-mul most 1 side in
      let q = (div-lt_iff_lt-mul {k = side} {x = n + (side - 1)} {y = most + 1} (omega arith)).1 (omega arith) in
      omega arith

  -- what `units_over` asks
  pub units_asks : {n : ℕ} → (0 < n) × (n ≤ 16384) → (side ≡ 2 ^ exponent side) × (side ≤ 128) × (0 < n) × (n ≤ 16384)
  units_asks l = (g.power, g.most, l.0, l.1)

  -- ---- the units of the picture

  few_units : (most : ℕ) → 16384 ≤ most * side → count_in side width height ≤ most * most
  unfolding count_in
  few_units most h = mul-le-mul (units_few g.wide.1 most h) (units_few g.high.1 most h)

  pub count_most : count_in side width height ≤ 1048576
  count_most = let s = g.least in few_units 1024 (omega arith)

  -- of H.266's sides
  pub count_of_32 : 32 ≤ side → count_in side width height ≤ 262144
  count_of_32 s = few_units 512 (omega arith)

  module _ (a : ℕ) (h : a < count_in side width height) where
    row_below : a / units_over side width < units_over side height
    unfolding count_in
    row_below = (div-lt_iff_lt-mul {k = units_over side width} (units_some g.wide.0)).1 (omega arith)

    pub corner_x : (square_in side width a).x < width
    unfolding square_in
    corner_x = begins _ width (mod-lt a (units_some g.wide.0))

    pub corner_y : (square_in side width a).y < height
    unfolding square_in
    corner_y = begins _ height row_below

-- settings that pass have such sides
pub gridded : {s : Settings} → Passed s → Gridded s.ctu s.width s.height
gridded p =
    let u = unit_side p.ctu in
    let w = p.width in
    let h = p.height in
    record { power = u.is; least = omega arith; most = u.most; wide = (w.positive, w.most); high = (h.positive, h.most) }

-- ---- a unit that is not refused

pub unit_taken : (refusal count a : ℕ) → refusal_at refusal count a ≡ 0 → (refusal ≡ 0) × (a < count)
unfolding refusal_at
unit_taken refusal count a = go (eqb refusal 0) (leb count a) refl refl
  where
    go : (x y : Bool) → eqb refusal 0 ≡ x → leb count a ≡ y → cond x (cond y 10 0) refusal ≡ 0 → (refusal ≡ 0) × (a < count)
    go true true p q h = absurd (omega arith)
    go true false p q h = (eqb-true refusal 0 p, leb-false count a q)
    go false y p q h = absurd (eqb-false refusal 0 p h)
