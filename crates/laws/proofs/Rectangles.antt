-- A rectangle holds a sample once or not at all, and where it does, the sample lies between its sides.
use Prim.Native.Nat.{ℕ, zero, suc, ◌+◌, ◌*◌, ◌≤◌, ◌<◌}
use mathlib.Core.Path.{◌≡◌}
use native.Mathlib.Omega.{arith}
use native.Mathlib.Decide.{dec_lt}
use Rattle.laws.specs.Geometry.{span, rectangle}
use Rattle.laws.proofs.Cover.{span_in_lem, span_before, span_after}

-- ---- in one dimension

-- p is one of the l samples from a on
pub record Between (a l p : ℕ) : Type 0 where
  pub low : a ≤ p
  pub high : p < a + l

between : (a l p : ℕ) → 0 < span a l p → Between a l p
between a l p some = go (dec_lt p a) (dec_lt p (a + l))
  where
    go : Dec (p < a) → Dec (p < a + l) → Between a l p
    go (yes h) _ = let e = span_before a l p h in absurd (omega arith)
    go (no h) (yes k) = record { low = omega arith; high = k }
    go (no h) (no k) = let e = span_after a l p (omega arith) in absurd (omega arith)

-- ---- samples

-- two numbers whose product is not 0
pub both_some : (a b : ℕ) → 0 < a * b → (0 < a) × (0 < b)
both_some zero b h = absurd (omega arith)
both_some (suc a) zero h = absurd (omega arith)
both_some (suc a) (suc b) h = (omega arith, omega arith)

module _ (x y w h px py : ℕ) where
  pub rectangle_in : Between x w px → Between y h py → rectangle x y w h px py ≡ 1
  rectangle_in a b = rw (span_in_lem x w px a.low a.high, span_in_lem y h py b.low b.high)

  pub in_rectangle : 0 < rectangle x y w h px py → Between x w px × Between y h py
  in_rectangle some = let b = both_some (span x w px) (span y h py) some in (between x w px b.0, between y h py b.1)

  pub rectangle_most : rectangle x y w h px py ≤ 1
  rectangle_most = go (dec_lt 0 (rectangle x y w h px py))
    where
      go : Dec (0 < rectangle x y w h px py) → rectangle x y w h px py ≤ 1
      go (yes some) = let i = in_rectangle some in let e = rectangle_in i.0 i.1 in omega arith
      go (no none) = omega arith
