-- Sides in the order of their exponents.
use Prim.Native.Nat.{ℕ, ◌^◌, ◌≤◌, ◌<◌, max}
use mathlib.Core.Path.{◌≡◌}
use native.Mathlib.Decide.{dec_lt}
use native.Mathlib.Omega.{arith}
use lib.Count.{count_trailing_zeros}
use lib.Pow.{pow-lt}
use Rattle.sides.specs.Side.{exponent}

pub below : (i j : ℕ) → 2 ^ i ≤ 2 ^ j → i ≤ j
below i j h = go (dec_lt j i)
  where
    go : Dec (j < i) → i ≤ j
    go (yes l) = let p = pow-lt l in absurd (omega arith)
    go (no l) = omega arith

pub exponents : {m n : ℕ} → m ≡ 2 ^ exponent m → n ≡ 2 ^ exponent n → m ≤ n → exponent m ≤ exponent n
exponents {m} {n} p q h = below (exponent m) (exponent n) (omega arith)

-- the larger of 8 and a side is a side
larger : (n : ℕ) → n ≡ 2 ^ exponent n → Dec (8 < n) → max 8 n ≡ 2 ^ exponent (max 8 n)
unfolding count_trailing_zeros
larger n h (yes l) = let e : max 8 n ≡ n = omega arith in rw e h
larger n h (no l) = let e : max 8 n ≡ 8 = omega arith in rw e

pub larger_side : (n : ℕ) → n ≡ 2 ^ exponent n → max 8 n ≡ 2 ^ exponent (max 8 n)
larger_side n h = larger n h (dec_lt 8 n)
