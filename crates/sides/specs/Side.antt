-- Sides: powers of two, stored by their exponent.
use Rattle.std.specs.Prelude.{ℕ, ◌≡◌, ◌^◌, ◌≤◌, Bool, ◌&&◌, leb, eqb}
use Rattle.std.specs.Int.Count.{count_trailing_zeros, ones}

-- Document 01, "A side is a power of two, and its exponent is stored in a row".
abbrev pub exponent : ℕ → ℕ
exponent n = count_trailing_zeros 32 n

-- A power of two from low to high.
abbrev pub side_from : ℕ → ℕ → ℕ → Bool
side_from low high n = eqb (ones n) 1 && leb low n && leb n high

-- The same as a fact, with the exponent that a row stores.
pub record Side (low high n : ℕ) : Type 0 where
  pub is : n ≡ 2 ^ exponent n
  pub least : low ≤ n
  pub most : n ≤ high
