-- Multiples of m, and folds of m: m times a power of two.
use Rattle.std.specs.Prelude.{ℕ, ◌*◌, ◌^◌, ◌≡◌}

pub record Multiple (m n : ℕ) : Type 0 where
  pub times : ℕ
  pub is : n ≡ m * times

pub record Fold (m n : ℕ) : Type 0 where
  pub power : ℕ
  pub is : n ≡ m * 2 ^ power
