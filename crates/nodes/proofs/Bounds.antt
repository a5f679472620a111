-- A bound of a side.
use Rattle.std.proofs.Common.{ℕ, ◌^◌, ◌<◌, ◌≤◌, arith}
use native.Mathlib.Nat.{pow-le-pow_right}

-- a side from an exponent of three bits
pub side_small : {e : ℕ} → e < 8 → 2 ^ e ≤ 128
side_small {e} h = pow-le-pow_right {n = 2} (omega arith) {i = e} {j = 7} (omega arith)
