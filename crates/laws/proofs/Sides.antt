-- The six sides that a node may have, one by one.
use Prim.Native.Nat.{ℕ, zero, suc, ◌*◌, ◌^◌, ◌≤◌}
use mathlib.Core.Path.{◌≡◌}
use mathlib.Core.Bool.{Bool, true, ◌&&◌}
use native.Mathlib.Omega.{arith}
use Rattle.sides.proofs.Bools.{and_left, and_right}
use Rattle.laws.specs.Shape.{Side}
use Rattle.laws.proofs.Shape.{side_power}

pub data One : ℕ → Type 0 where
  one_4 : One 4
  one_8 : One 8
  one_16 : One 16
  one_32 : One 32
  one_64 : One 64
  one_128 : One 128

pub one_of : {n : ℕ} → Side n → One n
one_of {n} s = go s.fold.power s.fold.is (side_power s)
  where
    go : (p : ℕ) → n ≡ 4 * 2 ^ p → p ≤ 5 → One n
    go zero e h = rw e one_4
    go (suc zero) e h = rw e one_8
    go (suc (suc zero)) e h = rw e one_16
    go (suc (suc (suc zero))) e h = rw e one_32
    go (suc (suc (suc (suc zero)))) e h = rw e one_64
    go (suc (suc (suc (suc (suc zero))))) e h = rw e one_128
    go (suc (suc (suc (suc (suc (suc p)))))) e h = absurd (omega arith)

-- a test that computes to true for the six holds of every side
abbrev pub for_sides : (ℕ → Bool) → Bool
for_sides f = f 4 && (f 8 && (f 16 && (f 32 && (f 64 && f 128))))

pub at_side : (f : ℕ → Bool) → for_sides f ≡ true → {n : ℕ} → One n → f n ≡ true
at_side f h one_4 = and_left (f 4) _ h
at_side f h one_8 = and_left (f 8) _ (and_right (f 4) _ h)
at_side f h one_16 = and_left (f 16) _ (and_right (f 8) _ (and_right (f 4) _ h))
at_side f h one_32 = and_left (f 32) _ (and_right (f 16) _ (and_right (f 8) _ (and_right (f 4) _ h)))
at_side f h one_64 = and_left (f 64) _ (and_right (f 32) _ (and_right (f 16) _ (and_right (f 8) _ (and_right (f 4) _ h))))
at_side f h one_128 = and_right (f 64) _ (and_right (f 32) _ (and_right (f 16) _ (and_right (f 8) _ (and_right (f 4) _ h))))
