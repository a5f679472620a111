-- A number with one digit set is the power of two that its exponent says.
use Prim.Native.Nat.{ℕ, zero, suc, ◌+◌, ◌-◌, ◌/◌, ◌%◌, ◌^◌, ◌≤◌, ◌<◌}
use mathlib.Core.Path.{◌≡◌, refl}
use mathlib.Core.Bool.{true, ◌&&◌}
use lib.Dec.{leb, eqb}
use lib.Count.{count_trailing_zeros, ones, ones_in, under, ones_step}
use lib.Bits.{bit_and, and_mask}
use borrow.Author.Tests.{leb-true, eqb-true}
use native.Mathlib.Omega.{arith}
use native.Mathlib.Nat.{pow-suc}
use Rattle.sides.specs.Side.{exponent, side_from, Side}
use Rattle.sides.proofs.Bools.{and_left, and_right}

-- no digit set: zero
no_ones : (d n : ℕ) → n < 2 ^ d → ones n ≡ 0 → n ≡ 0
no_ones zero n l h = omega arith
no_ones (suc d) n l h =
    let s = ones_step n in
    let p = pow-suc 2 d in
    let q = no_ones d (n / 2) (omega arith) (omega arith) in
    omega arith

-- one digit set: 2 to the number of zeros below it
module _ (n half : ℕ) (one : n % 2 + ones (n / 2) ≡ 1) where
  lowest : (b : ℕ) → n % 2 ≡ b → (n % 2 ≡ 0 → n / 2 ≡ 2 ^ half) → (n % 2 ≡ 1 → n / 2 ≡ 0) → n ≡ 2 ^ under b half
  lowest zero e even odd = let p = pow-suc 2 half in let q = even e in omega arith
  lowest (suc zero) e even odd = let q = odd e in omega arith
  lowest (suc (suc b)) e even odd = absurd (omega arith)

one_digit : (d n : ℕ) → n < 2 ^ d → ones n ≡ 1 → n ≡ 2 ^ count_trailing_zeros d n
unfolding count_trailing_zeros ones ones_in
one_digit zero n l h = let z : n ≡ 0 = omega arith in let o : ◌≡◌ {A = ℕ} 0 1 = rw z at h in absurd (omega arith)
one_digit (suc d) n l h =
    let s = ones_step n in
    let p = pow-suc 2 d in
    lowest n (count_trailing_zeros d (n / 2)) (omega arith) (n % 2) refl
    (λ even. one_digit d (n / 2) (omega arith) (omega arith)) (λ odd. no_ones d (n / 2) (omega arith) (omega arith))

-- a side is 2 to its exponent
pub power : (n : ℕ) → n < 2 ^ 32 → ones n ≡ 1 → n ≡ 2 ^ exponent n
power n l h = one_digit 32 n l h

-- ---- a side in a range

pub side : (low high n : ℕ) → high < 2 ^ 32 → side_from low high n ≡ true → Side low high n
side low high n l h =
    let a = and_left (eqb (ones n) 1 && leb low n) (leb n high) h in
    let m = leb-true n high (and_right (eqb (ones n) 1 && leb low n) (leb n high) h) in
    record {
      is = power n (omega arith) (eqb-true (ones n) 1 (and_left (eqb (ones n) 1) (leb low n) a));
      least = leb-true low n (and_right (eqb (ones n) 1) (leb low n) a);
      most = m;
    }

-- a mask of a power of two, less 1, is the remainder by it
pub mask_is_remainder : (k m n : ℕ) → m ≡ 2 ^ k → bit_and n (m - 1) ≡ n % m
mask_is_remainder k m n e = rw e (and_mask n k)
