-- The digits of a number: those of its tenth, then the last one.
use Prim.Native.Nat.{ℕ, zero, suc, ◌+◌, ◌/◌, ◌%◌, ◌^◌, ◌≤◌, ◌<◌}
use mathlib.Core.Path.{◌≡◌}
use mathlib.Core.List.{[], ◌∷◌, ◌++◌}
use native.Mathlib.Omega.{arith}
use native.Mathlib.Nat.{pow-suc}
use native.Mathlib.Decide.{dec_lt}
use lib.ListN.{length, length-append}
use borrow.Author.Tests.{lt-ltb, le-ltb}
use Rattle.page.specs.Lines.{digits_in, digits}

-- how many there may be plays no part where it is enough
enough : (j k n : ℕ) → n < j → n < k → digits_in j n ≡ digits_in k n
unfolding digits_in
enough zero k n h i = absurd (omega arith)
enough (suc j) zero n h i = absurd (omega arith)
enough (suc j) (suc k) n h i = go (dec_lt n 10) (λ large. enough j k (n / 10) (omega arith) (omega arith))
  where
    go : Dec (n < 10) → (10 ≤ n → digits_in j (n / 10) ≡ digits_in k (n / 10)) → digits_in (suc j) n ≡ digits_in (suc k) n
    go (yes small) front = rw (lt-ltb n 10 small)
    go (no large) front = rw (le-ltb n 10 (omega arith), front (omega arith))

pub digits_one : (n : ℕ) → n < 10 → digits n ≡ (48 + n) ∷ []
unfolding digits digits_in
digits_one n h = rw (lt-ltb n 10 h)

pub digits_more : (n : ℕ) → 10 ≤ n → digits n ≡ digits (n / 10) ++ ((48 + n % 10) ∷ [])
unfolding digits digits_in
digits_more n h = rw (le-ltb n 10 h, enough n (suc (n / 10)) (n / 10) (omega arith) (omega arith))

-- a tenth is below the power of ten before
pub tenth : (w n : ℕ) → n < 10 ^ suc w → n / 10 < 10 ^ w
tenth w n h = let e = pow-suc 10 w in omega arith

-- a number below a power of ten has no more digits than that power's exponent says
pub digits_few : (w n : ℕ) → n < 10 ^ suc w → length (digits n) ≤ suc w
digits_few zero n h = rw (digits_one n h) (omega arith)
digits_few (suc w) n h = go (dec_lt n 10) (digits_few w (n / 10) (tenth (suc w) n h))
  where
    go : Dec (n < 10) → length (digits (n / 10)) ≤ suc w → length (digits n) ≤ suc (suc w)
    go (yes small) few = rw (digits_one n small) (omega arith)
    go (no large) few = rw (digits_more n (omega arith), length-append) (omega arith)
