-- The numbers in the forms that code has at hand: exponents for sides, and the open splits as one number.
use Prim.Native.Nat.{ℕ, ◌+◌, ◌^◌, ◌≤◌, ◌<◌}
use mathlib.Core.Path.{◌≡◌, refl}
use lib.Pow.{pow-lt, pow_mono}
use lib.Dec.{ltb, eqb}
use lib.Bits.{bit_and}
use lib.Count.{ones, ones_in}
use borrow.Author.Tests.{lt-ltb, le-ltb, eqb-true}
use native.Mathlib.Omega.{arith}
use native.Mathlib.Decide.{dec_lt}
use Rattle.sides.specs.Side.{exponent}
use Rattle.tree.specs.Splits.{Rights, open_splits}
use Rattle.laws.proofs.Leaves.{side_is}
use Rattle.laws.proofs.Rights.{at_rights}
use Rattle.laws.specs.Shape.{Side}
use Rattle.numbers.specs.Numbers.{open_twice}

-- a side is below another one where its exponent is
pub below_by_exponents : (e : ℕ) {w : ℕ} → Side w → ltb (2 ^ e) w ≡ ltb e (exponent w)
below_by_exponents e {w} s = go (dec_lt e (exponent w))
  where
    go : Dec (e < exponent w) → ltb (2 ^ e) w ≡ ltb e (exponent w)
    go (yes h) = let p = pow-lt h in let i = side_is s in rw (lt-ltb (2 ^ e) w (omega arith), lt-ltb e (exponent w) h)
    go (no h) =
        let l : exponent w ≤ e = omega arith in
        let p = pow_mono l in
        let i = side_is s in
        rw (le-ltb e (exponent w) (omega arith), le-ltb (2 ^ e) w (omega arith))

-- all open splits, QT twice: the digits of the number of open splits, and its lowest one again
pub twice_by_number : (r : Rights) → open_twice r ≡ ones (open_splits r) + bit_and (open_splits r) 1
unfolding ones ones_in open_splits
twice_by_number r = eqb-true _ _ (at_rights (λ r. eqb (open_twice r) (ones (open_splits r) + bit_and (open_splits r) 1)) refl r)
