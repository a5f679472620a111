-- Numbers of open splits in the operation `bit_and`.
use Prim.Native.Nat.{ℕ, ◌+◌, ◌*◌, ◌<◌}
use mathlib.Core.Path.{◌≡◌, refl, ap, ◌∙◌}
use mathlib.Core.Bool.{Bool, true, false, ◌&&◌}
use lib.Bits.{bit_and, and_block, and_zero_r}
use native.Mathlib.Omega.{arith}
use Rattle.tree.specs.declared.Direction.TheVariants.{Horizontal, Vertical}
use Rattle.tree.specs.Splits.{bit, Rights, open_splits}
use Rattle.laws.proofs.Tests.{bit_most}
use Rattle.nodes.specs.Tables.{both}

pub bit_is : (a : Bool) (k : ℕ) → bit a k ≡ bit a 1 * k
bit_is true k = omega arith
bit_is false k = omega arith

-- ---- a number and one binary digit below it

abbrev under : ℕ → Bool → ℕ
under m a = m * 2 + bit a 1

bit_and_lem : (a b : Bool) → bit_and (bit a 1) (bit b 1) ≡ bit (a && b) 1
bit_and_lem true true = refl
bit_and_lem true false = refl
bit_and_lem false true = refl
bit_and_lem false false = refl

under_and : (m n : ℕ) (a b : Bool) → bit_and (under m a) (under n b) ≡ under (bit_and m n) (a && b)
under_and m n a b =
    let p = bit_most a 1 in
    let q = bit_most b 1 in
    and_block 1 m n (bit a 1) (bit b 1) (omega arith) (omega arith) ∙ ap (λ k. bit_and m n * 2 + k) (bit_and_lem a b)

-- ---- the five digits of open splits

abbrev five : Rights → ℕ
five r = under (under (under (under (bit (r.ternary Vertical) 1) (r.ternary Horizontal)) (r.binary Vertical)) (r.binary Horizontal)) r.quad

five_is : (r : Rights) → open_splits r ≡ five r
unfolding open_splits
five_is r =
    let a = bit_is (r.binary Horizontal) 2 in
    let b = bit_is (r.binary Vertical) 4 in
    let c = bit_is (r.ternary Horizontal) 8 in
    let d = bit_is (r.ternary Vertical) 16 in
    omega arith

five_and : (a b : Rights) → bit_and (five a) (five b) ≡ five (both a b)
five_and a b =
    under_and _ _ a.quad b.quad
    ∙ ap (λ m. under m (a.quad && b.quad)) (under_and _ _ (a.binary Horizontal) (b.binary Horizontal)
    ∙ ap (λ m. under m (a.binary Horizontal && b.binary Horizontal)) (under_and _ _ (a.binary Vertical) (b.binary Vertical)
    ∙ ap (λ m. under m (a.binary Vertical && b.binary Vertical)) (under_and _ _ (a.ternary Horizontal) (b.ternary Horizontal)
    ∙ ap (λ m. under m (a.ternary Horizontal && b.ternary Horizontal)) (bit_and_lem (a.ternary Vertical) (b.ternary Vertical)))))

pub splits_small : (r : Rights) → open_splits r < 32
unfolding open_splits
splits_small r =
    let a = bit_most r.quad 1 in
    let b = bit_most (r.binary Horizontal) 2 in
    let c = bit_most (r.binary Vertical) 4 in
    let d = bit_most (r.ternary Horizontal) 8 in
    let e = bit_most (r.ternary Vertical) 16 in
    omega arith

pub splits_and : (a b : Rights) → bit_and (open_splits a) (open_splits b) ≡ open_splits (both a b)
splits_and a b = rw (five_is a, five_is b, five_is (both a b)) (five_and a b)

-- what stands above the five digits does not matter
pub and_splits : (k : ℕ) (a b : Rights) → bit_and (k * 32 + open_splits a) (open_splits b) ≡ open_splits (both a b)
and_splits k a b =
    let z = and_zero_r k in
    let n : open_splits b ≡ 0 * 32 + open_splits b = omega arith in
    let e : bit_and (k * 32 + open_splits a) (0 * 32 + open_splits b) ≡ bit_and k 0 * 32 + bit_and (open_splits a) (open_splits b) = and_block 5 k 0 (open_splits a) (open_splits b) (splits_small a) (splits_small b) in
    let f : bit_and k 0 * 32 + bit_and (open_splits a) (open_splits b) ≡ bit_and (open_splits a) (open_splits b) = omega arith in
    ap (λ s. bit_and (k * 32 + open_splits a) s) n ∙ e ∙ f ∙ splits_and a b
