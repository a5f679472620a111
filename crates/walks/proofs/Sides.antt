-- What the code needs of the six sides that a node may have: exponents, and their masks in a table.
use Prim.Native.Nat.{ℕ, zero, suc, ◌+◌, ◌*◌, ◌/◌, ◌^◌, ◌≤◌, ◌<◌}
use mathlib.Core.Path.{◌≡◌, refl}
use mathlib.Core.Bool.{false, not, ◌&&◌}
use lib.Dec.{leb, ltb}
use lib.Count.{count_trailing_zeros}
use lib.ListN.{get_or}
use borrow.Author.Tests.{lt-ltb, le-ltb, le-leb, lt-leb}
use native.Mathlib.Omega.{arith}
use native.Mathlib.Decide.{dec_lt}
use Rattle.sides.proofs.Bools.{and_no}
use Rattle.sides.specs.Side.{exponent}
use Rattle.tree.specs.Kind.{Kind}
use Rattle.laws.proofs.Sides.{One, one_4, one_8, one_16, one_32, one_64, one_128}
use Rattle.nodes.specs.Tables.{width_mask, height_mask, area_mask, table_of}
use Rattle.nodes.specs.RowNodes.{fall}

pub one_least : {n : ℕ} → One n → 4 ≤ n
one_least one_4 = omega arith
one_least one_8 = omega arith
one_least one_16 = omega arith
one_least one_32 = omega arith
one_least one_64 = omega arith
one_least one_128 = omega arith

-- ---- its exponent

pub record Exponent (n : ℕ) : Type 0 where
  pub small : exponent n < 8
  pub back : 2 ^ exponent n ≡ n

pub exponent_of : {n : ℕ} → One n → Exponent n
unfolding count_trailing_zeros
exponent_of one_4 = record { small = omega arith; back = refl }
exponent_of one_8 = record { small = omega arith; back = refl }
exponent_of one_16 = record { small = omega arith; back = refl }
exponent_of one_32 = record { small = omega arith; back = refl }
exponent_of one_64 = record { small = omega arith; back = refl }
exponent_of one_128 = record { small = omega arith; back = refl }

-- ---- its masks in a table

pub width_mask_lem : (k : Kind) {n : ℕ} → One n → get_or (table_of k) (6 + exponent n) 0 ≡ width_mask k n
unfolding count_trailing_zeros table_of
width_mask_lem k one_4 = refl
width_mask_lem k one_8 = refl
width_mask_lem k one_16 = refl
width_mask_lem k one_32 = refl
width_mask_lem k one_64 = refl
width_mask_lem k one_128 = refl

pub height_mask_lem : (k : Kind) {n : ℕ} → One n → get_or (table_of k) (12 + exponent n) 0 ≡ height_mask k n
unfolding count_trailing_zeros table_of
height_mask_lem k one_4 = refl
height_mask_lem k one_8 = refl
height_mask_lem k one_16 = refl
height_mask_lem k one_32 = refl
height_mask_lem k one_64 = refl
height_mask_lem k one_128 = refl

pub area_mask_lem : (k : Kind) {w h : ℕ} → One w → One h → get_or (table_of k) (16 + (exponent w + exponent h)) 0 ≡ area_mask k (w / 2 * (h / 2))
unfolding count_trailing_zeros table_of
area_mask_lem k one_4 one_4 = refl
area_mask_lem k one_4 one_8 = refl
area_mask_lem k one_4 one_16 = refl
area_mask_lem k one_4 one_32 = refl
area_mask_lem k one_4 one_64 = refl
area_mask_lem k one_4 one_128 = refl
area_mask_lem k one_8 one_4 = refl
area_mask_lem k one_8 one_8 = refl
area_mask_lem k one_8 one_16 = refl
area_mask_lem k one_8 one_32 = refl
area_mask_lem k one_8 one_64 = refl
area_mask_lem k one_8 one_128 = refl
area_mask_lem k one_16 one_4 = refl
area_mask_lem k one_16 one_8 = refl
area_mask_lem k one_16 one_16 = refl
area_mask_lem k one_16 one_32 = refl
area_mask_lem k one_16 one_64 = refl
area_mask_lem k one_16 one_128 = refl
area_mask_lem k one_32 one_4 = refl
area_mask_lem k one_32 one_8 = refl
area_mask_lem k one_32 one_16 = refl
area_mask_lem k one_32 one_32 = refl
area_mask_lem k one_32 one_64 = refl
area_mask_lem k one_32 one_128 = refl
area_mask_lem k one_64 one_4 = refl
area_mask_lem k one_64 one_8 = refl
area_mask_lem k one_64 one_16 = refl
area_mask_lem k one_64 one_32 = refl
area_mask_lem k one_64 one_64 = refl
area_mask_lem k one_64 one_128 = refl
area_mask_lem k one_128 one_4 = refl
area_mask_lem k one_128 one_8 = refl
area_mask_lem k one_128 one_16 = refl
area_mask_lem k one_128 one_32 = refl
area_mask_lem k one_128 one_64 = refl
area_mask_lem k one_128 one_128 = refl

-- ---- a part of it

half_falls : {n : ℕ} → One n → 4 ≤ n / 4 * 2 → exponent (n / 4 * 2) + 1 ≡ exponent n
unfolding count_trailing_zeros
half_falls one_4 h = absurd (omega arith)
half_falls one_8 h = refl
half_falls one_16 h = refl
half_falls one_32 h = refl
half_falls one_64 h = refl
half_falls one_128 h = refl

quarter_falls : {n : ℕ} → One n → 4 ≤ n / 4 * 1 → exponent (n / 4 * 1) + 2 ≡ exponent n
unfolding count_trailing_zeros
quarter_falls one_4 h = absurd (omega arith)
quarter_falls one_8 h = absurd (omega arith)
quarter_falls one_16 h = refl
quarter_falls one_32 h = refl
quarter_falls one_64 h = refl
quarter_falls one_128 h = refl

whole_falls : {n : ℕ} → One n → exponent (n / 4 * 4) + 0 ≡ exponent n
unfolding count_trailing_zeros
whole_falls one_4 = refl
whole_falls one_8 = refl
whole_falls one_16 = refl
whole_falls one_32 = refl
whole_falls one_64 = refl
whole_falls one_128 = refl

-- so many quarters of a side have an exponent less by their fall
pub exponent_falls : {n : ℕ} → One n → (q : ℕ) → 4 ≤ n / 4 * q → q ≤ 4 → ¬ (q ≡ 3) → exponent (n / 4 * q) + fall q ≡ exponent n
exponent_falls o zero h k t = absurd (omega arith)
exponent_falls o (suc zero) h k t = quarter_falls o h
exponent_falls o (suc (suc zero)) h k t = half_falls o h
exponent_falls o (suc (suc (suc zero))) h k t = absurd (t refl)
exponent_falls o (suc (suc (suc (suc zero)))) h k t = whole_falls o
exponent_falls o (suc (suc (suc (suc (suc q))))) h k t = absurd (omega arith)

pub not_large : (n : ℕ) → ltb 64 n ≡ not (leb n 64)
not_large n = go (dec_lt 64 n)
  where
    go : Dec (64 < n) → ltb 64 n ≡ not (leb n 64)
    go (yes h) = rw (lt-ltb 64 n h, lt-leb n 64 h)
    go (no h) = rw (le-ltb 64 n (omega arith), le-leb n 64 (omega arith))

-- ---- a node that is not 128 by 128: a side above 64 leaves the other one at most 64

at_most_64 : {n : ℕ} → One n → n < 128 → n ≤ 64
at_most_64 one_4 h = omega arith
at_most_64 one_8 h = omega arith
at_most_64 one_16 h = omega arith
at_most_64 one_32 h = omega arith
at_most_64 one_64 h = omega arith
at_most_64 one_128 h = absurd (omega arith)

pub not_narrow : {w h : ℕ} → One w → One h → w + h < 256 → not (leb h 64 && ltb 64 w) ≡ leb w 64
not_narrow {w} {h} a b s = go (dec_lt w 128)
  where
    go : Dec (w < 128) → not (leb h 64 && ltb 64 w) ≡ leb w 64
    go (yes k) = let m = at_most_64 a k in rw (le-ltb 64 w m, le-leb w 64 m, and_no (leb h 64) false refl)
    go (no k) = rw (lt-ltb 64 w (omega arith), lt-leb w 64 (omega arith), le-leb h 64 (at_most_64 b (omega arith)))
