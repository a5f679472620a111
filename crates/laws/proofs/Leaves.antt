-- Where rows start and end, by direction: the row of a leaf starts and ends where its node does.
use Prim.Native.Nat.{ℕ, zero, suc, ◌+◌, ◌/◌, ◌%◌, ◌^◌, ◌<◌}
use mathlib.Core.Path.{◌≡◌, refl, sym, ap, ◌∙◌}
use lib.Pow.{pow-add}
use lib.Count.{count_trailing_zeros}
use native.Mathlib.Omega.{arith}
use native.Mathlib.Nat.{pow-suc}
use Rattle.sides.specs.Side.{exponent}
use Rattle.tree.specs.declared.Node.{Node}
use Rattle.tree.specs.declared.Direction.{Direction}
use Rattle.tree.specs.declared.Direction.TheVariants.{Horizontal, Vertical}
use Rattle.tree.specs.Splits.{pick, along}
use Rattle.tree.specs.Rows.{Row, row_of}
use Rattle.laws.specs.Directions.{corner}
use Rattle.laws.specs.Shape.{Side, Shape}
use Rattle.laws.proofs.Slabs.{far}
use Rattle.laws.proofs.Shape.{side_power}

-- where a row starts, its side and where it ends, in the dimension that a cut of direction e divides
abbrev pub row_start : Direction → Row → ℕ
row_start e r = pick e r.y r.x

abbrev pub row_exponent : Direction → Row → ℕ
row_exponent e r = pick e r.eh r.ew

abbrev pub row_side : Direction → Row → ℕ
row_side e r = 2 ^ row_exponent e r

abbrev pub row_end : Direction → Row → ℕ
row_end e r = row_start e r + row_side e r

-- a row that ends at a place
abbrev pub EndsAt : (Direction → ℕ) → Row → Type 0
EndsAt goal r = (e : Direction) → row_end e r ≡ goal e

-- 2 to a side's exponent is the side
trailing_power : (d j : ℕ) → j < d → count_trailing_zeros d (2 ^ j) ≡ j
unfolding count_trailing_zeros
trailing_power zero j h = absurd (omega arith)
trailing_power (suc d) zero h = refl
trailing_power (suc d) (suc j) h =
    let p = pow-suc 2 j in
    let e : 2 ^ suc j / 2 ≡ 2 ^ j = omega arith in
    let z : 2 ^ suc j % 2 ≡ 0 = omega arith in
    rw (z, e) (ap suc (trailing_power d j (omega arith)))

module _ {n : ℕ} (s : Side n) where
  side_two : n ≡ 2 ^ (2 + s.fold.power)
  side_two = s.fold.is ∙ sym (pow-add 2 2 s.fold.power)

  pub side_exponent : exponent n ≡ 2 + s.fold.power
  side_exponent = let b = side_power s in rw side_two (trailing_power 32 (2 + s.fold.power) (omega arith))

  pub side_is : 2 ^ exponent n ≡ n
  side_is = rw side_exponent (sym side_two)

pub leaf_start : (n : Node) (e : Direction) → row_start e (row_of n) ≡ corner e n
unfolding row_of
leaf_start n Horizontal = refl
leaf_start n Vertical = refl

pub leaf_side : {n : Node} → Shape n → (e : Direction) → row_side e (row_of n) ≡ along e n
unfolding row_of
leaf_side sh Horizontal = side_is (sh.side Horizontal)
leaf_side sh Vertical = side_is (sh.side Vertical)

pub leaf_end : (n : Node) → Shape n → (e : Direction) → row_end e (row_of n) ≡ far e n
leaf_end n sh e = rw (leaf_start n e, leaf_side sh e)
