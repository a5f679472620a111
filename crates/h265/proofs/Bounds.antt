-- The bounds of the rows and flags of an H.265 unit, by its samples; and that they are reached, by computation.
use Prim.Native.Nat.{ℕ, ◌+◌, ◌*◌, ◌/◌, ◌^◌, ◌≤◌}
use mathlib.Core.Path.{◌≡◌, refl, ap, ◌∙◌}
use lib.Count.{count_trailing_zeros, ones, ones_in}
use lib.ListN.{length}
use mathlib.Core.Logic.{inl, inr}
use native.Mathlib.Omega.{arith}
use native.Mathlib.Nat.{mul-le-mul, mul-div_right, le_of_mul-le-mul_left}
use Rattle.settings.specs.Units.{units_over, count_in, refusal_at, square_in, located_by}
use Rattle.settings.proofs.Grid.{unit_taken}
use Rattle.tree.specs.declared.Direction.TheVariants.{Vertical}
use Rattle.tree.specs.Splits.{binary_closed, binary_open, ternary_open, rights_of}
use Rattle.tree.specs.Flags.{flag_at, after_binary, after_vertical, after_quad, after_split, decide}
use Rattle.tree.specs.Children.{shares, child_qt, child_mtt, child_offset, child, children_from, children, corner_inside}
use Rattle.tree.specs.Rows.{row_of, own_rows, row_bytes, table_bytes}
use Rattle.tree.specs.Run.{before, go_on, over_all}
use Rattle.tree.specs.Reading.{enter, walk}
use Rattle.tree.specs.Tree.{flags_of, rows_of}
use Rattle.laws.specs.Areas.{areas_of}
use Rattle.laws.specs.Every.{every_none, every_more}
use Rattle.laws.specs.Multiples.{Fold}
use Rattle.laws.proofs.Counts.{flag_count_lem}
use Rattle.laws.proofs.Shape.{side_of}
use Rattle.laws.proofs.Sides.{One, one_4, one_8, one_16, one_32, one_64, one_128, one_of}
use Rattle.unit.specs.Luma.{limits_of}
use Rattle.unit.specs.Units.{refusal_in, root_in}
use Rattle.unit.specs.Answers.{deliver, finish_end}
use Rattle.unit.specs.Reader.{none_after, rows_from, read_tree, read_located}
use Rattle.unit.specs.Exactly.{UnitTree}
use Rattle.unit.proofs.Bounds.{bounded}
use Rattle.unit.proofs.Roots.{Root}
use Rattle.unit.proofs.Sound.{root_of_lem}
use Rattle.h265settings.specs.declared.Settings.{Settings}
use Rattle.h265settings.specs.Checks.{settings_refusal}
use Rattle.h265settings.specs.Faults.{CtuSide}
use Rattle.h265settings.specs.Units.{as_luma, units_of}
use Rattle.h265settings.proofs.Passed.{passed, smallest_side}
use Rattle.h265settings.proofs.Sound.{h265_sound}
use Rattle.h265.specs.Bounds.{most_rows, most_flags, one_unit, HasMost, Bounds}
use Rattle.h265.proofs.QuadSizes.{Whole, tree_rows, tree_flags}

-- what fits into a square in blocks is at most the blocks of the square
blocks_most : (side block count : ℕ) → 1 ≤ block → Fold block side → block * block * count ≤ side * side → count ≤ side / block * (side / block)
blocks_most side block count pos f h =
    let q : side / block ≡ 2 ^ f.power = ap (λ n. n / block) f.is ∙ mul-div_right (2 ^ f.power) pos in
    let e : side * side ≡ block * block * (2 ^ f.power * 2 ^ f.power) = rw f.is (omega arith) in
    rw q (le_of_mul-le-mul_left {k = block * block} (omega arith) (mul-le-mul pos pos))

module _ (s : Settings) (a : ℕ) (h : refusal_in (units_of s) a ≡ 0) (t : UnitTree (units_of s) a) where
  root : Root (units_of s).kind (root_in (units_of s) a)
  root = root_of_lem (h265_sound s) a h

  whole : Whole (limits_of (as_luma s)) (root_in (units_of s) a)
  whole = (root.good, (refl, refl))

  least : 1 ≤ s.smallest
  least =
      let p = passed s (unit_taken (units_of s).refusal (units_of s).count a h).0 in
      let b = smallest_side p.ctu p.smallest in
      omega (arith, b.least)

  fold : Fold s.smallest s.ctu
  unfolding square_in
  fold = (root.good.top refl).side Vertical

  rows_most : length (rows_of t) ≤ most_rows s
  unfolding square_in
  rows_most =
      let r = tree_rows (limits_of (as_luma s)) refl root.valid whole t in
      blocks_most s.ctu s.smallest (length (rows_of t)) least fold (omega arith)

  flags_most : length (flags_of t) ≤ most_flags s
  unfolding areas_of square_in
  flags_most =
      let f = tree_flags (limits_of (as_luma s)) refl root.valid t (every_more whole every_none) in
      let c = flag_count_lem t in
      let b = blocks_most s.ctu s.smallest (3 * length (flags_of t) + 1) least fold (rw c (omega arith)) in
      omega arith

-- ---- each CTU side with each smallest side

full : {ctu n : ℕ} → CtuSide ctu → One n → 8 ≤ n → n ≤ ctu → HasMost (one_unit ctu n)
unfolding count_trailing_zeros ones ones_in settings_refusal units_over count_in refusal_at square_in located_by binary_closed binary_open ternary_open rights_of flag_at after_binary after_vertical after_quad after_split decide shares child_qt child_mtt child_offset child children_from children corner_inside row_of own_rows row_bytes table_bytes before go_on over_all enter walk deliver finish_end none_after rows_from read_tree read_located
full (inl e) one_4 l m = absurd (omega arith)
full (inl e) one_8 l m = rw e
full (inl e) one_16 l m = rw e
full (inl e) one_32 l m = absurd (omega arith)
full (inl e) one_64 l m = absurd (omega arith)
full (inl e) one_128 l m = absurd (omega arith)
full (inr (inl e)) one_4 l m = absurd (omega arith)
full (inr (inl e)) one_8 l m = rw e
full (inr (inl e)) one_16 l m = rw e
full (inr (inl e)) one_32 l m = rw e
full (inr (inl e)) one_64 l m = absurd (omega arith)
full (inr (inl e)) one_128 l m = absurd (omega arith)
full (inr (inr e)) one_4 l m = absurd (omega arith)
full (inr (inr e)) one_8 l m = rw e
full (inr (inr e)) one_16 l m = rw e
full (inr (inr e)) one_32 l m = rw e
full (inr (inr e)) one_64 l m = rw e
full (inr (inr e)) one_128 l m = absurd (omega arith)

pub bounds : Bounds
bounds = record {
  bounded = λ s a. bounded (h265_sound s) a (most_rows s) (most_flags s) (rows_most s a) (flags_most s a);
  reached = λ ctu smallest e.
      let p = passed (one_unit ctu smallest) e in
      let b = smallest_side p.ctu p.smallest in
      let m = p.smallest.most in
      full p.ctu (one_of (side_of (record { is = b.is; least = omega arith; most = omega arith }))) b.least m;
}
