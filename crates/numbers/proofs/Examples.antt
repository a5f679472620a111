-- Three pictures, computed: the numbers that another program, written from the standard's text, gives for these flags.
use Prim.Native.Nat.{ℕ}
use mathlib.Core.Path.{◌≡◌, refl}
use mathlib.Core.List.{List, [], ◌∷◌}
use lib.Count.{count_trailing_zeros, ones, ones_in}
use Rattle.settings.specs.declared.Settings.{Settings}
use Rattle.settings.specs.Checks.{settings_refusal}
use Rattle.settings.specs.Units.{units_over, count_in, square_in, refusal_at, square_at}
use Rattle.tree.specs.declared.Direction.TheVariants.{Horizontal, Vertical}
use Rattle.tree.specs.declared.Decision.TheVariants.{Leaf, Quad, Binary, Ternary}
use Rattle.tree.specs.Splits.{binary_closed, binary_open, ternary_open, rights_of}
use Rattle.tree.specs.Flags.{flags_for}
use Rattle.tree.specs.Children.{shares, child_qt, child_mtt, child_offset, child, children_from, children, corner_inside}
use Rattle.tree.specs.Rows.{row_of, own_rows}
use Rattle.tree.specs.Tree.{none, skip, node, flags_of, rows_of}
use Rattle.unit.specs.Cases.{settings}
use Rattle.numbers.specs.Numbers.{even_number, numbers_for}
use Rattle.numbers.specs.Walk.{put_all, contexts_of}
use Rattle.numbers.specs.Standard.{seen_at}
use Rattle.numbers.specs.Map.{changed, empty_map}
use Rattle.numbers.specs.Store.{stored}
use Rattle.numbers.specs.StoreAfter.{store_after}
use Rattle.numbers.specs.Picture.{Coded, no_more, coded, flags_given, standard_contexts, store_contexts, zero_store}

-- the store after the last unit
unfoldable store_at_end : {s : Settings} {a : ℕ} → Coded s a → List ℕ → List ℕ
store_at_end no_more store = store
store_at_end {s} (coded {a = a} there t rest) store =
    store_at_end rest (store_after s.width s.height (square_at s a) (put_all (stored s.width (square_at s a) store) (rows_of t) empty_map) store)

-- the flags of a picture's units, their numbers in both ways, and all bytes of the store after the last unit
record Shown (s : Settings) (units : Coded s 0) (flags numbers : List (List ℕ)) (store : List ℕ) : Type 0 where
  said : flags_given units ≡ flags
  by_samples : standard_contexts units [] ≡ numbers
  by_store : store_contexts units (zero_store s) ≡ numbers
  after : store_at_end units (zero_store s) ≡ store

-- ---- 2 units, 12 rows, 25 flags; CTU side, MinCb, MinQt, M, MaxBt, MaxTt, width, height: 32 4 4 3 32 32 32 64

unfoldable first : Coded (settings 32 4 4 3 32 32 32 64) 0
unfolding units_over count_in refusal_at settings_refusal square_in count_trailing_zeros ones ones_in binary_closed binary_open ternary_open rights_of shares child_qt child_mtt child_offset child children_from children corner_inside
first =
    (coded refl (node Quad refl refl (node Leaf refl refl none (node Quad refl refl (node (Binary Horizontal) refl refl (node Leaf refl refl none
    (node (Binary Vertical) refl refl (node Leaf refl refl none (node Leaf refl refl none none)) none)) (node Leaf refl refl none
    (node (Binary Horizontal) refl refl (node Leaf refl refl none (node Leaf refl refl none none)) (node Leaf refl refl none none))))
    (node (Binary Horizontal) refl refl (node Leaf refl refl none (node Leaf refl refl none none)) (node Leaf refl refl none none)))) none)
    (coded refl (node Leaf refl refl none none) no_more))

first_shown : Shown (settings 32 4 4 3 32 32 32 64) first
    ((1 ∷ 1 ∷ 0 ∷ 1 ∷ 1 ∷ 1 ∷ 0 ∷ 0 ∷ 0 ∷ 1 ∷ 0 ∷ 1 ∷ 0 ∷ 0 ∷ 0 ∷ 0 ∷ 0 ∷ 1 ∷ 0 ∷ 0 ∷ 1 ∷ 0 ∷ 0 ∷ 0 ∷ []) ∷ (0 ∷ []) ∷ [])
    ((6 ∷ 0 ∷ 6 ∷ 6 ∷ 0 ∷ 3 ∷ 3 ∷ 0 ∷ 0 ∷ 0 ∷ 4 ∷ 4 ∷ 3 ∷ 2 ∷ 1 ∷ 0 ∷ 4 ∷ 6 ∷ 0 ∷ 0 ∷ 1 ∷ 3 ∷ 3 ∷ 8 ∷ []) ∷ (7 ∷ []) ∷ [])
    (5 ∷ 0 ∷ 5 ∷ 0 ∷ 5 ∷ 0 ∷ 5 ∷ 0 ∷ 5 ∷ 0 ∷ 5 ∷ 0 ∷ 5 ∷ 0 ∷ 5 ∷ 0 ∷ 5 ∷ 0 ∷ 5 ∷ 0 ∷ 5 ∷ 0 ∷ 5 ∷ 0 ∷ 5 ∷ 0 ∷ 5 ∷ 0 ∷ 5 ∷ 0 ∷ 5 ∷ 0 ∷ 0 ∷ 0 ∷ 0 ∷ 0 ∷ 0
    ∷ 0 ∷ 0 ∷ 0 ∷ 0 ∷ 0 ∷ 0 ∷ 0 ∷ 0 ∷ 0 ∷ 0 ∷ 0 ∷ 0 ∷ 0 ∷ 0 ∷ 0 ∷ 0 ∷ 0 ∷ 0 ∷ 0 ∷ 0 ∷ 0 ∷ 0 ∷ 0 ∷ 0 ∷ 0 ∷ 0 ∷ 0 ∷ 0 ∷ 0 ∷ 0 ∷ 0 ∷ 0 ∷ 0 ∷ 0 ∷ 0 ∷ 0
    ∷ 0 ∷ 0 ∷ 0 ∷ 0 ∷ 0 ∷ 0 ∷ 0 ∷ [])
unfolding first store_at_end flags_given standard_contexts store_contexts zero_store flags_of flags_for contexts_of put_all seen_at changed empty_map store_after even_number numbers_for row_of own_rows rows_of units_over count_in refusal_at settings_refusal square_in count_trailing_zeros ones ones_in binary_closed binary_open ternary_open rights_of shares child_qt child_mtt child_offset child children_from children corner_inside
first_shown = record { said = refl; by_samples = refl; by_store = refl; after = refl }

-- ---- 4 units, 13 rows, 31 flags; CTU side, MinCb, MinQt, M, MaxBt, MaxTt, width, height: 64 4 8 3 64 64 72 72

unfoldable second : Coded (settings 64 4 8 3 64 64 72 72) 0
unfolding units_over count_in refusal_at settings_refusal square_in count_trailing_zeros ones ones_in binary_closed binary_open ternary_open rights_of shares child_qt child_mtt child_offset child children_from children corner_inside
second =
    (coded refl (node Quad refl refl (node Leaf refl refl none (node (Binary Vertical) refl refl (node Leaf refl refl none
    (node (Ternary Horizontal) refl refl (node (Binary Vertical) refl refl (node Leaf refl refl none (node Leaf refl refl none none))
    (node Leaf refl refl none (node Leaf refl refl none none))) none)) (node (Binary Horizontal) refl refl (node Leaf refl refl none
    (node Leaf refl refl none none)) (node Leaf refl refl none none)))) none)
    (coded refl (node (Binary Vertical) refl refl (node (Binary Vertical) refl refl (node (Binary Vertical) refl refl
    (node (Binary Vertical) refl refl (node Leaf refl refl none (node Leaf refl refl none none)) (skip refl none)) (skip refl none))
    (skip refl none)) none)
    (coded refl (node (Binary Horizontal) refl refl (node (Binary Horizontal) refl refl (node (Binary Horizontal) refl refl (node Leaf refl refl none
    (skip refl none)) (skip refl none)) (skip refl none)) none)
    (coded refl (node Quad refl refl (node Quad refl refl (node Quad refl refl (node Leaf refl refl none (skip refl (skip refl (skip refl none))))
    (skip refl (skip refl (skip refl none)))) (skip refl (skip refl (skip refl none)))) none) no_more))))

second_shown : Shown (settings 64 4 8 3 64 64 72 72) second
    ((1 ∷ 1 ∷ 0 ∷ 1 ∷ 0 ∷ 1 ∷ 1 ∷ 0 ∷ 1 ∷ 0 ∷ 0 ∷ 1 ∷ 1 ∷ 1 ∷ 0 ∷ 0 ∷ 1 ∷ 0 ∷ 0 ∷ 1 ∷ 0 ∷ 0 ∷ 0 ∷ []) ∷ (0 ∷ 1 ∷ 1 ∷ 0 ∷ 0 ∷ []) ∷ (0 ∷ 0 ∷ []) ∷ (0
    ∷ []) ∷ [])
    ((6 ∷ 0 ∷ 6 ∷ 6 ∷ 0 ∷ 0 ∷ 3 ∷ 3 ∷ 3 ∷ 0 ∷ 1 ∷ 3 ∷ 4 ∷ 2 ∷ 4 ∷ 3 ∷ 6 ∷ 0 ∷ 0 ∷ 1 ∷ 3 ∷ 3 ∷ 8 ∷ []) ∷ (1 ∷ 4 ∷ 3 ∷ 1 ∷ 0 ∷ []) ∷ (1 ∷ 4 ∷ []) ∷ (1
    ∷ []) ∷ [])
    (6 ∷ 0 ∷ 6 ∷ 0 ∷ 6 ∷ 0 ∷ 6 ∷ 0 ∷ 6 ∷ 0 ∷ 6 ∷ 0 ∷ 6 ∷ 0 ∷ 6 ∷ 0 ∷ 6 ∷ 0 ∷ 6 ∷ 0 ∷ 6 ∷ 0 ∷ 6 ∷ 0 ∷ 6 ∷ 0 ∷ 6 ∷ 0 ∷ 6 ∷ 0 ∷ 6 ∷ 0 ∷ 3 ∷ 3 ∷ 3 ∷ 3 ∷ 3
    ∷ 3 ∷ 3 ∷ 3 ∷ 6 ∷ 0 ∷ 6 ∷ 0 ∷ 6 ∷ 0 ∷ 6 ∷ 0 ∷ 6 ∷ 0 ∷ 6 ∷ 0 ∷ 6 ∷ 0 ∷ 6 ∷ 0 ∷ 6 ∷ 0 ∷ 6 ∷ 0 ∷ 6 ∷ 0 ∷ 6 ∷ 0 ∷ 6 ∷ 0 ∷ 6 ∷ 0 ∷ 0 ∷ 0 ∷ 0 ∷ 0 ∷ 0
    ∷ 0 ∷ 0 ∷ 0 ∷ 0 ∷ 0 ∷ 0 ∷ 0 ∷ 0 ∷ 0 ∷ 0 ∷ 0 ∷ 0 ∷ 0 ∷ 0 ∷ 0 ∷ 0 ∷ 0 ∷ 0 ∷ 0 ∷ 0 ∷ 0 ∷ 0 ∷ 0 ∷ 0 ∷ 0 ∷ 0 ∷ 0 ∷ [])
unfolding second store_at_end flags_given standard_contexts store_contexts zero_store flags_of flags_for contexts_of put_all seen_at changed empty_map store_after even_number numbers_for row_of own_rows rows_of units_over count_in refusal_at settings_refusal square_in count_trailing_zeros ones ones_in binary_closed binary_open ternary_open rights_of shares child_qt child_mtt child_offset child children_from children corner_inside
second_shown = record { said = refl; by_samples = refl; by_store = refl; after = refl }

-- ---- 4 units, 16 rows, 34 flags; CTU side, MinCb, MinQt, M, MaxBt, MaxTt, width, height: 32 4 8 2 32 32 40 40

unfoldable third : Coded (settings 32 4 8 2 32 32 40 40) 0
unfolding units_over count_in refusal_at settings_refusal square_in count_trailing_zeros ones ones_in binary_closed binary_open ternary_open rights_of shares child_qt child_mtt child_offset child children_from children corner_inside
third =
    (coded refl (node Quad refl refl (node (Ternary Horizontal) refl refl (node Leaf refl refl none (node Leaf refl refl none
    (node Leaf refl refl none none))) (node (Binary Horizontal) refl refl (node Leaf refl refl none (node Leaf refl refl none none))
    (node Leaf refl refl none (node (Binary Horizontal) refl refl (node Leaf refl refl none (node Leaf refl refl none none)) none)))) none)
    (coded refl (node Quad refl refl (node Quad refl refl (node Leaf refl refl none (skip refl (node (Binary Vertical) refl refl
    (node (Binary Horizontal) refl refl (node Leaf refl refl none (node Leaf refl refl none none)) (node (Binary Horizontal) refl refl
    (node Leaf refl refl none (node Leaf refl refl none none)) none)) (skip refl none)))) (skip refl (node (Binary Vertical) refl refl
    (node Leaf refl refl none (skip refl none)) (skip refl none)))) none)
    (coded refl (node (Binary Horizontal) refl refl (node (Binary Horizontal) refl refl (node Leaf refl refl none (skip refl none))
    (skip refl none)) none)
    (coded refl (node Quad refl refl (node Quad refl refl (node Leaf refl refl none (skip refl (skip refl (skip refl none)))) (skip refl (skip refl
    (skip refl none)))) none) no_more))))

third_shown : Shown (settings 32 4 8 2 32 32 40 40) third
    ((1 ∷ 1 ∷ 1 ∷ 0 ∷ 0 ∷ 0 ∷ 0 ∷ 0 ∷ 0 ∷ 1 ∷ 0 ∷ 0 ∷ 1 ∷ 0 ∷ 0 ∷ 0 ∷ 1 ∷ 0 ∷ 0 ∷ 1 ∷ 0 ∷ 0 ∷ []) ∷ (1 ∷ 1 ∷ 0 ∷ 1 ∷ 1 ∷ 1 ∷ 1 ∷ 0 ∷ 0 ∷ []) ∷ (0 ∷ 0
    ∷ []) ∷ (0 ∷ []) ∷ [])
    ((6 ∷ 0 ∷ 6 ∷ 0 ∷ 0 ∷ 1 ∷ 0 ∷ 0 ∷ 0 ∷ 7 ∷ 0 ∷ 0 ∷ 1 ∷ 4 ∷ 3 ∷ 6 ∷ 6 ∷ 0 ∷ 0 ∷ 1 ∷ 3 ∷ 3 ∷ []) ∷ (1 ∷ 0 ∷ 0 ∷ 0 ∷ 0 ∷ 0 ∷ 1 ∷ 1 ∷ 5 ∷ []) ∷ (1 ∷ 4
    ∷ []) ∷ (0 ∷ []) ∷ [])
    (5 ∷ 0 ∷ 5 ∷ 0 ∷ 5 ∷ 0 ∷ 5 ∷ 0 ∷ 5 ∷ 0 ∷ 5 ∷ 0 ∷ 5 ∷ 0 ∷ 5 ∷ 0 ∷ 3 ∷ 2 ∷ 3 ∷ 2 ∷ 3 ∷ 2 ∷ 3 ∷ 2 ∷ 2 ∷ 2 ∷ 2 ∷ 2 ∷ 4 ∷ 1 ∷ 4 ∷ 1 ∷ 4 ∷ 1 ∷ 4 ∷ 1 ∷ 0
    ∷ 0 ∷ 0 ∷ 0 ∷ 0 ∷ 0 ∷ 0 ∷ 0 ∷ 0 ∷ 0 ∷ 0 ∷ 0 ∷ 0 ∷ 0 ∷ 0 ∷ 0 ∷ 0 ∷ 0 ∷ 0 ∷ 0 ∷ 0 ∷ 0 ∷ 0 ∷ 0 ∷ 0 ∷ 0 ∷ 0 ∷ 0 ∷ 0 ∷ 0 ∷ 0 ∷ 0 ∷ 0 ∷ 0 ∷ 0 ∷ 0 ∷ 0
    ∷ 0 ∷ 0 ∷ 0 ∷ 0 ∷ 0 ∷ 0 ∷ 0 ∷ 0 ∷ 0 ∷ 0 ∷ 0 ∷ [])
unfolding third store_at_end flags_given standard_contexts store_contexts zero_store flags_of flags_for contexts_of put_all seen_at changed empty_map store_after even_number numbers_for row_of own_rows rows_of units_over count_in refusal_at settings_refusal square_in count_trailing_zeros ones ones_in binary_closed binary_open ternary_open rights_of shares child_qt child_mtt child_offset child children_from children corner_inside
third_shown = record { said = refl; by_samples = refl; by_store = refl; after = refl }
