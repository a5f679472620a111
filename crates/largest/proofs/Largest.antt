-- The bounds are reached: antt computes each reading.
use Prim.Native.Nat.{ℕ, zero, suc, ◌+◌, ◌-◌, ◌*◌, ◌≤◌, ◌<◌}
use mathlib.Core.Path.{◌≡◌, refl, ap, subst}
use mathlib.Core.Bool.{Bool, true, false, ◌&&◌}
use mathlib.Core.List.{List, [], ◌∷◌}
use lib.Count.{count_trailing_zeros, ones, ones_in}
use lib.Dec.{eqb}
use lib.ListN.{length, replicate}
use native.Mathlib.Decide.{ℕ_discrete}
use native.Mathlib.Omega.{arith}
use borrow.Author.Tests.{eqb-true}
use Rattle.sides.proofs.Bools.{clash, and_left, and_right}
use Rattle.settings.specs.declared.Settings.{Settings}
use Rattle.settings.specs.Checks.{settings_refusal}
use Rattle.settings.specs.Units.{units_over, count_in, refusal_at, square_in, located_by}
use Rattle.tree.specs.Splits.{binary_closed, binary_open, ternary_open, rights_of}
use Rattle.tree.specs.Flags.{flag_at, after_binary, after_vertical, after_quad, after_split, decide}
use Rattle.tree.specs.Children.{shares, child_qt, child_mtt, child_offset, child, children_from, children, corner_inside}
use Rattle.tree.specs.Rows.{row_of, own_rows, row_bytes, table_bytes}
use Rattle.tree.specs.Run.{before, go_on, over_all}
use Rattle.tree.specs.Reading.{enter, walk}
use Rattle.unit.specs.Answers.{Answer}
use Rattle.refusals.specs.Said.{Accepted, Refused}
use Rattle.unit.specs.Answers.{deliver, finish_end}
use Rattle.unit.specs.Reader.{none_after, rows_from, read_tree, read_located, read_unit}
use Rattle.unit.specs.Cases.{settings}
use Rattle.largest.specs.Largest.{Reads, halved, with_quad, Largest}

-- ---- a test of every number below another

abbrev for_below : ℕ → (ℕ → Bool) → Bool
for_below zero f = true
for_below (suc n) f = f n && for_below n f

at_below : (f : ℕ → Bool) (n : ℕ) → for_below n f ≡ true → (i : ℕ) → i < n → f i ≡ true
at_below f zero h i l = absurd (omega arith)
at_below f (suc n) h i l = go (at_below f n (and_right (f n) _ h) i) (ℕ_discrete i n)
  where
    go : (i < n → f i ≡ true) → Dec (i ≡ n) → f i ≡ true
    go rest (yes e) = rw e (and_left (f n) _ h)
    go rest (no e) = rest (omega arith)

-- ---- from 2 to 64 rows

abbrev unit64 : Settings
unit64 = settings 64 4 8 8 64 64 64 64

abbrev row_flags : ℕ → List ℕ
row_flags rows = with_quad (halved (0 ∷ []) 6 rows)

abbrev accepts : ℕ → Answer → Bool
accepts rows (Accepted count) = eqb count rows
accepts rows (Refused number place) = false

is_accepted : (rows : ℕ) (answer : Answer) → accepts rows answer ≡ true → answer ≡ Accepted rows
is_accepted rows (Accepted count) h = ap (λ n. Accepted n) (eqb-true count rows h)
is_accepted rows (Refused number place) h = clash h refl

abbrev answered : ℕ → Answer
answered rows = (read_unit unit64 0 (row_flags rows) (replicate (8 * rows) 0)).answer

abbrev reads : ℕ → Bool
reads more = accepts (2 + more) (answered (2 + more)) && eqb (length (row_flags (2 + more))) (4 * (2 + more) - 2)

reads_test : for_below 63 reads ≡ true
unfolding count_trailing_zeros ones ones_in settings_refusal units_over count_in refusal_at square_in located_by binary_closed binary_open ternary_open rights_of flag_at after_binary after_vertical after_quad after_split decide shares child_qt child_mtt child_offset child children_from children corner_inside row_of own_rows row_bytes table_bytes before go_on over_all enter walk deliver finish_end none_after rows_from read_tree read_located halved
reads_test = refl

rows_read : (rows : ℕ) → 2 ≤ rows → rows ≤ 64 → Reads unit64 (row_flags rows) rows (4 * rows - 2)
rows_read rows least most =
    let h = at_below reads 63 reads_test (rows - 2) (omega arith) in
    let e : 2 + (rows - 2) ≡ rows = omega arith in
    subst (λ n. Reads unit64 (row_flags n) n (4 * n - 2)) e
    (record {
      accepted = is_accepted _ (answered (2 + (rows - 2))) (and_left _ _ h);
      many = eqb-true _ _ (and_right (accepts (2 + (rows - 2)) (answered (2 + (rows - 2)))) _ h);
    })

pub largest : Largest
unfolding count_trailing_zeros ones ones_in settings_refusal units_over count_in refusal_at square_in located_by binary_closed binary_open ternary_open rights_of flag_at after_binary after_vertical after_quad after_split decide shares child_qt child_mtt child_offset child children_from children corner_inside row_of own_rows row_bytes table_bytes before go_on over_all enter walk deliver finish_end none_after rows_from read_tree read_located halved
largest = record {
  one_row = record { accepted = refl; many = refl };
  rows = rows_read;
  of_32 = record { accepted = refl; many = refl };
  of_64 = record { accepted = refl; many = refl };
  of_128 = record { accepted = refl; many = refl };
}
