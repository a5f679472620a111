-- R-9 for every unit: `PartitionsCompared`.
use Prim.Native.Nat.{ℕ}
use mathlib.Core.Path.{◌≡◌, refl, sym, ap, ◌∙◌}
use mathlib.Core.List.{List}
use mathlib.Core.Logic.{◌↔◌}
use Rattle.settings.specs.declared.Settings.{Settings}
use Rattle.settings.specs.Faults.{settings_numbers}
use Rattle.settings.specs.Units.{unit_refusal}
use Rattle.tree.specs.Rows.{Row, rows_in, table_bytes}
use Rattle.tree.specs.Run.{goes, stops}
use Rattle.tree.specs.Tree.{rows_of}
use Rattle.laws.specs.Geometry.{span}
use Rattle.laws.proofs.Tests.{never}
use Rattle.refusals.specs.Said.{Accepted, Refused}
use Rattle.unit.specs.Units.{located_in}
use Rattle.unit.specs.Luma.{units_of}
use Rattle.unit.specs.Writer.{test_in}
use Rattle.unit.specs.Exactly.{UnitTree, Bytes, OneOf}
use Rattle.unit.specs.Faults.{RowsFault, rows_numbers, Decides}
use Rattle.unit.proofs.Decided.{decides, same_fault, rows_listed}
use Rattle.unit.proofs.Luma.{luma_sound}
use Rattle.unit.proofs.RootTree.{root_said}
use Rattle.unit.proofs.Sound.{root_of_lem}
use Rattle.unit.proofs.Tested.{Passed, Tested, faulty, passed, tested, tree_tested, table_of, fault_stops}
use Rattle.compare.specs.declared.finer.Finer.TheVariants.{Equal}
use Rattle.compare.specs.Finer.{every_row, some_row, every_below, lies_in, is_union, finer_or_equal, comparison, finer_number}
use Rattle.compare.specs.Blocks.{EqualBlocks}
use Rattle.compare.specs.Compare.{compare_unit}
use Rattle.compare.specs.PartitionsCompared.{CompareFault, first_table, second_table, TreesCompared, PartitionsCompared}
use Rattle.compare.proofs.Equal.{turned, equal_blocks, finer_blocks, is_equal, same_comparison}
use Rattle.compare.proofs.Trees.{trees_comparable}
use Rattle.compare.proofs.Calls.{located_first, located_second, located_both}

-- ---- the call, by what the two tests end with

module _ (s : Settings) (a : ℕ) (first second : List ℕ) where
  first_ends : {number place : ℕ} → (test_in (units_of s) a first).end ≡ stops number place → compare_unit s a first second ≡ Refused number place
  first_ends e = located_first (units_of s).kind first second (located_in (units_of s) a) e

  second_ends : {rest : List Row} {number place : ℕ} → (test_in (units_of s) a first).end ≡ goes rest → (test_in (units_of s) a second).end ≡ stops number place
      → compare_unit s a first second ≡ Refused number place
  second_ends e f = located_second (units_of s).kind first second (located_in (units_of s) a) e f

  pub both_pass : Passed (units_of s) a first → Passed (units_of s) a second
      → compare_unit s a first second ≡ Accepted (finer_number (comparison (rows_in first) (rows_in second)))
  both_pass p q =
      located_both (units_of s).kind first second (located_in (units_of s) a) (ap (λ r. r.end) p.gives_flags) (ap (λ r. r.end) q.gives_flags)

  -- only tables that pass are compared
  pub both_passed : {m : ℕ} → compare_unit s a first second ≡ Accepted m → Passed (units_of s) a first × Passed (units_of s) a second
  both_passed e = go (tested (luma_sound s) a first) (tested (luma_sound s) a second)
    where
      go : Tested (units_of s) a first → Tested (units_of s) a second → Passed (units_of s) a first × Passed (units_of s) a second
      go (faulty f w) _ = let g = first_ends w in never (cc)
      go (passed t) (faulty f w) = let g = second_ends (ap (λ r. r.end) t.gives_flags) w in never (cc)
      go (passed t) (passed u) = (t, u)

  -- with the number of their comparison
  pub both_number : {m : ℕ} → compare_unit s a first second ≡ Accepted m → finer_number (comparison (rows_in first) (rows_in second)) ≡ m
  both_number {m} e =
      let both = both_passed e in
      let g : Accepted (finer_number (comparison (rows_in first) (rows_in second))) ≡ Accepted m = sym (both_pass both.0 both.1) ∙ e in
      cc

  -- ---- what is refused

  fault_of : Bytes first → (number place : ℕ) → compare_unit s a first second ≡ Refused number place → CompareFault s a first second number place
  fault_of small number place e = go (tested (luma_sound s) a first) (tested (luma_sound s) a second)
    where
      go : Tested (units_of s) a first → Tested (units_of s) a second → CompareFault s a first second number place
      go (faulty {number = k} {place = p} f w) _ =
          let g : Refused k p ≡ Refused number place = sym (first_ends w) ∙ e in
          let x : k ≡ number = cc in
          let y : p ≡ place = cc in
          first_table (same_fault (RowsFault (units_of s) a first) f x y)
      go (passed t) (faulty {number = k} {place = p} f w) =
          let g : Refused k p ≡ Refused number place = sym (second_ends (ap (λ r. r.end) t.gives_flags) w) ∙ e in
          let x : k ≡ number = cc in
          let y : p ≡ place = cc in
          second_table t.there t.tree (table_of (luma_sound s) a first small t) (same_fault (RowsFault (units_of s) a second) f x y)
      go (passed t) (passed u) = let g = both_pass t u in never (cc)

  refused_for : (number place : ℕ) → CompareFault s a first second number place → (compare_unit s a first second ≡ Refused number place) × (◌≡◌ {A = Unit {0}} tt tt)
  refused_for number place (first_table f) = (first_ends (fault_stops (luma_sound s) a first f), refl)
  refused_for number place (second_table h t e f) =
      let g = ap (λ r. r.end) (rw e at (tree_tested (luma_sound s) a h t)) in
      (second_ends g (fault_stops (luma_sound s) a second f), refl)

  listed : (number place : ℕ) → CompareFault s a first second number place → OneOf number (rows_numbers settings_numbers)
  listed number place (first_table f) = rows_listed (luma_sound s) a f
  listed number place (second_table h t e f) = rows_listed (luma_sound s) a f

  decided : Bytes first → Decides {Lent = Unit {0}} (CompareFault s a first second) (rows_numbers settings_numbers) (compare_unit s a first second) tt tt
  decided small = decides (CompareFault s a first second) (rows_numbers settings_numbers) (fault_of small) refused_for listed

-- ---- the trees of a unit that is there

module _ (s : Settings) (a : ℕ) (h : unit_refusal s a ≡ 0) where
  compares : (t u : UnitTree (units_of s) a)
      → compare_unit s a (table_bytes (rows_of t)) (table_bytes (rows_of u)) ≡ Accepted (finer_number (comparison (rows_of t) (rows_of u)))
  compares t u =
      let r = root_of_lem (luma_sound s) a h in
      located_both (units_of s).kind (table_bytes (rows_of t)) (table_bytes (rows_of u)) (located_in (units_of s) a)
      (ap (λ r. r.end) (tree_tested (luma_sound s) a h t)) (ap (λ r. r.end) (tree_tested (luma_sound s) a h u))
      ∙ rw (root_said r t, root_said r u)

  only : (first second : List ℕ) → Bytes first → Bytes second → (m : ℕ) → compare_unit s a first second ≡ Accepted m
      → (t u : UnitTree (units_of s) a) × (table_bytes (rows_of t) ≡ first) × (table_bytes (rows_of u) ≡ second)
      × (finer_number (comparison (rows_of t) (rows_of u)) ≡ m)
  only first second small small₁ m e =
      let both = both_passed s a first second e in
      let t = both.0 in
      let u = both.1 in
      let number = rw (← t.rows, ← u.rows) at (both_number s a first second e) in
      (t.tree, u.tree, table_of (luma_sound s) a first small t, table_of (luma_sound s) a second small₁ u, number)

  equal : (t u : UnitTree (units_of s) a) → (comparison (rows_of t) (rows_of u) ≡ Equal) ↔ EqualBlocks (rows_of t) (rows_of u)
  equal t u =
      let c = trees_comparable (root_of_lem (luma_sound s) a h) t u in (
        λ e. let both = is_equal (finer_or_equal (rows_of t) (rows_of u)) (finer_or_equal (rows_of u) (rows_of t)) e in equal_blocks c both.0 both.1,
        λ e. rw (finer_blocks c e.there, finer_blocks (turned c) e.back),
      )

  trees : TreesCompared s a
  trees = record { compares = compares; only = only; equal = equal }

pub partitions_compared : PartitionsCompared
unfolding span every_row some_row every_below lies_in is_union finer_or_equal
partitions_compared = record {
  trees = trees;
  decided = decided;
  blocks = λ first first' second second' e f. same_comparison e f;
  same = refl;
  finer = refl;
  coarser = refl;
  crossed = refl;
  p1_p2 = refl;
}
