-- R-1 for every unit: `PartitionPage`.
use Prim.Native.Nat.{ℕ, ◌*◌}
use mathlib.Core.Path.{◌≡◌, refl, ap, ◌∙◌}
use mathlib.Core.List.{List}
use mathlib.Core.Logic.{◌↔◌}
use native.Mathlib.Omega.{arith}
use lib.ListN.{length}
use Rattle.settings.specs.declared.Settings.{Settings}
use Rattle.settings.specs.Faults.{settings_numbers}
use Rattle.settings.specs.Units.{unit_refusal}
use Rattle.tree.specs.Rows.{table_bytes}
use Rattle.tree.specs.Tree.{rows_of}
use Rattle.laws.proofs.Tests.{never}
use Rattle.refusals.specs.Said.{Accepted, Refused}
use Rattle.unit.specs.Answers.{deliver}
use Rattle.unit.specs.Luma.{units_of}
use Rattle.unit.specs.Writer.{write_flags}
use Rattle.unit.specs.Exactly.{UnitTree, OneOf, Bytes}
use Rattle.unit.specs.Faults.{rows_numbers}
use Rattle.unit.proofs.Accepts.{delivered, undelivered}
use Rattle.unit.proofs.Decided.{tested_decides}
use Rattle.unit.proofs.Numbers.{not_listed}
use Rattle.unit.proofs.RootTree.{root_said}
use Rattle.unit.proofs.Sound.{root_of_lem}
use Rattle.unit.proofs.Luma.{luma_sound}
use Rattle.unit.proofs.Sizes.{rows_most}
use Rattle.unit.proofs.Tested.{Passed, Tested, faulty, passed, tested, tree_tested, table_of}
use Rattle.unit.proofs.TurnsExactly.{write_stopped, write_given}
use Rattle.page.specs.Lines.{digits_in, digits, column, row_columns, line, lines}
use Rattle.page.specs.Page.{write_page}
use Rattle.page.specs.PartitionPage.{Printed, PartitionPage}
use Rattle.page.proofs.Fitting.{lines_long}
use Rattle.page.proofs.Passing.{tree_fits, tree_wide, page_stopped, page_given}

-- the page of rows that pass is their tree's
page_passed : (s : Settings) (a : ℕ) (bytes page : List ℕ) (p : Passed (units_of s) a bytes)
    → write_page s a bytes page ≡ deliver 23 (length (lines a (rows_of p.tree))) (lines a (rows_of p.tree)) page
page_passed s a bytes page p = page_given s a bytes page (ap (λ r. r.end) p.gives_flags) ∙ rw (← p.rows)

-- ---- of the trees of a unit that is there

module _ (s : Settings) (a : ℕ) (h : unit_refusal s a ≡ 0) where
  -- the lines of a tree's table are those of its rows
  of_tree : (t : UnitTree (units_of s) a) (page : List ℕ) {count : ℕ} → length (lines a (rows_of t)) ≡ count
      → write_page s a (table_bytes (rows_of t)) page ≡ deliver 23 count (lines a (rows_of t)) page
  of_tree t page e =
      page_given s a (table_bytes (rows_of t)) page (ap (λ r. r.end) (tree_tested (luma_sound s) a h t)) ∙ rw (root_said (root_of_lem (luma_sound s) a h) t, e)

  long : (t : UnitTree (units_of s) a) → length (lines a (rows_of t)) ≡ 33 * length (rows_of t)
  long t = lines_long a (tree_wide s a h t)

  only : (bytes : List ℕ) → Bytes bytes → (page : List ℕ) (m : ℕ) → (write_page s a bytes page).answer ≡ Accepted m
      → (t : UnitTree (units_of s) a) × (table_bytes (rows_of t) ≡ bytes) × (length (lines a (rows_of t)) ≡ m)
  only bytes small page m e = go (tested (luma_sound s) a bytes)
    where
      go : Tested (units_of s) a bytes → (t : UnitTree (units_of s) a) × (table_bytes (rows_of t) ≡ bytes) × (length (lines a (rows_of t)) ≡ m)
      go (faulty f w) = let g = page_stopped s a bytes page _ _ w in never (cc)
      go (passed p) = (p.tree, table_of (luma_sound s) a bytes small p, (delivered 23 _ _ page (rw (page_passed s a bytes page p) at e)).0)

  printed : Printed s a
  printed = record {
    only = λ bytes small page m e.
        let o = only bytes small page m e in
        let l = long o.0 in
        let n = o.2 in
        (o.0, o.1, omega arith);
    prints = λ t page. of_tree t page (let l = long t in omega arith);
    wide = tree_wide s a h;
    long = long;
    most = λ t. let l = long t in let m = rows_most (luma_sound s) a h t in omega arith;
    fits = tree_fits s a h;
  }

-- ---- what is refused

module _ (s : Settings) (a : ℕ) (bytes page buffer : List ℕ) (number place : ℕ) (o : OneOf number (rows_numbers settings_numbers)) where
  both : ((write_page s a bytes page).answer ≡ Refused number place) ↔ ((write_flags s a bytes buffer).answer ≡ Refused number place)
  both = go (tested (luma_sound s) a bytes)
    where
      go : Tested (units_of s) a bytes → ((write_page s a bytes page).answer ≡ Refused number place) ↔ ((write_flags s a bytes buffer).answer ≡ Refused number place)
      go (faulty f w) = rw (page_stopped s a bytes page _ _ w, write_stopped (luma_sound s) a bytes buffer _ _ w) (λ e. e, λ e. e)
      go (passed p) = (
        λ e. let d = (undelivered 23 _ _ page (rw (page_passed s a bytes page p) at e)).0 in absurd (not_listed 23 (rows_numbers settings_numbers) refl (rw (← d) at o)),
        λ e. let d = (undelivered 17 _ _ buffer (rw (write_given (luma_sound s) a bytes buffer p.gives_flags) at e)).0 in absurd (not_listed 17 (rows_numbers settings_numbers) refl (rw (← d) at o)),
      )

pub partition_page : PartitionPage
unfolding digits_in digits column row_columns line
partition_page = record {
  printed = printed;
  decided = λ s a bytes small page.
      tested_decides (luma_sound s) a bytes small page 23 (λ t. lines a (rows_of t)) (write_page s a bytes page) (page_stopped s a bytes page) (page_passed s a bytes page);
  others = both;
  p2 = refl;
}
