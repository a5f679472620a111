-- Rows that pass the way back's test: they fit their columns, and their lines are what the page has.
use Prim.Native.Nat.{ℕ, ◌*◌, ◌/◌, ◌≤◌, ◌<◌}
use mathlib.Core.Path.{◌≡◌, refl, ap, ◌∙◌}
use mathlib.Core.List.{List, ◌++◌}
use native.Mathlib.Omega.{arith}
use lib.ListN.{length, drop}
use borrow.Author.Tests.{lt-ltb, le-ltb}
use Rattle.settings.specs.declared.Settings.{Settings}
use Rattle.settings.specs.Checks.{settings_refusal}
use Rattle.settings.specs.Units.{unit_count, unit_refusal}
use Rattle.settings.proofs.Passed.{unit_side, passed}
use Rattle.settings.proofs.Grid.{count_of_32, gridded, unit_taken}
use Rattle.tree.specs.declared.Direction.TheVariants.{Horizontal, Vertical}
use Rattle.tree.specs.Rows.{Row, rows_in}
use Rattle.tree.specs.Run.{goes, stops}
use Rattle.tree.specs.Tree.{rows_of}
use Rattle.laws.specs.Every.{Every}
use Rattle.laws.specs.Geometry.{SmallRow}
use Rattle.laws.proofs.DepthBound.{rows_deep}
use Rattle.laws.proofs.Every.{every_map, every_both}
use Rattle.laws.proofs.Shape.{side_power}
use Rattle.laws.proofs.Tables.{rows_long}
use Rattle.refusals.specs.Said.{Accepted, Refused}
use Rattle.unit.specs.Answers.{Meets, refused, deliver, finish_end, answer_of}
use Rattle.unit.specs.Luma.{units_of}
use Rattle.unit.specs.Writer.{test_unit}
use Rattle.unit.specs.Exactly.{UnitTree}
use Rattle.unit.proofs.Accepts.{answer_stops, answer_goes}
use Rattle.unit.proofs.Sound.{root_of_lem}
use Rattle.unit.proofs.Luma.{luma_sound}
use Rattle.unit.proofs.RootTree.{root_small}
use Rattle.unit.proofs.Sizes.{rows_most}
use Rattle.unit.proofs.Tested.{passes}
use Rattle.page.specs.Lines.{line, Fits}
use Rattle.page.specs.Page.{page_text, write_page}
use Rattle.page.proofs.Fitting.{fits, line_long, lines_long}

module _ (s : Settings) (a : ℕ) (h : unit_refusal s a ≡ 0) where
  address_small : a < 1000000
  address_small =
      let t = unit_taken (settings_refusal s) (unit_count s) a h in
      let p = passed s t.0 in
      let u = unit_side p.ctu in
      let m = count_of_32 (gridded p) u.least in
      let l = t.1 in
      omega arith

  pub tree_fits : (t : UnitTree (units_of s) a) → Every (Fits a) (rows_of t)
  tree_fits t =
      let r = root_of_lem (luma_sound s) a h in
      let sh = r.good.shape in
      let x = side_power (sh.side Vertical) in
      let y = side_power (sh.side Horizontal) in
      let deep = rows_deep r.valid sh (omega arith) t in
      every_map (λ row p. fits address_small p.0 p.1) (every_both (root_small r t) deep)

  -- each line has 33 bytes
  pub tree_wide : (t : UnitTree (units_of s) a) → Every (λ r. length (line a r) ≡ 33) (rows_of t)
  tree_wide t = every_map (λ r small. line_long a address_small small) (root_small (root_of_lem (luma_sound s) a h) t)

-- what `print` asks: rows that are accepted have a small address, are few, and small
pub accepted_rows : (s : Settings) (a : ℕ) (bytes : List ℕ) {count : ℕ} → answer_of (test_unit s a bytes) ≡ Accepted count
    → (a < 1000000) × (length bytes ≤ 8192) × Every SmallRow (rows_in bytes)
accepted_rows s a bytes e =
    let p = passes (luma_sound s) a bytes e in
    let m = rows_most (luma_sound s) a p.there p.tree in
    let n : length (rows_of p.tree) ≡ length bytes / 8 = ap length p.rows ∙ rows_long (length bytes / 8) bytes 0 in
    let w = p.whole in
    (address_small s a p.there, omega arith, rw p.rows at (root_small (root_of_lem (luma_sound s) a p.there) p.tree))

-- ---- the delivery of the lines, by their count

module _ (a : ℕ) (bytes page : List ℕ) (h : a < 1000000) (small : Every SmallRow (rows_in bytes)) where
  text_long : length (page_text a bytes) ≡ 33 * (length bytes / 8)
  text_long =
      let n = rows_long (length bytes / 8) bytes 0 in
      let l = lines_long a (every_map (λ r s. line_long a h s) small) in
      omega arith

  module _ (n : ℕ) (e : n ≡ length bytes / 8 * 33) where
    text_count : n ≡ length (page_text a bytes)
    text_count = let l = text_long in omega arith

    pub page_short : length page < n → Meets (deliver 23 (length (page_text a bytes)) (page_text a bytes) page) (Refused 23 n) page
    unfolding deliver
    page_short lacks = rw (← text_count, lt-ltb (length page) n lacks) (record { answers = refl; leaves = refl })

    pub page_done : n ≤ length page → {left : List ℕ} → left ≡ page_text a bytes ++ drop (33 * (length bytes / 8)) page
        → Meets (deliver 23 (length (page_text a bytes)) (page_text a bytes) page) (Accepted n) left
    unfolding deliver
    page_done room f =
        let c : 33 * (length bytes / 8) ≡ n = omega arith in
        rw (← text_count, le-ltb (length page) n room) (record { answers = refl; leaves = f ∙ ap (λ i. page_text a bytes ++ drop i page) c })

-- ---- the test, and then the delivery

module _ (s : Settings) (a : ℕ) (bytes page : List ℕ) where
  pub page_stopped : (number place : ℕ) → (test_unit s a bytes).end ≡ stops number place → write_page s a bytes page ≡ refused number place page
  unfolding write_page finish_end
  page_stopped number place e = rw e

  pub page_given : {rest : List Row} → (test_unit s a bytes).end ≡ goes rest → write_page s a bytes page ≡ deliver 23 (length (page_text a bytes)) (page_text a bytes) page
  unfolding write_page finish_end
  page_given e = rw e

  pub page_refused : {k p : ℕ} → answer_of (test_unit s a bytes) ≡ Refused k p → Meets (write_page s a bytes page) (Refused k p) page
  page_refused e = rw (page_stopped _ _ (answer_stops (test_unit s a bytes) e)) (record { answers = refl; leaves = refl })

  pub page_printed : {count : ℕ} → answer_of (test_unit s a bytes) ≡ Accepted count
      → write_page s a bytes page ≡ deliver 23 (length (page_text a bytes)) (page_text a bytes) page
  page_printed e = page_given (answer_goes (test_unit s a bytes) e).2
