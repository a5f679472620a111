-- The samples of a row of whole cells, and its cells: a sample of the row's square lies in the row exactly where its cell is one of the row's.
use Prim.Native.Nat.{ℕ, ◌+◌, ◌-◌, ◌*◌, ◌/◌, ◌%◌, ◌^◌, ◌≤◌, ◌<◌}
use mathlib.Core.Path.{◌≡◌}
use native.Mathlib.Omega.{arith}
use lib.Pow.{pow_pos}
use Rattle.tree.specs.Rows.{Row}
use Rattle.laws.specs.Geometry.{in_row}
use Rattle.laws.proofs.Rectangles.{Between, rectangle_in, in_rectangle}
use Rattle.cells.specs.Map.{cell_at}
use Rattle.cells.specs.Held.{Celled}
use Rattle.cells.proofs.Puts.{Covers}

-- ---- one dimension: l samples from a on, whole cells of 4 samples, in one square of 128

pub record Whole (square a l : ℕ) : Type 0 where
  pub starts : a % 4 ≡ 0
  pub ends : l % 4 ≡ 0
  pub some : 0 < l
  pub corner : a / 128 ≡ square
  pub one : a / 128 ≡ (a + l - 1) / 128

module _ {square a l : ℕ} (w : Whole square a l) where
  pub cells_fit : a / 4 % 32 + l / 4 ≤ 32
  cells_fit = let i = w.starts in let j = w.ends in let k = w.some in let o = w.one in omega arith

  module _ (p : ℕ) where
    in_square_lem : Between a l p → p / 128 ≡ square
    in_square_lem b = let o = w.one in let c = w.corner in let x = b.low in let y = b.high in omega arith

    -- the cells of a line, likewise
    in_cells : Between a l p → Between (a / 4 % 32) (l / 4) (p / 4 % 32)
    in_cells b =
        let i = w.starts in
        let j = w.ends in
        let c = w.corner in
        let s = in_square_lem b in
        let x = b.low in
        let y = b.high in
        let low : a / 4 ≤ p / 4 = omega arith in
        let high : p / 4 < a / 4 + l / 4 = omega arith in
        let d : a / 4 / 32 ≡ square = omega arith in
        let e : p / 4 / 32 ≡ square = omega arith in
        record { low = omega arith; high = omega arith }

    cells_in : p / 128 ≡ square → Between (a / 4 % 32) (l / 4) (p / 4 % 32) → Between a l p
    cells_in e b =
        let i = w.starts in
        let j = w.ends in
        let c = w.corner in
        let x = b.low in
        let y = b.high in
        record { low = omega arith; high = omega arith }

-- ---- the number of a cell, from its place and its line

module _ (a b wide high p q : ℕ) (fits : a + wide ≤ 32) where
  covers : Between a wide p → Between b high q → Covers high wide (b * 32 + a) (q * 32 + p)
  covers x y =
      let x₀ = x.low in
      let x₁ = x.high in
      let y₀ = y.low in
      let y₁ = y.high in
      let e : q * 32 + p - (b * 32 + a) ≡ (q - b) * 32 + (p - a) = omega arith in
      record { from = omega arith; line = rw e (omega arith); place = rw e (omega arith) }

  covered_by : p < 32 → Covers high wide (b * 32 + a) (q * 32 + p) → Between a wide p × Between b high q
  covered_by small s =
      let f = s.from in
      let l = s.line in
      let m = s.place in
      (record { low = omega arith; high = omega arith }, record { low = omega arith; high = omega arith })

-- ---- both dimensions

module _ {across down : ℕ} {r : Row} (c : Celled across down r) where
  pub wide_whole : Whole across r.x (2 ^ r.ew)
  wide_whole = record { starts = c.whole.left; ends = c.whole.wide; some = pow_pos r.ew; corner = c.lies.corner.0; one = c.lies.one.across }

  pub high_whole : Whole down r.y (2 ^ r.eh)
  high_whole = record { starts = c.whole.top; ends = c.whole.high; some = pow_pos r.eh; corner = c.lies.corner.1; one = c.lies.one.down }

  -- the row's cells, and that of a sample
  abbrev pub Cells : ℕ → ℕ → Type 0
  Cells px py = Covers (2 ^ r.eh / 4) (2 ^ r.ew / 4) (cell_at r.x r.y) (cell_at px py)

  module _ (px py : ℕ) where
    inside : 0 < in_row r px py → Between r.x (2 ^ r.ew) px × Between r.y (2 ^ r.eh) py
    inside = in_rectangle r.x r.y (2 ^ r.ew) (2 ^ r.eh) px py

    pub of_square : 0 < in_row r px py → (px / 128 ≡ across) × (py / 128 ≡ down)
    of_square some = let i = inside some in (in_square_lem wide_whole px i.0, in_square_lem high_whole py i.1)

    pub sample_cell : 0 < in_row r px py → Cells px py
    sample_cell some = let i = inside some in covers _ _ _ _ _ _ (cells_fit wide_whole) (in_cells wide_whole px i.0) (in_cells high_whole py i.1)

    pub cell_sample : (px / 128 ≡ across) × (py / 128 ≡ down) → Cells px py → in_row r px py ≡ 1
    cell_sample here s =
        let b = covered_by (r.x / 4 % 32) (r.y / 4 % 32) (2 ^ r.ew / 4) (2 ^ r.eh / 4) (px / 4 % 32) (py / 4 % 32) (cells_fit wide_whole) (omega arith) s in
        rectangle_in r.x r.y (2 ^ r.ew) (2 ^ r.eh) px py (cells_in wide_whole px here.0 b.0) (cells_in high_whole py here.1 b.1)
