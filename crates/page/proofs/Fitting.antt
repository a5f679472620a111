-- The numbers of a line fit their columns, so each line is as long as the columns are wide.
use Prim.Native.Nat.{ℕ, ◌+◌, ◌*◌, ◌^◌, ◌≤◌, ◌<◌}
use mathlib.Core.Path.{◌≡◌, refl}
use mathlib.Core.List.{List}
use native.Mathlib.Omega.{arith}
use lib.ListN.{length, length-append}
use lib.Pow.{pow_mono}
use Rattle.tree.specs.Rows.{Row}
use Rattle.laws.specs.Every.{Every, every_none, every_more}
use Rattle.laws.specs.Geometry.{SmallRow}
use Rattle.page.specs.Lines.{digits, column, row_columns, line, lines, Fits}
use Rattle.page.proofs.Digits.{digits_few}
use Rattle.page.proofs.Cells.{column_long}

side_few : {e : ℕ} → e ≤ 7 → length (digits (2 ^ e)) ≤ 3
side_few {e} h = let most = pow_mono h in digits_few 2 (2 ^ e) (omega arith)

pub fits : {address : ℕ} {r : Row} → address < 1000000 → SmallRow r → r.qt + r.mtt ≤ 10 → Fits address r
fits {address} {r} h s deep = record {
  address_fits = digits_few 5 address h;
  x_fits = let few = digits_few 4 r.x (let most = s.x_fits in omega arith) in omega arith;
  y_fits = let few = digits_few 4 r.y (let most = s.y_fits in omega arith) in omega arith;
  width_fits = let few = side_few s.most_w in omega arith;
  height_fits = let few = side_few s.most_h in omega arith;
  qt_fits = let few = digits_few 1 r.qt (omega arith) in omega arith;
  mtt_fits = let few = digits_few 1 r.mtt (omega arith) in omega arith;
}

-- ---- how long a line is

-- every column of a small row is as long as it is wide
pub record Held (r : Row) : Type 0 where
  pub x_long : length (column 6 r.x) ≡ 6
  pub y_long : length (column 6 r.y) ≡ 6
  pub width_long : length (column 4 (2 ^ r.ew)) ≡ 4
  pub height_long : length (column 4 (2 ^ r.eh)) ≡ 4
  pub qt_long : length (column 3 r.qt) ≡ 3
  pub mtt_long : length (column 3 r.mtt) ≡ 3

pub small_held : {r : Row} → SmallRow r → Held r
small_held {r} s = record {
  x_long = column_long r.x (digits_few 5 r.x (let most = s.x_fits in omega arith));
  y_long = column_long r.y (digits_few 5 r.y (let most = s.y_fits in omega arith));
  width_long = column_long (2 ^ r.ew) (let few = side_few s.most_w in omega arith);
  height_long = column_long (2 ^ r.eh) (let few = side_few s.most_h in omega arith);
  qt_long = column_long r.qt (digits_few 2 r.qt (let most = s.depths in omega arith));
  mtt_long = column_long r.mtt (digits_few 2 r.mtt (let most = s.depths in omega arith));
}

-- so a line has 33 bytes
pub line_long : (address : ℕ) {r : Row} → address < 1000000 → SmallRow r → length (line address r) ≡ 33
unfolding line row_columns
line_long address {r} h small =
    let a : length (column 6 address) ≡ 6 = column_long address (digits_few 5 address h) in
    let held = small_held small in
    simp (length-append, a, held.x_long, held.y_long, held.width_long, held.height_long, held.qt_long, held.mtt_long)

pub lines_long : (address : ℕ) {rows : List Row} → Every (λ r. length (line address r) ≡ 33) rows → length (lines address rows) ≡ 33 * length rows
unfolding lines
lines_long address every_none = refl
lines_long address (every_more a rest) = let b = lines_long address rest in simp length-append (omega arith)
