-- Rows and their bytes: as many rows are read as are asked for, what holds of all holds of each, and the bytes of small rows give the rows back.
use Prim.Native.Nat.{ℕ, zero, suc, ◌+◌, ◌*◌, ◌%◌, ◌≤◌, ◌<◌}
use mathlib.Core.Path.{◌≡◌, refl, sym, ap, ap₂, ◌∙◌}
use mathlib.Core.List.{List, ◌∷◌, ◌++◌, append_assoc}
use lib.ListN.{length, get_or, length-append}
use lib.Seq.{get_or-append-add}
use native.Mathlib.Omega.{arith}
use Rattle.tree.specs.Rows.{Row, row_bytes, table_bytes, row_at, rows_at}
use Rattle.laws.specs.Geometry.{SmallRow}
use Rattle.laws.specs.Every.{Every, every_none, every_more}

pub rows_long : (m : ℕ) (bytes : List ℕ) (i : ℕ) → length (rows_at m bytes i) ≡ m
unfolding rows_at
rows_long zero bytes i = refl
rows_long (suc m) bytes i = ap suc (rows_long m bytes (i + 8))

-- what holds of the rows holds of each of them
pub row_has : {P : Row → Type 0} (n k : ℕ) (bytes : List ℕ) (i : ℕ) → k < n → Every P (rows_at n bytes i) → P (row_at bytes (i + k * 8))
unfolding rows_at
row_has zero k bytes i h all = absurd (omega arith)
row_has (suc n) zero bytes i h (every_more p ps) = let e : i + 0 * 8 ≡ i = omega arith in rw e p
row_has (suc n) (suc k) bytes i h (every_more p ps) = let e : i + 8 + k * 8 ≡ i + suc k * 8 = omega arith in rw e at (row_has n k bytes (i + 8) (omega arith) ps)

-- ---- one row, between other bytes

module _ (first rest : List ℕ) (r : Row) (s : SmallRow r) where
  abbrev bytes : List ℕ
  bytes = first ++ (row_bytes r ++ rest)

  at : (n : ℕ) → get_or bytes (length first + n) 0 ≡ get_or (row_bytes r ++ rest) n 0
  at n = get_or-append-add first (row_bytes r ++ rest) n 0

  x_back : get_or bytes (length first) 0 + 256 * get_or bytes (length first + 1) 0 ≡ r.x
  unfolding row_bytes
  x_back =
      let z : length first ≡ length first + 0 = omega arith in
      let a = ap (λ n. get_or bytes n 0) z ∙ at 0 in
      let b = at 1 in
      let h = s.x_fits in
      omega arith

  y_back : get_or bytes (length first + 2) 0 + 256 * get_or bytes (length first + 3) 0 ≡ r.y
  unfolding row_bytes
  y_back = let a = at 2 in let b = at 3 in let h = s.y_fits in omega arith

  row_back : row_at bytes (length first) ≡ r
  unfolding row_at row_bytes
  row_back = λ i. record {
    x = x_back i;
    y = y_back i;
    ew = (at 4 ∙ small r.ew (omega arith)) i;
    eh = (at 5 ∙ small r.eh (omega arith)) i;
    qt = (at 6 ∙ small r.qt (omega arith)) i;
    mtt = (at 7 ∙ small r.mtt (omega arith)) i;
  }
    where
      small : (n : ℕ) → n ≤ 255 → n % 256 ≡ n
      small n h = omega arith

-- ---- rows

pub table_back : (first rest : List ℕ) {rows : List Row} → Every SmallRow rows → rows_at (length rows) (first ++ (table_bytes rows ++ rest)) (length first) ≡ rows
unfolding rows_at table_bytes row_bytes
table_back first rest every_none = refl
table_back first rest (every_more {a = r} {rest = rows} s ss) =
    ap₂ (λ a b. a ∷ b) (row_back first (table_bytes rows ++ rest) r s)
    (ap₂ (λ b n. rows_at (length rows) b n) (sym (append_assoc first (row_bytes r) (table_bytes rows ++ rest))) (sym (length-append first (row_bytes r)))
    ∙ table_back (first ++ row_bytes r) rest ss)
