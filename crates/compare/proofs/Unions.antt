-- Finer, for two tables with the same samples, each once: a table is finer or equal exactly where each of its rows lies inside the other's block that has its corner.
use Prim.Native.Nat.{ℕ, ◌+◌, ◌-◌, ◌^◌, ◌≤◌, ◌<◌}
use mathlib.Core.Path.{◌≡◌, refl, subst}
use mathlib.Core.Bool.{Bool, true, ◌&&◌}
use mathlib.Core.List.{List}
use mathlib.Core.Option.{some}
use native.Mathlib.Omega.{arith}
use borrow.Author.Tests.{eq-eqb, eqb-true, leb-true, le-leb}
use lib.ListN.{get_elem?}
use lib.Dec.{leb}
use Rattle.sides.proofs.Bools.{and_left, and_right, and_intro}
use Rattle.tree.specs.Rows.{Row}
use Rattle.laws.specs.Geometry.{in_row, copies}
use Rattle.laws.specs.CellOrder.{RowAt}
use Rattle.laws.proofs.Copies.{own_corner, copies_zero, copies_parts, row_dropped, some_row_lem, one_row}
use Rattle.laws.proofs.Rectangles.{Between, rectangle_in, in_rectangle, rectangle_most}
use Rattle.compare.specs.Finer.{some_row, every_below, has_sample, span_in, lies_in, is_union, finer_or_equal}
use Rattle.compare.proofs.Several.{each_of, each_from, some_of, some_from, below_of, below_from}

-- ---- one block

module _ (r : Row) (px py : ℕ) where
  has_of : has_sample r px py ≡ true → 0 < in_row r px py
  has_of h = let e = eqb-true (in_row r px py) 1 h in omega arith

  has_from : 0 < in_row r px py → has_sample r px py ≡ true
  has_from h = let m = rectangle_most r.x r.y (2 ^ r.ew) (2 ^ r.eh) px py in eq-eqb (in_row r px py) 1 (omega arith)

pub span_ends : (a l b m : ℕ) → span_in a l b m ≡ true → (b ≤ a) × (a + l ≤ b + m)
span_ends a l b m h = (leb-true b a (and_left (leb b a) (leb (a + l) (b + m)) h), leb-true (a + l) (b + m) (and_right (leb b a) (leb (a + l) (b + m)) h))

pub span_from : (a l b m : ℕ) → b ≤ a → a + l ≤ b + m → span_in a l b m ≡ true
span_from a l b m low high = and_intro (leb b a) (leb (a + l) (b + m)) (le-leb b a low) (le-leb (a + l) (b + m) high)

span_between : (a l b m p : ℕ) → span_in a l b m ≡ true → Between a l p → Between b m p
span_between a l b m p h i =
    let e = span_ends a l b m h in
    let u = e.0 in
    let v = e.1 in
    let x = i.low in
    let y = i.high in
    record { low = omega arith; high = omega arith }

-- the samples of a block that lies inside another are samples of that
lies_samples : (r b : Row) (px py : ℕ) → lies_in r b ≡ true → 0 < in_row r px py → 0 < in_row b px py
unfolding lies_in
lies_samples r b px py h here =
    let i = in_rectangle r.x r.y (2 ^ r.ew) (2 ^ r.eh) px py here in
    let wide = span_in r.x (2 ^ r.ew) b.x (2 ^ b.ew) in
    let high = span_in r.y (2 ^ r.eh) b.y (2 ^ b.eh) in
    let x = span_between r.x (2 ^ r.ew) b.x (2 ^ b.ew) px (and_left wide high h) i.0 in
    let y = span_between r.y (2 ^ r.eh) b.y (2 ^ b.eh) py (and_right wide high h) i.1 in
    let e = rectangle_in b.x b.y (2 ^ b.ew) (2 ^ b.eh) px py x y in
    omega arith

-- ---- a block that is a union

-- some row has the sample and lies inside the block
abbrev pub Part : List Row → Row → ℕ → ℕ → Type 0
Part rows b px py = (i : ℕ) × RowAt (λ r. (0 < in_row r px py) × (lies_in r b ≡ true)) rows i

module _ (rows : List Row) (b : Row) where
  abbrev test : ℕ → ℕ → Row → Bool
  test px py r = has_sample r px py && lies_in r b

  part_of : (px py : ℕ) → ((i : ℕ) × RowAt (λ r. test px py r ≡ true) rows i) → Part rows b px py
  part_of px py f =
      let r = f.1.row in (
        f.0,
        record {
          row = r;
          is = f.1.is;
          has = (has_of r px py (and_left (has_sample r px py) (lies_in r b) f.1.has), and_right (has_sample r px py) (lies_in r b) f.1.has);
        },
      )

  -- the test of the sample in a column and a line of the block
  abbrev test_at : ℕ → ℕ → Bool
  test_at i j = some_row (test (b.x + i) (b.y + j)) rows

  abbrev test_column : ℕ → Bool
  test_column i = every_below (2 ^ b.eh) (test_at i)

  pub union_of : is_union rows b ≡ true → (px py : ℕ) → 0 < in_row b px py → Part rows b px py
  unfolding is_union
  union_of h px py here =
      let at = in_rectangle b.x b.y (2 ^ b.ew) (2 ^ b.eh) px py here in
      let x₀ = at.0.low in
      let x₁ = at.0.high in
      let y₀ = at.1.low in
      let y₁ = at.1.high in
      let x : b.x + (px - b.x) ≡ px = omega arith in
      let y : b.y + (py - b.y) ≡ py = omega arith in
      let column = below_of test_column (2 ^ b.ew) h (px - b.x) (omega arith) in
      let there = below_of (test_at (px - b.x)) (2 ^ b.eh) column (py - b.y) (omega arith) in
      part_of px py (some_of (test px py) rows (rw (x, y) at there))

  part_from : (px py : ℕ) → Part rows b px py → some_row (test px py) rows ≡ true
  part_from px py f =
      let r = f.1.row in
      some_from (test px py) rows f.0 f.1.is (and_intro (has_sample r px py) (lies_in r b) (has_from r px py f.1.has.0) f.1.has.1)

  pub union_from : ((px py : ℕ) → 0 < in_row b px py → Part rows b px py) → is_union rows b ≡ true
  unfolding is_union
  union_from f =
      below_from test_column (2 ^ b.ew)
      (λ i across. below_from (test_at i) (2 ^ b.eh)
      (λ j down. part_from (b.x + i) (b.y + j) (f (b.x + i) (b.y + j) (inside i j across down))))
    where
      inside : (i j : ℕ) → i < 2 ^ b.ew → j < 2 ^ b.eh → 0 < in_row b (b.x + i) (b.y + j)
      inside i j across down =
          let e = rectangle_in b.x b.y (2 ^ b.ew) (2 ^ b.eh) (b.x + i) (b.y + j) (record { low = omega arith; high = omega arith }) (record { low = omega arith; high = omega arith }) in
          omega arith

-- ---- two tables with the same samples, each once

has_copies : (px py : ℕ) (rows : List Row) {r : Row} (i : ℕ) → get_elem? rows i ≡ some r → 0 < in_row r px py → 0 < copies px py rows
has_copies px py rows i e h = let a = row_dropped px py rows i 0 e (omega arith) in let b = copies_parts px py 0 rows in let c = copies_zero px py rows in omega arith

-- the row of the other table that has a row's corner
pub other_at : (rows others : List Row) → ((px py : ℕ) → copies px py rows ≡ copies px py others) → (i : ℕ) (r : Row) → get_elem? rows i ≡ some r
    → (j : ℕ) × RowAt (λ b. 0 < in_row b r.x r.y) others j
other_at rows others same i r e =
    let own = own_corner r in
    let there = has_copies r.x r.y rows i e (omega arith) in
    let s = same r.x r.y in
    some_row_lem r.x r.y others (omega arith)

-- a row lies inside a block of the other table
abbrev InBlock : List Row → Row → Type 0
InBlock others r = (j : ℕ) × RowAt (λ b. lies_in r b ≡ true) others j

module _ (rows others : List Row) where
  -- a row that has a sample of a block lies inside it
  pub finer_of : ((px py : ℕ) → copies px py rows ≤ 1) → finer_or_equal rows others ≡ true → {r b : Row} (i j : ℕ)
      → get_elem? rows i ≡ some r → get_elem? others j ≡ some b → (px py : ℕ) → 0 < in_row r px py → 0 < in_row b px py → lies_in r b ≡ true
  unfolding finer_or_equal
  finer_of once h {r} {b} i j e f px py here there =
      let part = union_of rows b (each_of (is_union rows) others h j f) px py there in
      let same : part.1.row ≡ r = one_row px py rows (once px py) part.1.has.0 here part.0 i part.1.is e in
      subst (λ q. lies_in q b ≡ true) same part.1.has.1

  pub finer_from : ((px py : ℕ) → copies px py others ≤ 1) → ((px py : ℕ) → copies px py rows ≡ copies px py others)
      → ((i : ℕ) (r : Row) → get_elem? rows i ≡ some r → InBlock others r) → finer_or_equal rows others ≡ true
  unfolding finer_or_equal
  finer_from once same f = each_from (is_union rows) others (λ j b e. union_from rows b (λ px py there. part j b e px py there))
    where
      part : (j : ℕ) (b : Row) → get_elem? others j ≡ some b → (px py : ℕ) → 0 < in_row b px py → Part rows b px py
      part j b e px py there =
          let t = has_copies px py others j e there in
          let s = same px py in
          let found = some_row_lem px py rows (omega arith) in
          let r = found.1.row in
          let block = f found.0 r found.1.is in
          let also = lies_samples r block.1.row px py block.1.has found.1.has in
          let is : block.1.row ≡ b = one_row px py others (once px py) also there block.0 j block.1.is e in
          (found.0, record { row = r; is = found.1.is; has = (found.1.has, subst (λ q. lies_in r q ≡ true) is block.1.has) })

  -- the block that has a row's corner, where the rows' table is finer or equal: the row lies inside it
  pub corner_block : ((px py : ℕ) → copies px py rows ≤ 1) → ((px py : ℕ) → copies px py rows ≡ copies px py others) → finer_or_equal rows others ≡ true
      → (i : ℕ) (r : Row) → get_elem? rows i ≡ some r → (j : ℕ) × RowAt (λ b. (0 < in_row b r.x r.y) × (lies_in r b ≡ true)) others j
  corner_block once same h i r e =
      let own = own_corner r in
      let found = other_at rows others same i r e in
      let there = found.1.has in
      (found.0, record { row = found.1.row; is = found.1.is; has = (there, finer_of once h i found.0 e found.1.is r.x r.y (omega arith) there) })

-- ---- a table and itself

pub lies_self : (r : Row) → lies_in r r ≡ true
unfolding lies_in
lies_self r = and_intro _ _ (self r.x (2 ^ r.ew)) (self r.y (2 ^ r.eh))
  where
    self : (a l : ℕ) → span_in a l a l ≡ true
    self a l = span_from a l a l (omega arith) (omega arith)

pub finer_self : (rows : List Row) → ((px py : ℕ) → copies px py rows ≤ 1) → finer_or_equal rows rows ≡ true
finer_self rows once = finer_from rows rows once (λ px py. refl) (λ i r e. (i, record { row = r; is = e; has = lies_self r }))
