-- The corner of the row before which so many cells go by: its two halves say at which edges the row starts.
use Rattle.std.proofs.Common.{◌≡◌, ℕ, zero, suc, ◌+◌, ◌-◌, ◌*◌, ◌/◌, ◌%◌, ◌<◌, ◌≤◌, Bool, true, false, cond, ◌&&◌, eqb, leb, List, [], ◌∷◌, ◌++◌, take, sym, refl, ap, ◌∙◌, subst, arith, pow_pos, ne_eqb, le-leb, leb-true}
use borrow.Author.Tests.{lt-leb}
use Rattle.tree.specs.Rows.{Row, row_at, rows_at}
use Rattle.tree.specs.Back.{cells_of, starts_after}
use Rattle.laws.specs.Areas.{cells_of_all}
use Rattle.marks.specs.Table.{Eight}
use Rattle.marks.specs.Marks.{corner_after}
use Rattle.marks.proofs.RowWords.{of_bytes}

module _ (rest : List Row) where
  pub corner_here : (r : Row) → corner_after 0 (r ∷ rest) ≡ r.x + 65536 * r.y
  unfolding corner_after
  corner_here r = rw (lt-leb (cells_of r) 0 (pow_pos ((r.ew + r.eh + 12) % 16)))

  -- none starts within a row
  pub corner_within : (r : Row) (count : ℕ) → 0 < count → count < cells_of r → corner_after count (r ∷ rest) ≡ 4294967295
  unfolding corner_after
  corner_within r count some h = rw (lt-leb (cells_of r) count h, ne_eqb count 0 (λ e. omega arith))

  -- rows that go by
  pub corner_past : (rows : List Row) (count : ℕ) → corner_after (cells_of_all rows + count) (rows ++ rest) ≡ corner_after count rest
  unfolding corner_after
  corner_past [] count = ap (λ c. corner_after c rest) (omega arith)
  corner_past (r ∷ rows) count =
      rw (le-leb (cells_of r) (cells_of r + cells_of_all rows + count) (omega arith)) (ap (λ c. corner_after c (rows ++ rest)) (omega arith) ∙ corner_past rows count)

-- ---- the edges that it says

-- one of a row's two places, and where it stands in a corner's number
record Half (side : Row → ℕ) (part : ℕ → ℕ) : Type 0 where
  fits : (r : Row) → r.x < 65536 → r.y < 65536 → part (r.x + 65536 * r.y) ≡ side r
  none : part 4294967295 ≡ 65535

module _ (bytes : List ℕ) where
  -- rows are bytes, as far as so many cells go
  abbrev pub SmallTo : ℕ → ℕ → ℕ → Type 0
  SmallTo m i count = (j : ℕ) → j < m → cells_of_all (take j (rows_at m bytes i)) ≤ count → Eight bytes (i + j * 8)

  module _ {side : Row → ℕ} {part : ℕ → ℕ} (h : Half side part) {a : ℕ} (small : a < 65535) where
    abbrev test : Row → Bool
    test r = eqb (side r) a

    nowhere : false ≡ eqb (part 4294967295) a
    nowhere = rw h.none (sym (ne_eqb 65535 a (λ e. omega arith)))

    starts_corner : (m i count : ℕ) → SmallTo m i count → starts_after count test (rows_at m bytes i) ≡ eqb (part (corner_after count (rows_at m bytes i))) a
    unfolding starts_after corner_after rows_at
    starts_corner zero i count eight = nowhere
    starts_corner (suc m) i count eight =
        go (leb (cells_of (row_at bytes i)) count) (eqb count 0) refl (starts_corner m (i + 8) (count - cells_of (row_at bytes i)))
      where
        go : (past none : Bool) → leb (cells_of (row_at bytes i)) count ≡ past
            → (SmallTo m (i + 8) (count - cells_of (row_at bytes i))
            → starts_after (count - cells_of (row_at bytes i)) test (rows_at m bytes (i + 8)) ≡ eqb (part (corner_after (count - cells_of (row_at bytes i)) (rows_at m bytes (i + 8)))) a)
            → cond past (starts_after (count - cells_of (row_at bytes i)) test (rows_at m bytes (i + 8))) (none && test (row_at bytes i))
            ≡ eqb (part (cond past (corner_after (count - cells_of (row_at bytes i)) (rows_at m bytes (i + 8))) (cond none ((row_at bytes i).x + 65536 * (row_at bytes i).y) 4294967295))) a
        go true none e later =
            let l = leb-true (cells_of (row_at bytes i)) count e in
            later (λ j less within. subst (λ (x : ℕ). Eight bytes x) (let s : i + suc j * 8 ≡ i + 8 + j * 8 = omega arith in s) (eight (suc j) (omega arith) (omega arith)))
        go false true e later =
            let b = of_bytes (subst (λ (x : ℕ). Eight bytes x) (let s : i + 0 * 8 ≡ i = omega arith in s) (eight 0 (omega arith) (omega arith))) in
            ap (λ s. eqb s a) (sym (h.fits (row_at bytes i) b.at_x b.at_y))
        go false false e later = nowhere

  left_half : Half (λ r. r.x) (λ corner. corner % 65536)
  left_half = record { fits = λ r h k. omega arith; none = refl }

  top_half : Half (λ r. r.y) (λ corner. corner / 65536)
  top_half = record { fits = λ r h k. omega arith; none = refl }

  pub starts_left : (x : ℕ) → x < 65535 → (m i count : ℕ) → SmallTo m i count → starts_after count (λ r. eqb r.x x) (rows_at m bytes i) ≡ eqb (corner_after count (rows_at m bytes i) % 65536) x
  starts_left x h = starts_corner left_half h

  pub starts_top : (y : ℕ) → y < 65535 → (m i count : ℕ) → SmallTo m i count → starts_after count (λ r. eqb r.y y) (rows_at m bytes i) ≡ eqb (corner_after count (rows_at m bytes i) / 65536) y
  starts_top y h = starts_corner top_half h
