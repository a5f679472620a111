-- The rows of a table from one of them on, and the cells before it.
use Rattle.std.proofs.Common.{◌≡◌, ℕ, zero, suc, ◌+◌, ◌-◌, ◌*◌, ◌/◌, ◌%◌, ◌<◌, ◌≤◌, List, [], ◌∷◌, ◌++◌, length, take, drop, sym, refl, ap, ◌∙◌, arith, take-append-drop, length-take-le, take-add, pow_pos}
use Rattle.tree.specs.Rows.{Row, row_at, rows_at, rows_in}
use Rattle.tree.specs.Back.{cells_of}
use Rattle.laws.specs.Areas.{cells_of_all}
use Rattle.laws.proofs.Starts.{cells_append, cells_least}
use Rattle.laws.proofs.Tables.{rows_long}
use Rattle.marks.specs.Table.{rows_left, Left}
use Rattle.marks.specs.Marks.{cells_before}

same_rows : (bytes : List ℕ) (m n i j : ℕ) → m ≡ n → i ≡ j → rows_at m bytes i ≡ rows_at n bytes j
same_rows bytes m n i j e f = rw (e, f)

no_rows : (bytes : List ℕ) (m i : ℕ) → m ≡ 0 → rows_at m bytes i ≡ []
unfolding rows_at
no_rows bytes m i e = rw e

-- ---- the row that is next

next : (bytes : List ℕ) (i j n m : ℕ) → j ≡ i + 8 → n ≡ suc m → rows_at n bytes i ≡ row_at bytes i ∷ rows_at m bytes j
unfolding rows_at
next bytes i j n m e f = rw (e, f)

pub from_next : (bytes : List ℕ) (i : ℕ) → i < length bytes / 8 → rows_left bytes i ≡ row_at bytes (i * 8) ∷ rows_left bytes (i + 1)
from_next bytes i h = next bytes (i * 8) ((i + 1) * 8) (length bytes / 8 - i) (length bytes / 8 - (i + 1)) (omega arith) (omega arith)

pub from_end : (bytes : List ℕ) (i : ℕ) → length bytes / 8 ≤ i → rows_left bytes i ≡ []
from_end bytes i h = no_rows bytes _ _ (omega arith)

-- ---- the rows that are left at a place

module _ {bytes : List ℕ} {at : ℕ} {rows : List Row} (l : Left bytes at rows) where
  pub no_row : length bytes ≤ at → rows ≡ []
  no_row h = l.from ∙ from_end bytes (at / 8) (omega arith)

  module _ (more : at + 8 ≤ length bytes) where
    pub next_row : rows ≡ row_at bytes at ∷ rows_left bytes (at / 8 + 1)
    next_row =
        let f = l.first in
        let e : at / 8 * 8 ≡ at = omega arith in
        l.from ∙ from_next bytes (at / 8) (omega arith) ∙ ap (λ (i : ℕ). row_at bytes i ∷ rows_left bytes (at / 8 + 1)) e

    pub after_row : Left bytes (at + 8) (rows_left bytes (at / 8 + 1))
    after_row = let f = l.first in let e : at / 8 + 1 ≡ (at + 8) / 8 = omega arith in record { from = ap (rows_left bytes) e; first = omega arith; within = more }

-- ---- the rows before, and those from there on

drop_rows : (k m : ℕ) (bytes : List ℕ) (i : ℕ) → drop k (rows_at m bytes i) ≡ rows_at (m - k) bytes (i + k * 8)
unfolding rows_at
drop_rows zero m bytes i = same_rows bytes m (m - 0) i (i + 0 * 8) (omega arith) (omega arith)
drop_rows (suc k) zero bytes i = sym (no_rows bytes (0 - suc k) (i + suc k * 8) (omega arith))
drop_rows (suc k) (suc m) bytes i = drop_rows k m bytes (i + 8) ∙ same_rows bytes (m - k) (suc m - suc k) (i + 8 + k * 8) (i + suc k * 8) (omega arith) (omega arith)

module _ (bytes : List ℕ) where
  pub from_drop : (i : ℕ) → drop i (rows_in bytes) ≡ rows_left bytes i
  from_drop i = drop_rows i (length bytes / 8) bytes 0 ∙ same_rows bytes _ (length bytes / 8 - i) (0 + i * 8) (i * 8) refl (omega arith)

  pub rows_apart : (i : ℕ) → take i (rows_in bytes) ++ rows_left bytes i ≡ rows_in bytes
  rows_apart i = ap (λ rs. take i (rows_in bytes) ++ rs) (sym (from_drop i)) ∙ take-append-drop i (rows_in bytes)

  -- the cells of some rows more
  pub cells_on : (i k : ℕ) → cells_before bytes (i + k) ≡ cells_before bytes i + cells_of_all (take k (rows_left bytes i))
  cells_on i k =
      ap cells_of_all (take-add i k (rows_in bytes)) ∙ cells_append (take i (rows_in bytes)) (take k (drop i (rows_in bytes)))
      ∙ ap (λ rs. cells_before bytes i + cells_of_all (take k rs)) (from_drop i)

  pub cells_next : (i : ℕ) → i < length bytes / 8 → cells_before bytes (i + 1) ≡ cells_before bytes i + cells_of (row_at bytes (i * 8))
  cells_next i h = cells_on i 1 ∙ rw (from_next bytes i h) (omega arith)

  pub cells_more : (i : ℕ) → i < length bytes / 8 → cells_before bytes i < cells_before bytes (i + 1)
  cells_more i h =
      let c = cells_next i h in
      let p = pow_pos (((row_at bytes (i * 8)).ew + (row_at bytes (i * 8)).eh + 12) % 16) in
      omega arith

  -- they never fall, and each row has one
  pub cells_later : (i j : ℕ) → i ≤ j → cells_before bytes i ≤ cells_before bytes j
  cells_later i j h =
      let e : j ≡ i + (j - i) = omega arith in
      let c = cells_on i (j - i) in
      rw e (omega arith)

  pub rows_cells : (i : ℕ) → i ≤ length bytes / 8 → i ≤ cells_before bytes i
  rows_cells i h =
      let c = cells_least (take i (rows_in bytes)) in
      let e = length-take-le i (rows_in bytes) (let l = rows_long (length bytes / 8) bytes 0 in omega arith) in
      omega arith
