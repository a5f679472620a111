-- The rows of a table, as the walk of the way back reads them.
use Rattle.std.specs.Prelude.{◌≡◌, ℕ, ◌+◌, ◌-◌, ◌*◌, ◌/◌, ◌%◌, ◌<◌, ◌≤◌, Bool, ◌&&◌, List, [], ◌∷◌, length, ◌==◌, nat_lt, slice_index, slice_index_or}
use Rattle.tree.specs.Rows.{Row, rows_at}
use Rattle.blocks.specs.RowNumbers.{word_of}

-- the rows of a table from the row with a number on
abbrev pub rows_left : List ℕ → ℕ → List Row
rows_left bytes i = rows_at (length bytes / 8 - i) bytes (i * 8)

-- these rows are left at a place of a table, which is the first byte of a row
pub record Left (bytes : List ℕ) (at : ℕ) (rows : List Row) : Type 0 where
  pub from : rows ≡ rows_left bytes (at / 8)
  pub first : at % 8 ≡ 0
  pub within : at ≤ length bytes

-- the 8 bytes at a place as one number, the first the lowest
unfoldable pub word_at : List ℕ → ℕ → ℕ
word_at bytes i =
    word_of
    (slice_index bytes i ∷ slice_index bytes (i + 1) ∷ slice_index bytes (i + 2) ∷ slice_index bytes (i + 3)
    ∷ slice_index bytes (i + 4) ∷ slice_index bytes (i + 5) ∷ slice_index bytes (i + 6) ∷ slice_index bytes (i + 7) ∷ [])

-- they are bytes
pub record Eight (bytes : List ℕ) (i : ℕ) : Type 0 where
  pub at_0 : slice_index_or bytes i 0 < 256
  pub at_1 : slice_index_or bytes (i + 1) 0 < 256
  pub at_2 : slice_index_or bytes (i + 2) 0 < 256
  pub at_3 : slice_index_or bytes (i + 3) 0 < 256
  pub at_4 : slice_index_or bytes (i + 4) 0 < 256
  pub at_5 : slice_index_or bytes (i + 5) 0 < 256
  pub at_6 : slice_index_or bytes (i + 6) 0 < 256
  pub at_7 : slice_index_or bytes (i + 7) 0 < 256

-- the row at a place is the one of a number; where there is one, it is of bytes
pub record Same (bytes : List ℕ) (at row : ℕ) (answer : Bool) : Type 0 where
  pub tests : answer ≡ (nat_lt at (length bytes) && word_at bytes at == row)
  pub eight : at < length bytes → Eight bytes at
