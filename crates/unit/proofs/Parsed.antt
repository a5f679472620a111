-- Bytes and rows: the rows of whole rows' bytes give the bytes back.
use Prim.Native.Nat.{ℕ, zero, suc, ◌+◌, ◌*◌, ◌/◌, ◌%◌, ◌≤◌, ◌<◌}
use mathlib.Core.Path.{◌≡◌, refl, sym, ap, ◌∙◌}
use mathlib.Core.List.{List, [], ◌∷◌, ◌++◌, append-nil}
use lib.ListN.{length, get_or, drop, drop_of_length-le}
use lib.Seq.{drop-cons}
use native.Mathlib.Omega.{arith}
use native.Mathlib.Nat.{add_assoc}
use native.Mathlib.Numerals.{add-one}
use Rattle.tree.specs.Rows.{Row, row_bytes, table_bytes, row_at, rows_at, rows_in}
use Rattle.laws.specs.Geometry.{SmallRow}
use Rattle.laws.specs.Every.{Every}
use Rattle.laws.proofs.Tables.{table_back}
use Rattle.unit.specs.Exactly.{Bytes}

pub table_length : (rows : List Row) → length (table_bytes rows) ≡ 8 * length rows
unfolding table_bytes row_bytes
table_length [] = refl
table_length (r ∷ rows) = let e = table_length rows in omega arith

-- small rows are the rows that their bytes say
pub small_back : {rows : List Row} → Every SmallRow rows → rows_in (table_bytes rows) ≡ rows
small_back {rows} small =
    let e = table_length rows in
    let n : length (table_bytes rows) / 8 ≡ length rows = omega arith in
    rw n (rw append-nil at (table_back [] [] small))

-- past the end there is 0
byte_small : (bytes : List ℕ) → Bytes bytes → (i : ℕ) → get_or bytes i 0 < 256
byte_small [] h i = omega arith
byte_small (b ∷ bytes) h zero = h.0
byte_small (b ∷ bytes) h (suc i) = byte_small bytes h.1 i

module _ (bytes : List ℕ) (small : Bytes bytes) where
  -- so many bytes from a place on, then the others
  abbrev from : ℕ → ℕ → List ℕ
  from zero at = drop at bytes
  from (suc n) at = get_or bytes at 0 ∷ from n (at + 1)

  drop_from : (n at : ℕ) → at + n ≤ length bytes → drop at bytes ≡ from n at
  drop_from zero at h = refl
  drop_from (suc n) at h = drop-cons bytes at 0 (omega arith) ∙ ap (λ l. get_or bytes at 0 ∷ l) (rw (← (add-one at)) (drop_from n (at + 1) (omega arith)))

  low : (i j : ℕ) → (get_or bytes i 0 + 256 * get_or bytes j 0) % 256 ≡ get_or bytes i 0
  low i j = let h = byte_small bytes small i in omega arith

  high : (i j : ℕ) → (get_or bytes i 0 + 256 * get_or bytes j 0) / 256 % 256 ≡ get_or bytes j 0
  high i j = let h = byte_small bytes small i in let k = byte_small bytes small j in omega arith

  alone : (i : ℕ) → get_or bytes i 0 % 256 ≡ get_or bytes i 0
  alone i = let h = byte_small bytes small i in omega arith

  row_bytes_lem : (at : ℕ) → at + 8 ≤ length bytes → row_bytes (row_at bytes at) ++ drop (at + 8) bytes ≡ drop at bytes
  unfolding row_bytes row_at
  row_bytes_lem at h = simp (low, high, alone) (simp add_assoc at (sym (drop_from 8 at h)))

  rows_bytes : (n at : ℕ) → at + 8 * n ≡ length bytes → table_bytes (rows_at n bytes at) ≡ drop at bytes
  unfolding table_bytes rows_at
  rows_bytes zero at h = sym (drop_of_length-le bytes {i = at} (omega arith))
  rows_bytes (suc n) at h = ap (λ l. row_bytes (row_at bytes at) ++ l) (rows_bytes n (at + 8) (omega arith)) ∙ row_bytes_lem at (omega arith)

  -- whole rows' bytes are the bytes of the rows that they say
  pub bytes_back : length bytes % 8 ≡ 0 → table_bytes (rows_in bytes) ≡ bytes
  bytes_back h = rows_bytes (length bytes / 8) 0 (omega arith)
