-- A line stored column by column, and the lines of a page stored one after another.
use Prim.Native.Nat.{ℕ, zero, suc, ◌+◌, ◌*◌, ◌/◌, ◌^◌, ◌≤◌, ◌<◌}
use mathlib.Core.Path.{◌≡◌, refl, sym, ap, ◌∙◌}
use mathlib.Core.List.{List, [], ◌∷◌, ◌++◌, append_assoc, append-nil}
use native.Mathlib.Omega.{arith}
use native.Mathlib.Nat.{zero-add, add-zero, add-suc, suc-add}
use native.Mathlib.Numerals.{add-one}
use lib.ListN.{length, length-append, drop, set, length-drop}
use borrow.Rule.Slice.PartMut.{put_mid}
use lib.Seq.{sets, sets-eq, take-append_seam, drop-append-add, drop-drop}
use Rattle.tree.specs.Rows.{Row, row_at, rows_at, rows_in}
use Rattle.laws.specs.Every.{Every}
use Rattle.laws.specs.Geometry.{SmallRow}
use Rattle.laws.proofs.Tables.{row_has}
use Rattle.page.specs.Lines.{column, row_columns, line, lines}
use Rattle.page.specs.Text.{six_bytes}
use Rattle.page.proofs.Fitting.{Held, line_long}

-- what is copied over a part of a list is stored there
pub stored : (at k : ℕ) (b given xs : List ℕ) → given ≡ xs → k ≡ length xs → at + k ≤ length b → put_mid at k b given ≡ sets b at xs
stored at k b given xs e long room =
    let fits : at + length xs ≤ length b = omega arith in
    rw (e, long, sets-eq xs b at fits, drop-drop, append_assoc)

-- ---- the columns of a line

-- stores of one list after another
sets_append : (b xs ys : List ℕ) (i : ℕ) → sets b i (xs ++ ys) ≡ sets (sets b i xs) (i + length xs) ys
sets_append b [] ys i = ap (λ (j : ℕ). sets b j ys) (sym (add-zero i))
sets_append b (x ∷ xs) ys i =
    sets_append (set b i x) xs ys (suc i)
    ∙ ap (λ (j : ℕ). sets (sets (set b i x) (suc i) xs) j ys) (suc-add i (length xs) ∙ sym (add-suc i (length xs)))

-- stores of one list, then of another where the first ends
after : (b xs ys : List ℕ) (i j : ℕ) {c d : List ℕ} → j ≡ i + length xs → c ≡ sets b i xs → d ≡ sets c j ys → d ≡ sets b i (xs ++ ys)
after b xs ys i j there e f = f ∙ rw (e, there) (sym (sets_append b xs ys i))

-- a line, column by column; the address, X and Y as the text of a number each
pub put_columns : (at address textX textY : ℕ) (r : Row) → Held r → six_bytes textX ≡ column 6 r.x → six_bytes textY ≡ column 6 r.y
    → (b₀ b₁ b₂ b₃ b₄ b₅ b₆ b₇ : List ℕ)
    → b₁ ≡ sets b₀ at (six_bytes address)
    → b₂ ≡ sets b₁ (at + 6) (six_bytes textX)
    → b₃ ≡ sets b₂ (at + 12) (six_bytes textY)
    → b₄ ≡ sets b₃ (at + 18) (column 4 (2 ^ r.ew))
    → b₅ ≡ sets b₄ (at + 22) (column 4 (2 ^ r.eh))
    → b₆ ≡ sets b₅ (at + 26) (column 3 r.qt)
    → b₇ ≡ sets b₆ (at + 29) (column 3 r.mtt)
    → set b₇ (at + 32) 10 ≡ sets b₀ at (six_bytes address ++ row_columns r)
unfolding row_columns
put_columns at address textX textY r held ex ey b₀ b₁ b₂ b₃ b₄ b₅ b₆ b₇ e₁ e₂ e₃ e₄ e₅ e₆ e₇ =
    let m = column 3 r.mtt in
    let q = column 3 r.qt in
    let h = column 4 (2 ^ r.eh) in
    let w = column 4 (2 ^ r.ew) in
    let y = column 6 r.y in
    let x = column 6 r.x in
    let t₇ : List ℕ = 10 ∷ [] in
    let t₆ = m ++ t₇ in
    let t₅ = q ++ t₆ in
    let t₄ = h ++ t₅ in
    let t₃ = w ++ t₄ in
    let t₂ = y ++ t₃ in
    let t₁ = x ++ t₂ in
    after b₀ (six_bytes address) t₁ at (at + 6) refl e₁
    (after b₁ x t₂ (at + 6) (at + 12) (let l = held.x_long in omega arith) (e₂ ∙ ap (sets b₁ (at + 6)) ex)
    (after b₂ y t₃ (at + 12) (at + 18) (let l = held.y_long in omega arith) (e₃ ∙ ap (sets b₂ (at + 12)) ey)
    (after b₃ w t₄ (at + 18) (at + 22) (let l = held.width_long in omega arith) e₄
    (after b₄ h t₅ (at + 22) (at + 26) (let l = held.height_long in omega arith) e₅
    (after b₅ q t₆ (at + 26) (at + 29) (let l = held.qt_long in omega arith) e₆
    (after b₆ m t₇ (at + 29) (at + 32) (let l = held.mtt_long in omega arith) e₇ refl))))))

-- ---- the rows of a table

-- one row more
rows_next : (k : ℕ) (bytes : List ℕ) (i : ℕ) → rows_at (suc k) bytes i ≡ rows_at k bytes i ++ (row_at bytes (i + k * 8) ∷ [])
unfolding rows_at
rows_next zero bytes i = let e : i + 0 * 8 ≡ i = omega arith in rw e
rows_next (suc k) bytes i =
    let e : i + 8 + k * 8 ≡ i + suc k * 8 = omega arith in
    ap (λ rest. row_at bytes i ∷ rest) (rows_next k bytes (i + 8) ∙ rw e)

-- each row of a table whose rows are small is
pub row_small : (bytes : List ℕ) (k : ℕ) → k < length bytes / 8 → Every SmallRow (rows_in bytes) → SmallRow (row_at bytes (k * 8))
row_small bytes k h small = rw zero-add at (row_has _ k bytes 0 h small)

-- ---- the lines of a page

lines_next : (address : ℕ) (rows : List Row) (r : Row) → lines address (rows ++ (r ∷ [])) ≡ lines address rows ++ line address r
unfolding lines
lines_next address [] r = append-nil (line address r)
lines_next address (first ∷ rows) r = rw (lines_next address rows r) (sym (append_assoc (line address first) (lines address rows) (line address r)))

-- stores past the front of a list
sets_past : (p q vs : List ℕ) → length vs ≤ length q → sets (p ++ q) (length p) vs ≡ p ++ vs ++ drop (length vs) q
sets_past p q vs h =
    sets-eq vs (p ++ q) (length p) (simp length-append (omega arith)) ∙ rw (take-append_seam p q, drop-append-add p q (length vs))

-- the lines of the first k rows of a table stand at the front of a page
pub record Begun (address : ℕ) (bytes page₀ : List ℕ) (k : ℕ) (page : List ℕ) : Type 0 where
  pub front : page ≡ lines address (rows_at k bytes 0) ++ drop (33 * k) page₀
  pub long : length (lines address (rows_at k bytes 0)) ≡ 33 * k

pub begun_none : (address : ℕ) (bytes page₀ : List ℕ) → Begun address bytes page₀ 0 page₀
unfolding lines rows_at
begun_none address bytes page₀ = record { front = refl; long = refl }

-- a row's columns after those of the address, given as the text of a number, are its line
as_line : (address text : ℕ) (r : Row) (i : ℕ) (page : List ℕ) {out : List ℕ} → six_bytes text ≡ column 6 address
    → out ≡ sets page i (six_bytes text ++ row_columns r) → out ≡ sets page i (line address r)
unfolding line
as_line address text r i page address_is e = e ∙ ap (λ t. sets page i (t ++ row_columns r)) address_is

-- and after the lines of k rows that of the next
pub begun_next : (address text : ℕ) (bytes : List ℕ) (k : ℕ) {page₀ page out : List ℕ} → Begun address bytes page₀ k page
    → six_bytes text ≡ column 6 address → address < 1000000 → SmallRow (row_at bytes (k * 8)) → 33 * (k + 1) ≤ length page₀
    → out ≡ sets page (k * 33) (six_bytes text ++ row_columns (row_at bytes (k * 8))) → Begun address bytes page₀ (k + 1) out
begun_next address text bytes k {page₀} {page} b address_is h small room e =
    let rows = rows_at k bytes 0 in
    let r = row_at bytes (k * 8) in
    let front = lines address rows in
    let next = line address r in
    let width = line_long address h small in
    let more : lines address (rows_at (k + 1) bytes 0) ≡ front ++ next = rw (add-one, rows_next k bytes 0, zero-add) (lines_next address rows r) in
    let there : k * 33 ≡ length front = let l = b.long in omega arith in
    let fits : length next ≤ length (drop (33 * k) page₀) = simp length-drop (omega arith) in
    let past : 33 * k + length next ≡ 33 * (k + 1) = omega arith in
    record {
      front = as_line address text r (k * 33) page address_is e ∙ rw (b.front, there, sets_past front (drop (33 * k) page₀) next fits, drop-drop, past, more);
      long = rw more (simp length-append (let l = b.long in omega arith));
    }
