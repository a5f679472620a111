-- A row as one number: its fields at their places, and its bytes.
use Prim.Native.Nat.{ℕ, ◌+◌, ◌*◌, ◌/◌, ◌%◌, ◌<◌}
use mathlib.Core.Path.{◌≡◌, sym, ap, ◌∙◌}
use mathlib.Core.List.{[], ◌∷◌}
use native.Mathlib.Omega.{arith}
use native.Mathlib.Nat.{div-div-eq-div-mul}
use Rattle.tree.specs.Rows.{Row, row_bytes}
use Rattle.blocks.specs.RowNumbers.{row_word, word_of, word_bytes}

pub word_is : (r : Row)
    → r.x % 65536 + r.y % 65536 * 65536 + (r.ew % 256 + r.eh % 256 * 256) * 4294967296 + (r.qt % 256 + r.mtt % 256 * 256) * 281474976710656
    ≡ row_word r
unfolding word_of row_bytes
word_is r =
    let e : r.x % 65536 ≡ r.x % 256 + 256 * (r.x / 256 % 256) = omega arith in
    let f : r.y % 65536 ≡ r.y % 256 + 256 * (r.y / 256 % 256) = omega arith in
    omega arith

-- ---- eight bytes, as one number and back

low : (a w : ℕ) → a < 256 → (a + 256 * w) % 256 ≡ a
low a w h = omega arith

rest : (a w : ℕ) → a < 256 → (a + 256 * w) / 256 ≡ w
rest a w h = omega arith

-- the number past k bytes, past one byte more
past : (n k a w : ℕ) → a < 256 → n / k ≡ a + 256 * w → n / (k * 256) ≡ w
past n k a w h e = sym (div-div-eq-div-mul n k 256) ∙ ap (λ m. m / 256) e ∙ rest a w h

eight : (a b c d e f g h : ℕ) → a < 256 → b < 256 → c < 256 → d < 256 → e < 256 → f < 256 → g < 256 → h < 256
    → word_bytes (word_of (a ∷ b ∷ c ∷ d ∷ e ∷ f ∷ g ∷ h ∷ [])) ≡ a ∷ b ∷ c ∷ d ∷ e ∷ f ∷ g ∷ h ∷ []
unfolding word_of word_bytes
eight a b c d e f g h ha hb hc hd he hf hg hh =
    let w₇ = h + 256 * 0 in
    let w₆ = g + 256 * w₇ in
    let w₅ = f + 256 * w₆ in
    let w₄ = e + 256 * w₅ in
    let w₃ = d + 256 * w₄ in
    let w₂ = c + 256 * w₃ in
    let w₁ = b + 256 * w₂ in
    let n = a + 256 * w₁ in
    let p₁ : n / 256 ≡ w₁ = rest a w₁ ha in
    let p₂ : n / 65536 ≡ w₂ = past n 256 b w₂ hb p₁ in
    let p₃ : n / 16777216 ≡ w₃ = past n 65536 c w₃ hc p₂ in
    let p₄ : n / 4294967296 ≡ w₄ = past n 16777216 d w₄ hd p₃ in
    let p₅ : n / 1099511627776 ≡ w₅ = past n 4294967296 e w₅ he p₄ in
    let p₆ : n / 281474976710656 ≡ w₆ = past n 1099511627776 f w₆ hf p₅ in
    let p₇ : n / 72057594037927936 ≡ w₇ = past n 281474976710656 g w₇ hg p₆ in
    rw (p₁, p₂, p₃, p₄, p₅, p₆, p₇, low a w₁ ha, low b w₂ hb, low c w₃ hc, low d w₄ hd, low e w₅ he, low f w₆ hf, low g w₇ hg, low h 0 hh)

-- the bytes of a row's number are the row's bytes
pub word_bytes_lem : (r : Row) → word_bytes (row_word r) ≡ row_bytes r
unfolding row_bytes
word_bytes_lem r = eight _ _ _ _ _ _ _ _ (omega arith) (omega arith) (omega arith) (omega arith) (omega arith) (omega arith) (omega arith) (omega arith)
