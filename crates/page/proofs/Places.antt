-- Characters as the bytes of one number.
use Prim.Native.Nat.{ℕ, ◌+◌, ◌*◌, ◌/◌, ◌%◌, ◌<◌}
use mathlib.Core.Path.{◌≡◌, sym, ap, ap₂, ◌∙◌}
use mathlib.Core.List.{[], ◌∷◌, ◌++◌}
use native.Mathlib.Omega.{arith}
use native.Mathlib.Nat.{div-div-eq-div-mul}
use lib.ListN.{drop}
use Rattle.page.specs.Lines.{column}
use Rattle.page.specs.Text.{first_two, last_four, two_bytes, four_bytes, six_bytes}
use Rattle.page.proofs.Cells.{column_one, column_six, column_three}

-- the characters of a number in 6 columns: two from one number, four from another
six_bytes_lem : (f l : ℕ) → f < 65536 → six_bytes (f + l * 65536) ≡ two_bytes f ++ four_bytes l
six_bytes_lem f l h =
    let n = f + l * 65536 in
    let p₂ : n / 65536 ≡ l = omega arith in
    let p₃ : n / 16777216 ≡ l / 256 = sym (div-div-eq-div-mul n 65536 256) ∙ ap (λ m. m / 256) p₂ in
    let p₄ : n / 4294967296 ≡ l / 65536 = sym (div-div-eq-div-mul n 65536 65536) ∙ ap (λ m. m / 65536) p₂ in
    let p₅ : n / 1099511627776 ≡ l / 16777216 = sym (div-div-eq-div-mul n 65536 16777216) ∙ ap (λ m. m / 16777216) p₂ in
    let l₀ : n % 256 ≡ f % 256 = omega arith in
    let p₁ : n / 256 ≡ f / 256 + l * 256 = omega arith in
    let l₁ : (f / 256 + l * 256) % 256 ≡ f / 256 % 256 = omega arith in
    rw (p₁, p₂, p₃, p₄, p₅, l₀, l₁)

-- a number in 6 columns: its first two characters, and its last four
pub six_columns : (n f l : ℕ) → n < 1000000 → f < 65536 → two_bytes f ≡ first_two n → four_bytes l ≡ last_four n → six_bytes (f + l * 65536) ≡ column 6 n
six_columns n f l h g two last = six_bytes_lem f l g ∙ ap₂ (λ a b. a ++ b) two last ∙ sym (column_six n h)

-- a number in 3 columns: of one digit, and the last three of four characters
pub one_column : (n : ℕ) → n < 10 → column 3 n ≡ 32 ∷ 32 ∷ (48 + n) ∷ []
one_column n h = column_one 2 n h

pub three_columns : (n t : ℕ) → n < 1000 → four_bytes t ≡ last_four n → column 3 n ≡ t / 256 % 256 ∷ t / 65536 % 256 ∷ t / 16777216 % 256 ∷ []
three_columns n t h last = column_three n h ∙ sym (ap (drop 1) last)
