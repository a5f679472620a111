-- A column as the code makes it: by the place of each digit, and several characters in one number.
use Rattle.std.specs.Prelude.{ℕ, ◌+◌, ◌*◌, ◌/◌, ◌%◌, cond, List, [], ◌∷◌, ltb}

-- the character at the place of a digit: the digit, or a space where the number is too small to have one there
abbrev pub cell : ℕ → ℕ → ℕ
cell n unit = cond (ltb n unit) 32 (48 + n / unit % 10)

-- the last characters of a number in four columns or more, and the two before them
abbrev pub last_four : ℕ → List ℕ
last_four n = cell n 1000 ∷ cell n 100 ∷ cell n 10 ∷ (48 + n % 10) ∷ []

abbrev pub first_two : ℕ → List ℕ
first_two n = cell n 100000 ∷ cell n 10000 ∷ []

-- the last four digits in one number, a byte each, the first the lowest; and what makes characters of them: 48 for each, or a
-- space for a zero in front
abbrev pub four_digits : ℕ → ℕ
four_digits n = n / 1000 % 10 + n / 100 % 10 * 256 + n / 10 % 10 * 65536 + n % 10 * 16777216

abbrev pub four_marks : ℕ → ℕ
four_marks n = cond (ltb n 10) 0x30202020 (cond (ltb n 100) 0x30302020 (cond (ltb n 1000) 0x30303020 0x30303030))

-- the bytes of such a number
abbrev pub two_bytes : ℕ → List ℕ
two_bytes t = t % 256 ∷ t / 256 % 256 ∷ []

abbrev pub four_bytes : ℕ → List ℕ
four_bytes t = t % 256 ∷ t / 256 % 256 ∷ t / 65536 % 256 ∷ t / 16777216 % 256 ∷ []

abbrev pub six_bytes : ℕ → List ℕ
six_bytes t = t % 256 ∷ t / 256 % 256 ∷ t / 65536 % 256 ∷ t / 16777216 % 256 ∷ t / 4294967296 % 256 ∷ t / 1099511627776 % 256 ∷ []
