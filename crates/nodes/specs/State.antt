-- Where a walk is, as one number: the next place of what it reads, in the low 32 bits, and how many it has given so far; or, from 2 ^ 63 on, a refusal's
-- place and number.
use Rattle.std.specs.Prelude.{ℕ, ◌+◌, ◌*◌, ◌/◌, ◌%◌}

abbrev pub place_of : ℕ → ℕ
place_of c = c % 4294967296

abbrev pub given_of : ℕ → ℕ
given_of c = c / 4294967296

abbrev pub refusal : ℕ → ℕ → ℕ
refusal number place = 9223372036854775808 + place * 32 + number

abbrev pub refusal_number : ℕ → ℕ
refusal_number c = c % 32

abbrev pub refusal_place : ℕ → ℕ
refusal_place c = c % 9223372036854775808 / 32
