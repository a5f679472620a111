-- A row as the code holds it: one number of 64 bits, the row's first byte the lowest.
use Rattle.std.specs.Prelude.{ℕ, ◌+◌, ◌*◌, ◌/◌, ◌%◌, ◌≡◌, Bool, cond, List, [], ◌∷◌, ◌++◌, leb, length}
use Rattle.std.proofs.lemmas.List.Edits.{sets}
use Rattle.tree.specs.Rows.{Row, row_bytes}

unfoldable pub word_of : List ℕ → ℕ
word_of [] = 0
word_of (b ∷ bs) = b + 256 * word_of bs

abbrev pub row_word : Row → ℕ
row_word r = word_of (row_bytes r)

-- the 8 bytes of such a number
unfoldable pub word_bytes : ℕ → List ℕ
word_bytes n =
    n % 256 ∷ n / 256 % 256 ∷ n / 65536 % 256 ∷ n / 16777216 % 256
    ∷ n / 4294967296 % 256 ∷ n / 1099511627776 % 256 ∷ n / 281474976710656 % 256 ∷ n / 72057594037927936 % 256 ∷ []

-- those of several, one after the other
unfoldable pub words_bytes : List ℕ → List ℕ
words_bytes [] = []
words_bytes (w ∷ words) = word_bytes w ++ words_bytes words

-- a buffer after its 8 bytes from a place on are set; unchanged where it has not so many
unfoldable pub put_word : List ℕ → ℕ → ℕ → List ℕ
put_word buffer at n = cond (leb (at + 8) (length buffer)) (sets buffer at (word_bytes n)) buffer

-- what `put_row` answers, whether there is room, and leaves in the buffer
pub record Put (before : List ℕ) (at word : ℕ) (answer : Bool) (after : List ℕ) : Type 0 where
  pub room : answer ≡ leb (at + 8) (length before)
  pub bytes : after ≡ put_word before at word
