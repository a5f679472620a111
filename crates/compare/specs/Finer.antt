-- R-9: whether one table of a unit is finer than another. A row's block is its rectangle of samples: depths play no part, nor does the order of the rows.
use Rattle.std.specs.Prelude.{ℕ, zero, suc, ◌+◌, ◌^◌, Bool, true, false, ◌&&◌, ◌||◌, List, [], ◌∷◌, leb, eqb}
use Rattle.tree.specs.Rows.{Row}
use Rattle.laws.specs.Geometry.{in_row}
use Rattle.compare.specs.declared.finer.Finer.{Finer}
use Rattle.compare.specs.declared.finer.Finer.TheVariants.{Equal, First, Second, Neither}

-- a test holds of every row, of some row, and of every number below one
unfoldable pub every_row : (Row → Bool) → List Row → Bool
every_row test [] = true
every_row test (r ∷ rows) = test r && every_row test rows

unfoldable pub some_row : (Row → Bool) → List Row → Bool
some_row test [] = false
some_row test (r ∷ rows) = test r || some_row test rows

unfoldable pub every_below : ℕ → (ℕ → Bool) → Bool
every_below zero test = true
every_below (suc n) test = test n && every_below n test

-- the sample (px, py) lies in a row's block
abbrev pub has_sample : Row → ℕ → ℕ → Bool
has_sample r px py = eqb (in_row r px py) 1

-- l samples from a on lie among the m from b on
abbrev pub span_in : (a l b m : ℕ) → Bool
span_in a l b m = leb b a && leb (a + l) (b + m)

-- a row's block lies inside another's
unfoldable pub lies_in : Row → Row → Bool
lies_in r b = span_in r.x (2 ^ r.ew) b.x (2 ^ b.ew) && span_in r.y (2 ^ r.eh) b.y (2 ^ b.eh)

-- a block "is a union of its blocks": every sample of the block lies in some block of the table that lies inside it
unfoldable pub is_union : List Row → Row → Bool
is_union rows b =
    every_below (2 ^ b.ew) (λ i. every_below (2 ^ b.eh) (λ j. some_row (λ r. has_sample r (b.x + i) (b.y + j) && lies_in r b) rows))

-- "Finer means that every block of the other is a union of its blocks": so a table is finer than the other, or equal
unfoldable pub finer_or_equal : List Row → List Row → Bool
finer_or_equal rows others = every_row (is_union rows) others

-- "equal blocks, first finer, second finer, or neither", by whether the first is finer or equal and whether the second is
abbrev pub finer_by : Bool → Bool → Finer
finer_by true true = Equal
finer_by true false = First
finer_by false true = Second
finer_by false false = Neither

abbrev pub comparison : List Row → List Row → Finer
comparison first second = finer_by (finer_or_equal first second) (finer_or_equal second first)

-- the number of the answer
abbrev pub finer_number : Finer → ℕ
finer_number Equal = 0
finer_number First = 1
finer_number Second = 2
finer_number Neither = 3
