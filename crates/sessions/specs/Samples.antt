-- The samples of a picture and of its units.
use Rattle.std.specs.Prelude.{ℕ, ◌+◌, Bool, false, ◌&&◌, ◌||◌, List, [], ◌∷◌, leb, ltb}
use Rattle.settings.specs.declared.Square.{Square}

-- whether (px, py) lies in a square
abbrev pub in_square : Square → ℕ → ℕ → Bool
in_square q px py = (leb q.x px && ltb px (q.x + q.side)) && (leb q.y py && ltb py (q.y + q.side))

-- whether (px, py) is a sample of a picture of a width and a height
abbrev pub is_sample : (width height : ℕ) → ℕ → ℕ → Bool
is_sample width height px py = ltb px width && ltb py height

-- "A unit's samples are those of the picture in its square": whether (px, py) is a sample of one of the units, by the
-- square of each
unfoldable pub in_units : {Taken : Type 0} (square : Taken → Square) (width height : ℕ) → List Taken → ℕ → ℕ → Bool
in_units square width height [] px py = false
in_units square width height (u ∷ us) px py =
    (in_square (square u) px py && is_sample width height px py) || in_units square width height us px py
