-- The standard's neighbours: the blocks that contain the samples above and to the left, among all rows coded so far.
use Rattle.std.specs.Prelude.{ℕ, ◌+◌, ◌-◌, ◌^◌, Bool, cond, ◌&&◌, List, [], ◌∷◌, leb, ltb, eqb}
use Rattle.tree.specs.declared.Direction.{Direction}
use Rattle.tree.specs.declared.Direction.TheVariants.{Horizontal, Vertical}
use Rattle.tree.specs.Splits.{pick}
use Rattle.tree.specs.Rows.{Row}
use Rattle.numbers.specs.Numbers.{Seen, unavailable, block}
use Rattle.numbers.specs.Walk.{Finder}

-- p is one of the l samples from a on
abbrev pub among : ℕ → ℕ → ℕ → Bool
among a l p = leb a p && ltb p (a + l)

-- the sample (px, py) lies in a row's block
abbrev pub holds : Row → ℕ → ℕ → Bool
holds r px py = among r.x (2 ^ r.ew) px && among r.y (2 ^ r.eh) py

-- what is seen of a row's block: from below its width (Vertical: the side that a vertical cut divides), from the right its height (Horizontal)
abbrev pub seen : Direction → Row → Seen
seen d r = block (pick d r.eh r.ew) r.qt

-- what is seen of the block that contains a sample, among rows, the last coded first; none of them: unavailable
unfoldable pub seen_at : Direction → ℕ → ℕ → List Row → Seen
seen_at d px py [] = unavailable
seen_at d px py (r ∷ rows) = cond (holds r px py) (seen d r) (seen_at d px py rows)

-- "Neighbours outside the picture are unavailable": no row lies there
abbrev pub standard : Finder (List Row)
standard = record {
  above = λ done x y. cond (eqb y 0) unavailable (seen_at Vertical x (y - 1) done);
  left = λ done x y. cond (eqb x 0) unavailable (seen_at Horizontal (x - 1) y done);
  put = λ r done. r ∷ done;
}

-- the same among all rows of a picture, those coded later too: nothing is learnt on the way
abbrev pub whole : List Row → Finder (Unit {0})
whole all = record {
  above = λ _ x y. cond (eqb y 0) unavailable (seen_at Vertical x (y - 1) all);
  left = λ _ x y. cond (eqb x 0) unavailable (seen_at Horizontal (x - 1) y all);
  put = λ r s. s;
}
