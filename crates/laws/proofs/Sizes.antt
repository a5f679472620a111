-- How many samples the rows of a coding tree have, and so how many rows it has at most.
use Prim.Native.Nat.{ℕ, ◌+◌, ◌-◌, ◌*◌, ◌≤◌, min}
use mathlib.Core.Path.{◌≡◌, refl, ap₂, ◌∙◌}
use mathlib.Core.Bool.{true}
use mathlib.Core.List.{List, [], ◌∷◌}
use lib.ListN.{length}
use native.Mathlib.Omega.{arith}
use native.Mathlib.Nat.{mul-le-mul}
use Rattle.tree.specs.declared.Node.{Node}
use Rattle.tree.specs.declared.Direction.{Direction}
use Rattle.tree.specs.declared.Direction.TheVariants.{Horizontal, Vertical}
use Rattle.tree.specs.Kind.{Kind}
use Rattle.tree.specs.Splits.{inside}
use Rattle.tree.specs.Rows.{Row}
use Rattle.tree.specs.Tree.{Tree, rows_of}
use Rattle.laws.specs.Geometry.{area_of, clip}
use Rattle.laws.specs.Every.{Every, every_none, every_more}
use Rattle.laws.specs.Proper.{Proper}
use Rattle.laws.specs.Directions.{extent}
use Rattle.laws.specs.Shape.{Shape}
use Rattle.laws.proofs.Picture.{inside_end}
use Rattle.laws.proofs.Leaves.{row_side, leaf_side}
use Rattle.laws.proofs.EveryRow.{every_row_lem}
use Rattle.laws.proofs.Multiples.{fold_least}
use Rattle.laws.proofs.Shape.{shape_kids}
use Rattle.laws.proofs.Measure.{UpTo, of_rows, measured}

-- ---- samples

gaps : (x y z : ℕ) → x ≤ y → y ≤ z → z - x ≡ y - x + (z - y)
gaps x y z h k = omega arith

clip_join : (end a k l : ℕ) → clip end a (k + l) ≡ clip end a k + clip end (a + k) l
clip_join end a k l =
    let e : a + (k + l) ≡ a + k + l = omega arith in
    rw e (gaps (min end a) (min end (a + k)) (min end (a + k + l)) (omega arith) (omega arith))

-- the number of samples before an end is a measure
length_measure : (end : ℕ) → UpTo end (λ a l. l) (clip end)
length_measure end = record {
  same = λ a l h. omega arith;
  past = λ a l h. omega arith;
  empty = λ a. omega arith;
  join = clip_join end;
}

area_rows : (rows : List Row) → area_of rows ≡ of_rows (λ e a l. l) rows
unfolding area_of
area_rows [] = refl
area_rows (r ∷ rows) = rw (area_rows rows)

-- rows of sides from m on
area_least : (m : ℕ) {rows : List Row} → Every (λ r. (e : Direction) → m ≤ row_side e r) rows → m * m * length rows ≤ area_of rows
unfolding area_of
area_least m every_none = omega arith
area_least m (every_more {a = r} h hs) = let a = mul-le-mul (h Vertical) (h Horizontal) in let b = area_least m hs in omega arith

module _ {k : Kind} (v : Proper k) {n : Node} (sh : Shape n) (t : Tree k n) where
  -- the samples of the rows are those of the node in the picture
  pub areas_in_picture : area_of (rows_of t) ≡ clip k.limits.width n.x n.w * clip k.limits.height n.y n.h
  areas_in_picture = area_rows (rows_of t) ∙ measured v (λ e. length_measure (extent e k.limits)) t (every_more sh every_none) ∙ omega arith

  pub areas : inside k.limits n ≡ true → area_of (rows_of t) ≡ n.w * n.h
  areas h =
      let w = inside_end k.limits n h Vertical in
      let v = inside_end k.limits n h Horizontal in
      areas_in_picture ∙ ap₂ (λ a b. a * b) (omega arith) (omega arith)

  sides_least : Every (λ r. (e : Direction) → 4 ≤ row_side e r) (rows_of t)
  sides_least = every_row_lem k (λ n sh d ok. shape_kids v sh d ok) (λ n sh h e. rw (leaf_side sh e) (fold_least (sh.side e).fold)) t (every_more sh every_none)

  -- rows of sides from m on have m * m samples each
  pub rows_of_sides : (m : ℕ) → Every (λ r. (e : Direction) → m ≤ row_side e r) (rows_of t) → m * m * length (rows_of t) ≤ n.w * n.h
  rows_of_sides m h =
      let a = area_least m h in
      let b = areas_in_picture in
      let w : clip k.limits.width n.x n.w ≤ n.w = omega arith in
      let v : clip k.limits.height n.y n.h ≤ n.h = omega arith in
      let c = mul-le-mul w v in
      omega arith

  -- a row has 16 samples at least: a unit has 1,024 rows at most
  pub rows_fit : 16 * length (rows_of t) ≤ n.w * n.h
  rows_fit = rows_of_sides 4 sides_least
