-- The first row of a coding tree starts at the corner of its node, at least as deep as the node. In any kind.
use Prim.Native.Nat.{ℕ, ◌≤◌, ◌<◌}
use mathlib.Core.Path.{◌≡◌, refl, ◌∙◌}
use mathlib.Core.Bool.{true}
use mathlib.Core.List.{List, ◌∷◌, ◌++◌}
use native.Mathlib.Omega.{arith}
use Rattle.sides.proofs.Bools.{clash}
use Rattle.tree.specs.declared.Node.{Node}
use Rattle.tree.specs.declared.Share.{Share}
use Rattle.tree.specs.declared.Direction.{Direction}
use Rattle.tree.specs.declared.Direction.TheVariants.{Horizontal, Vertical}
use Rattle.tree.specs.declared.Decision.{Decision}
use Rattle.tree.specs.declared.Decision.TheVariants.{Leaf, Quad, Binary, Ternary}
use Rattle.tree.specs.Kind.{Kind}
use Rattle.tree.specs.Splits.{rights_of, allows}
use Rattle.tree.specs.Children.{share, slab, shares, child, child_qt, child_mtt, children_from, children, corner_inside}
use Rattle.tree.specs.Rows.{Row, row_of, own_rows}
use Rattle.tree.specs.Tree.{Trees, skip, node, rows_of}
use Rattle.laws.specs.Directions.{corner}
use Rattle.laws.proofs.Slabs.{by_way, from_along, from_across}
use Rattle.laws.proofs.Opens.{quad_open_lem}
use Rattle.laws.proofs.Parts.{from, child_corner}
use Rattle.laws.proofs.Leaves.{row_start, leaf_start}

-- depths from a node downwards: the QT depth never falls, and below a cut it stays and the MTT depth never falls
pub record Deeper (qt mtt qt' mtt' : ℕ) : Type 0 where
  pub quad : qt ≤ qt'
  pub cut : 0 < mtt → (qt' ≡ qt) × (mtt ≤ mtt')

deeper : {q m q' m' q'' m'' : ℕ} → Deeper q m q' m' → Deeper q' m' q'' m'' → Deeper q m q'' m''
deeper u v = record { quad = omega arith; cut = λ h. let x = u.cut h in let y = v.cut (omega arith) in (omega arith, omega arith) }

pub record First (n : Node) (rows : List Row) : Type 0 where
  pub row : Row
  pub others : List Row
  pub is : rows ≡ row ∷ others
  pub at : (e : Direction) → row_start e row ≡ corner e n
  pub depths : Deeper n.qt n.mtt row.qt row.mtt

pub first_longer : {n : Node} {rows : List Row} (more : List Row) → First n rows → First n (rows ++ more)
first_longer more f = record { row = f.row; others = f.others ++ more; is = rw f.is; at = f.at; depths = f.depths }

first_leaf : (n : Node) (rows : List Row) → First n (row_of n ∷ rows)
unfolding row_of
first_leaf n rows = record { row = row_of n; others = rows; is = refl; at = leaf_start n; depths = record { quad = omega arith; cut = λ h. (refl, omega arith) } }

child_deeper : (k : Kind) (n : Node) (d : Decision) → allows (rights_of k n) d ≡ true → Deeper n.qt n.mtt (child_qt d n) (child_mtt d n)
unfolding child_qt child_mtt rights_of
child_deeper k n Leaf ok = record { quad = omega arith; cut = λ h. (refl, omega arith) }
child_deeper k n Quad ok = let z = (quad_open_lem k n ok).top in record { quad = omega arith; cut = λ h. absurd (omega arith) }
child_deeper k n (Binary d) ok = record { quad = omega arith; cut = λ h. (refl, omega arith) }
child_deeper k n (Ternary d) ok = record { quad = omega arith; cut = λ h. (refl, omega arith) }

-- the first part of a split starts where its node does
module _ (k : Kind) (n : Node) (d : Decision) (p : Share) (zero-from : (e : Direction) → from e p ≡ 0) where
  pub start_same : (e : Direction) → corner e (child k.limits n d p) ≡ corner e n
  start_same e = rw (child_corner k.limits n d p e, zero-from e) (omega arith)

  pub start_there : corner_inside k.limits n ≡ true → corner_inside k.limits (child k.limits n d p) ≡ true
  unfolding corner_inside
  start_there h = rw (start_same Vertical, start_same Horizontal) h

  first_below : allows (rights_of k n) d ≡ true → corner_inside k.limits n ≡ true → {rows : List Row}
      → (corner_inside k.limits (child k.limits n d p) ≡ true → First (child k.limits n d p) rows) → First n rows
  unfolding child
  first_below ok here below =
      let f = below (start_there here) in
      record { row = f.row; others = f.others; is = f.is; at = λ e. f.at e ∙ start_same e; depths = deeper (child_deeper k n d ok) f.depths }

-- the first shares of the splits
pub quad_from : (e : Direction) → from e (share 0 0 2 2 0) ≡ 0
quad_from Horizontal = refl
quad_from Vertical = refl

pub cut_from_lem : (d : Direction) (long : ℕ) (e : Direction) → from e (slab d 0 long 0) ≡ 0
cut_from_lem d long = by_way (λ e. from e (slab d 0 long 0) ≡ 0) d (from_along 0 long 0 d) (from_across 0 long 0 d)

pub first_row : {k : Kind} {n : Node} {ns : List Node} (t : Trees k (n ∷ ns)) → corner_inside k.limits n ≡ true → First n (rows_of t)
unfolding rows_of own_rows children children_from shares
first_row (skip out rest) h = clash h out
first_row {n = n} (node Leaf here ok kids rest) h = first_leaf n _
first_row {k} {n} (node Quad here ok kids rest) h = first_longer (rows_of rest) (first_below k n Quad _ quad_from ok h (first_row kids))
first_row {k} {n} (node (Binary d) here ok kids rest) h = first_longer (rows_of rest) (first_below k n (Binary d) _ (cut_from_lem d 2) ok h (first_row kids))
first_row {k} {n} (node (Ternary d) here ok kids rest) h = first_longer (rows_of rest) (first_below k n (Ternary d) _ (cut_from_lem d 1) ok h (first_row kids))
