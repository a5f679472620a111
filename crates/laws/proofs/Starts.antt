-- The row before which so many cells of 16 samples go by, and the edges at which it starts among the rows of several trees.
use Prim.Native.Nat.{ℕ, ◌+◌, ◌-◌, ◌*◌, ◌%◌, ◌^◌, ◌≤◌, ◌<◌}
use mathlib.Core.Path.{◌≡◌, refl, ap, ap₂, ◌∙◌}
use mathlib.Core.Bool.{Bool, true, false, cond}
use mathlib.Core.List.{List, [], ◌∷◌, ◌++◌, append-nil, append_assoc}
use lib.ListN.{length}
use lib.Dec.{leb, eqb}
use lib.Pow.{pow_pos, pow-add}
use borrow.Author.Tests.{leb-true, le-leb, lt-leb, ne_eqb}
use native.Mathlib.Omega.{arith}
use Rattle.sides.proofs.Bools.{and_no}
use Rattle.tree.specs.declared.Node.{Node}
use Rattle.tree.specs.declared.Direction.{Direction}
use Rattle.tree.specs.declared.Direction.TheVariants.{Horizontal, Vertical}
use Rattle.tree.specs.Kind.{Kind}
use Rattle.tree.specs.Rows.{Row, row_of}
use Rattle.tree.specs.Back.{cells_of, starts_after}
use Rattle.tree.specs.Tree.{Trees, Tree, none, skip, node, rows_of}
use Rattle.laws.specs.Areas.{cells_of_all}
use Rattle.laws.specs.Every.{Every, every_none, every_more}
use Rattle.laws.specs.Geometry.{area_of}
use Rattle.laws.specs.Proper.{Proper}
use Rattle.laws.specs.Directions.{corner}
use Rattle.laws.specs.Shape.{Shape}
use Rattle.laws.proofs.Every.{every_map}
use Rattle.laws.proofs.EveryRow.{every_row_lem}
use Rattle.laws.proofs.Shape.{side_power, shape_kids}
use Rattle.laws.proofs.Leaves.{row_start, side_exponent, leaf_side}
use Rattle.laws.proofs.First.{first_longer, first_row}
use Rattle.laws.proofs.Sizes.{areas_in_picture}
use Rattle.laws.proofs.Order.{Fits, fits_there, tree_within}

-- ---- rows

pub cells_append : (rows more : List Row) → cells_of_all (rows ++ more) ≡ cells_of_all rows + cells_of_all more
cells_append [] more = omega arith
cells_append (r ∷ rows) more = let i = cells_append rows more in omega arith

-- each row has one at least
pub cells_least : (rows : List Row) → length rows ≤ cells_of_all rows
cells_least [] = omega arith
cells_least (r ∷ rows) = let i = cells_least rows in let p = pow_pos ((r.ew + r.eh + 12) % 16) in omega arith

-- a row of sides from 4 to 128 has 16 samples in each of its cells
cells_of_sides : (a b : ℕ) → a ≤ 5 → b ≤ 5 → 2 ^ ((2 + a + (2 + b) + 12) % 16) * 16 ≡ 2 ^ (2 + a) * 2 ^ (2 + b)
cells_of_sides a b ha hb =
    let e : (2 + a + (2 + b) + 12) % 16 ≡ a + b = omega arith in
    rw (e, pow-add 2 a b, pow-add 2 2 a, pow-add 2 2 b) (omega arith)

leaf_cells : {n : Node} → Shape n → cells_of (row_of n) * 16 ≡ 2 ^ (row_of n).ew * 2 ^ (row_of n).eh
unfolding row_of
leaf_cells sh =
    rw (side_exponent (sh.side Vertical), side_exponent (sh.side Horizontal))
    (cells_of_sides _ _ (side_power (sh.side Vertical)) (side_power (sh.side Horizontal)))

-- the row of a leaf has its node's
pub leaf_area_lem : {n : Node} → Shape n → cells_of (row_of n) * 16 ≡ n.w * n.h
leaf_area_lem sh = leaf_cells sh ∙ ap₂ (λ a b. a * b) (leaf_side sh Vertical) (leaf_side sh Horizontal)

cells_area : {rows : List Row} → Every (λ r. cells_of r * 16 ≡ 2 ^ r.ew * 2 ^ r.eh) rows → cells_of_all rows * 16 ≡ area_of rows
unfolding area_of
cells_area every_none = refl
cells_area (every_more p ps) = let i = cells_area ps in omega arith

cond_no : (b : Bool) {x y : Bool} → (b ≡ true → x ≡ false) → y ≡ false → cond b x y ≡ false
cond_no true h e = h refl
cond_no false h e = e

module _ (test : Row → Bool) (rest : List Row) where
  pub starts_here : (r : Row) → starts_after 0 test (r ∷ rest) ≡ test r
  unfolding starts_after
  starts_here r = rw (lt-leb (cells_of r) 0 (pow_pos ((r.ew + r.eh + 12) % 16)))

  -- none starts within a row
  pub starts_within : (r : Row) (count : ℕ) → 0 < count → count < cells_of r → starts_after count test (r ∷ rest) ≡ false
  unfolding starts_after
  starts_within r count some h = rw (lt-leb (cells_of r) count h, ne_eqb count 0 (λ e. omega arith))

  -- rows that go by
  pub starts_past : (rows : List Row) (count : ℕ) → starts_after (cells_of_all rows + count) test (rows ++ rest) ≡ starts_after count test rest
  unfolding starts_after
  starts_past [] count = ap (λ c. starts_after c test rest) (omega arith)
  starts_past (r ∷ rows) count =
      rw (le-leb (cells_of r) (cells_of r + cells_of_all rows + count) (omega arith)) (ap (λ c. starts_after c test (rows ++ rest)) (omega arith) ∙ starts_past rows count)

  -- more rows than go by, and none passes the test
  starts_never : {rows : List Row} → Every (λ r. test r ≡ false) rows → (count : ℕ) → count < cells_of_all rows → starts_after count test (rows ++ rest) ≡ false
  unfolding starts_after
  starts_never every_none count h = absurd (omega arith)
  starts_never (every_more {a = r} p ps) count h =
      cond_no (leb (cells_of r) count) (λ l. let i = leb-true (cells_of r) count l in starts_never ps (count - cells_of r) (omega arith)) (and_no (eqb count 0) (test r) p)

-- ---- the first tree and the others

module _ {k : Kind} {n : Node} {ns : List Node} where
  first_tree : Trees k (n ∷ ns) → Tree k n
  first_tree (skip out rest) = skip out none
  first_tree (node d here ok kids rest) = node d here ok kids none

  unfoldable pub other_trees : Trees k (n ∷ ns) → Trees k ns
  other_trees (skip out rest) = rest
  other_trees (node d here ok kids rest) = rest

  rows_apart : (t : Trees k (n ∷ ns)) → rows_of t ≡ rows_of (first_tree t) ++ rows_of (other_trees t)
  unfolding rows_of first_tree other_trees
  rows_apart (skip out rest) = refl
  rows_apart (node d here ok kids rest) = rw append-nil

-- the row after so many cells starts at an edge of a node, in the dimension that a cut of direction e divides
abbrev pub starts : Node → Direction → ℕ → List Row → Bool
starts b e count rows = starts_after count (λ r. eqb (row_start e r) (corner e b)) rows

module _ {k : Kind} (v : Proper k) {n : Node} (f : Fits k.limits n) where
  pub tree_cells : (t : Tree k n) → cells_of_all (rows_of t) * 16 ≡ n.w * n.h
  tree_cells t =
      let a = f.ends Vertical in
      let b = f.ends Horizontal in
      cells_area (every_row_lem k (λ n sh d ok. shape_kids v sh d ok) (λ n sh h. leaf_cells sh) t (every_more f.shape every_none))
      ∙ areas_in_picture v f.shape t ∙ ap₂ (λ a b. a * b) (omega arith) (omega arith)

  module _ {ns : List Node} (t : Trees k (n ∷ ns)) (more : List Row) (b : Node) (e : Direction) where
    parted : rows_of t ++ more ≡ rows_of (first_tree t) ++ (rows_of (other_trees t) ++ more)
    parted = rw (rows_apart t) (append_assoc (rows_of (first_tree t)) (rows_of (other_trees t)) more)

    pub lead_first : starts b e 0 (rows_of t ++ more) ≡ eqb (corner e n) (corner e b)
    lead_first = let g = first_longer more (first_row t (fits_there k.limits n f)) in rw (g.is, starts_here _ g.others g.row, g.at e)

    pub lead_past : (count left : ℕ) → count * 16 ≡ n.w * n.h + left * 16 → starts b e count (rows_of t ++ more) ≡ starts b e left (rows_of (other_trees t) ++ more)
    lead_past count left h =
        let c = tree_cells (first_tree t) in
        let e : count ≡ cells_of_all (rows_of (first_tree t)) + left = omega arith in
        rw (parted, e) (starts_past _ _ (rows_of (first_tree t)) left)

    -- a node that starts past the edge
    pub lead_never : (count : ℕ) → count * 16 < n.w * n.h → corner e b < corner e n → starts b e count (rows_of t ++ more) ≡ false
    lead_never count h past =
        let w = every_map (λ r w. ne_eqb (row_start e r) (corner e b) (λ i. let a = w.starts e in omega arith)) (tree_within v n (first_tree t) f.shape) in
        let c = tree_cells (first_tree t) in
        rw parted (starts_never _ _ w count (omega arith))
