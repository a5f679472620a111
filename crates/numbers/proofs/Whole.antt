-- The contexts by the rows coded so far are those by the blocks of the whole picture.
use Prim.Native.Nat.{ℕ, ◌-◌, ◌≤◌, ◌<◌}
use mathlib.Core.Path.{◌≡◌, refl, sym, ap, ◌∙◌}
use mathlib.Core.List.{List, [], ◌∷◌, ◌++◌, append_assoc}
use borrow.Author.Tests.{eq-eqb, ne_eqb}
use native.Mathlib.Omega.{arith}
use native.Mathlib.Decide.{ℕ_discrete}
use Rattle.tree.specs.declared.Node.{Node}
use Rattle.tree.specs.declared.Direction.{Direction}
use Rattle.tree.specs.declared.Direction.TheVariants.{Horizontal, Vertical}
use Rattle.tree.specs.declared.Decision.{Decision}
use Rattle.tree.specs.declared.Decision.TheVariants.{Leaf, Quad, Binary, Ternary}
use Rattle.tree.specs.Kind.{Kind}
use Rattle.tree.specs.Children.{shares, children_from, children}
use Rattle.tree.specs.Rows.{Row, own_rows}
use Rattle.tree.specs.Tree.{Trees, none, skip, node, rows_of}
use Rattle.laws.specs.Geometry.{copies}
use Rattle.laws.proofs.Copies.{copies_append}
use Rattle.numbers.specs.Walk.{put_all, contexts_of}
use Rattle.numbers.specs.Standard.{seen_at, standard, whole}
use Rattle.numbers.specs.Order.{AtNodes, Behind}
use Rattle.numbers.proofs.Same.{put_append}
use Rattle.numbers.proofs.Counts.{seen_past}

-- rows so far, and all rows
pub record Later (done all : List Row) : Type 0 where
  pub rows : List Row
  pub is : all ≡ rows ++ done

pub later_before : (rows : List Row) {done all : List Row} → Later (put_all standard rows done) all → Later done all
unfolding put_all
later_before [] l = l
later_before (r ∷ rows) {done} l =
    let m = later_before rows l in
    record { rows = m.rows ++ (r ∷ []); is = m.is ∙ sym (append_assoc m.rows (r ∷ []) done) }

module _ (all table : List Row) (once : (px py : ℕ) → copies px py all ≤ 1) (view : (d : Direction) (px py : ℕ) → seen_at d px py all ≡ seen_at d px py table) where
  -- a sample that was coded is seen as it is in the whole table
  seen_whole : {done : List Row} → Later done all → (d : Direction) (px py : ℕ) → 0 < copies px py done → seen_at d px py done ≡ seen_at d px py table
  seen_whole {done} l d px py h =
      let o = once px py in
      let c = ap (copies px py) l.is ∙ copies_append px py l.rows done in
      sym (ap (seen_at d px py) l.is ∙ seen_past px py d l.rows done (omega arith)) ∙ view d px py

  module _ (n : Node) (done : List Row) (l : Later done all) (b : Behind 0 0 n done) (u : Unit {0}) where
    above_whole : standard.above done n.x n.y ≡ (whole table).above u n.x n.y
    above_whole = go (ℕ_discrete n.y 0)
      where
        go : Dec (n.y ≡ 0) → standard.above done n.x n.y ≡ (whole table).above u n.x n.y
        go (yes z) = rw (eq-eqb n.y 0 z)
        go (no z) = rw (ne_eqb n.y 0 z) (seen_whole l Vertical n.x (n.y - 1) (b.above (omega arith)))

    left_whole : standard.left done n.x n.y ≡ (whole table).left u n.x n.y
    left_whole = go (ℕ_discrete n.x 0)
      where
        go : Dec (n.x ≡ 0) → standard.left done n.x n.y ≡ (whole table).left u n.x n.y
        go (yes z) = rw (eq-eqb n.x 0 z)
        go (no z) = rw (ne_eqb n.x 0 z) (seen_whole l Horizontal (n.x - 1) n.y (b.left (omega arith)))

  -- a leaf has no children, and a split no row of its own
  kids_later : (k : Kind) (n : Node) (d : Decision) (kids : Trees k (children k.limits n d)) (done : List Row) → Later (put_all standard (own_rows n d ++ rows_of kids) done) all
      → Later (put_all standard (rows_of kids) done) all
  unfolding own_rows children children_from shares rows_of put_all
  kids_later k n Leaf none done l = later_before (own_rows n Leaf) l
  kids_later k n Quad kids done l = l
  kids_later k n (Binary d) kids done l = l
  kids_later k n (Ternary d) kids done l = l

  pub same_whole : {k : Kind} {ns : List Node} (t : Trees k ns) (done : List Row) → Later (put_all standard (rows_of t) done) all → AtNodes standard (Behind 0 0) t done
      → (u : Unit {0}) → contexts_of standard t done ≡ contexts_of (whole table) t u
  unfolding contexts_of rows_of AtNodes
  same_whole none done l b u = refl
  same_whole (skip out rest) done l b u = same_whole rest done l b u
  same_whole {k} (node {n = n} d here ok kids rest) done l b u =
      let after = rw (put_append standard (own_rows n d ++ rows_of kids) (rows_of rest) done) at l in
      let mid = later_before (rows_of rest) after in
      let low = kids_later k n d kids done mid in
      let now = later_before (rows_of kids) low in
      let x = above_whole n done now b.0 u in
      let y = left_whole n done now b.0 u in
      let z = same_whole kids done low b.1 u in
      let w = same_whole rest (put_all standard (own_rows n d ++ rows_of kids) done) after b.2 (put_all (whole table) (own_rows n d ++ rows_of kids) u) in
      rw (x, y, z, w)
