-- The cut that the rows of a node inside the picture show is the one that gave them. In any kind.
use Prim.Native.Nat.{ℕ, ◌+◌, ◌*◌, ◌/◌, ◌≤◌, ◌<◌}
use mathlib.Core.Path.{◌≡◌, sym, ap₂, ◌∙◌}
use mathlib.Core.Bool.{true, false}
use mathlib.Core.List.{List, ◌∷◌, ◌++◌, append_assoc}
use borrow.Author.Tests.{lt-ltb, eq-eqb, ne_eqb}
use native.Mathlib.Omega.{arith}
use native.Mathlib.Nat.{mul-le-mul_left}
use Rattle.sides.proofs.Bools.{clash}
use Rattle.tree.specs.declared.Limits.{Limits}
use Rattle.tree.specs.declared.Node.{Node}
use Rattle.tree.specs.declared.Direction.{Direction}
use Rattle.tree.specs.declared.Direction.TheVariants.{Horizontal, Vertical}
use Rattle.tree.specs.declared.Decision.{Decision}
use Rattle.tree.specs.declared.Decision.TheVariants.{Leaf, Quad, Binary, Ternary}
use Rattle.tree.specs.Kind.{Kind}
use Rattle.tree.specs.Splits.{along, closed_middle, rights_of, allows}
use Rattle.tree.specs.Children.{slab, shares, child, child_mtt, children_from, children}
use Rattle.tree.specs.Rows.{Row, row_of, own_rows}
use Rattle.tree.specs.Back.{cut_from}
use Rattle.tree.specs.Tree.{Trees, none, skip, node, rows_of}
use Rattle.laws.specs.Every.{Every, every_more}
use Rattle.laws.specs.Proper.{Proper}
use Rattle.laws.specs.Directions.{corner}
use Rattle.laws.specs.Shape.{Shape}
use Rattle.laws.proofs.Tests.{never}
use Rattle.laws.proofs.Every.{every_head, every_tail}
use Rattle.laws.proofs.Multiples.{fold_least, four_quarters}
use Rattle.laws.proofs.Opens.{quad_open_lem, binary_open_lem}
use Rattle.laws.proofs.Slabs.{other, other_twice, same_way, by_way, slab_part, corner_along, corner_across}
use Rattle.laws.proofs.Shape.{side_four}
use Rattle.laws.proofs.Areas.{least_area}
use Rattle.laws.proofs.Order.{Fits, fits_there, fits_kids}
use Rattle.laws.proofs.Starts.{starts_within, other_trees, starts, tree_cells, lead_first, lead_past, lead_never}

-- ---- which cut the edges show

module _ (n : Node) (rows : List Row) where
  shows_binary : (d : Direction) → starts n (other d) (n.w * n.h / 32) rows ≡ true → starts n d (n.w * n.h / 32) rows ≡ false → cut_from n rows ≡ Binary d
  unfolding cut_from
  shows_binary Horizontal own cross = rw own
  shows_binary Vertical own cross = rw (cross, own)

  shows_ternary : (d : Direction) → ((e : Direction) → starts n e (n.w * n.h / 32) rows ≡ false) → starts n (other d) (n.w * n.h / 64) rows ≡ true
      → starts n d (n.w * n.h / 64) rows ≡ false → cut_from n rows ≡ Ternary d
  unfolding cut_from
  shows_ternary Horizontal half own cross = rw (half Vertical, half Horizontal, own)
  shows_ternary Vertical half own cross = rw (half Vertical, half Horizontal, cross)

-- ---- parts of a node

-- the area of a node, and that of a part, by sixteenths of the node
sixteenths : {n : Node} → Shape n → (n.w * n.h ≡ n.w / 4 * (n.h / 4) * 16) × (0 < n.w / 4 * (n.h / 4))
sixteenths sh =
    let e = ap₂ (λ a b. a * b) (four_quarters (side_four (sh.side Vertical))) (four_quarters (side_four (sh.side Horizontal))) in
    omega (arith, least_area sh)

module _ (l : Limits) (n : Node) (by : Decision) (start q part : ℕ) where
  part_area : (d : Direction) → (child l n by (slab d start q part)).w * (child l n by (slab d start q part)).h ≡ n.w / 4 * (n.h / 4) * (4 * q)
  unfolding child
  part_area Horizontal = omega arith
  part_area Vertical = omega arith

  part_past : Shape n → 0 < start → (d : Direction) → corner d n < corner d (child l n by (slab d start q part))
  part_past sh h d = rw (corner_along start q part l n by d) (omega (arith, fold_least (sh.side d).fold, mul-le-mul_left (along d n / 4) h))

-- the first two parts of a cut, the first of q quarters, and the parts after them; the middle part of a ternary cut
abbrev first_two : Limits → Node → Decision → Direction → ℕ → List Node → List Node
first_two l n by d q cs = child l n by (slab d 0 q 0) ∷ child l n by (slab d q 2 1) ∷ cs

abbrev middle : Limits → Node → Direction → Node
middle l n d = child l n (Ternary d) (slab d 1 2 1)

-- ---- the edges at which the parts of a cut start

module _ {k : Kind} (v : Proper k) where
  -- the second part: at the edge across the cut, and not at the one along it
  second_edges : (n : Node) → Shape n → (by : Decision) (d : Direction) (q count : ℕ) → 0 < q → count ≡ n.w / 4 * (n.h / 4) * (4 * q) / 16 → {cs : List Node}
      → Every (Fits k.limits) (first_two k.limits n by d q cs) → (kids : Trees k (first_two k.limits n by d q cs)) (more : List Row)
      → (starts n (other d) count (rows_of kids ++ more) ≡ true) × (starts n d count (rows_of kids ++ more) ≡ false)
  second_edges n sh by d q count some full (every_more c (every_more m fs)) kids more =
      let s = sixteenths c.shape in
      let a = part_area k.limits n by 0 q 0 d in
      let p = part_past k.limits n by q 2 1 sh some d in (
        lead_past v c kids more n (other d) count 0 (omega arith) ∙ lead_first v m (other_trees kids) more n (other d) ∙ eq-eqb _ _ (corner_across q 2 1 k.limits n by d),
        lead_past v c kids more n d count 0 (omega arith) ∙ lead_first v m (other_trees kids) more n d ∙ ne_eqb (corner d (child k.limits n by (slab d q 2 1))) (corner d n) (λ i. omega arith),
      )

  -- half of a ternary cut: at none, where half of the middle part is not at the one across
  ternary_half : (n : Node) → Shape n → (d : Direction) {cs : List Node} → Every (Fits k.limits) (first_two k.limits n (Ternary d) d 1 cs)
      → (kids : Trees k (first_two k.limits n (Ternary d) d 1 cs)) (more : List Row)
      → starts (middle k.limits n d) (other d) ((middle k.limits n d).w * (middle k.limits n d).h / 32) (rows_of (other_trees kids) ++ more) ≡ false
      → (e : Direction) → starts n e (n.w * n.h / 32) (rows_of kids ++ more) ≡ false
  ternary_half n sh d (every_more c (every_more m fs)) kids more inner =
      let s = sixteenths sh in
      let g = sixteenths c.shape in
      let a = part_area k.limits n (Ternary d) 0 1 0 d in
      let b = part_area k.limits n (Ternary d) 1 2 1 d in
      by_way (λ e. starts n e (n.w * n.h / 32) (rows_of kids ++ more) ≡ false) d
      (lead_past v c kids more n d _ (n.w * n.h / 64) (omega arith) ∙ lead_never v m (other_trees kids) more n d _ (omega arith) (part_past k.limits n (Ternary d) 1 2 1 sh (omega arith) d))
      (rw (← corner_across 1 2 1 k.limits n (Ternary d) d) (lead_past v c kids more (middle k.limits n d) (other d) _ _ (omega arith) ∙ inner))

  middle_closed : (n : Node) (d : Direction) → closed_middle (middle k.limits n d) d ≡ true
  unfolding child child_mtt
  middle_closed n d = rw (lt-ltb 0 (n.mtt + 1) (omega arith), slab_part 1 2 1 d, same_way d)

  -- it has two cells at least, since the first part has one
  middle_large : (n : Node) → Shape n → (d : Direction) {cs : List Node} → Every (Fits k.limits) (first_two k.limits n (Ternary d) d 1 cs)
      → 32 ≤ (middle k.limits n d).w * (middle k.limits n d).h
  middle_large n sh d (every_more c fs) =
      let s = sixteenths sh in
      let g = sixteenths c.shape in
      let a = part_area k.limits n (Ternary d) 0 1 0 d in
      let b = part_area k.limits n (Ternary d) 1 2 1 d in
      omega arith

  -- half of a node that, as a middle part, is not cut in two in direction d: not at the one across
  closed_half : {n : Node} {ns : List Node} (t : Trees k (n ∷ ns)) → Fits k.limits n → 32 ≤ n.w * n.h → (d : Direction) → closed_middle n d ≡ true → (more : List Row)
      → starts n (other d) (n.w * n.h / 32) (rows_of t ++ more) ≡ false
  unfolding rows_of own_rows children children_from shares other_trees rights_of
  closed_half {n} (skip out rest) f large d closed more = clash (fits_there k.limits n f) out
  closed_half {n} (node Leaf here ok none rest) f large d closed more =
      let s = sixteenths f.shape in
      let a = tree_cells v f (node Leaf here ok none none) in
      starts_within _ _ (row_of n) _ (omega arith) (omega arith)
  closed_half {n} (node Quad here ok kids rest) f large d closed more = never (sym (rw (quad_open_lem k n ok).top at closed))
  closed_half {n} (node (Binary e) here ok kids rest) f large d closed more =
      let s = sixteenths f.shape in
      let u = second_edges n f.shape (Binary e) e 2 (n.w * n.h / 32) (omega arith) (omega arith) (fits_kids v n (Binary e) ok f) kids (rows_of rest ++ more) in
      rw (append_assoc (rows_of kids) (rows_of rest) more)
      (by_way (λ d. closed_middle n d ≡ true → starts n (other d) (n.w * n.h / 32) (rows_of kids ++ (rows_of rest ++ more)) ≡ false) e
      (λ c. clash c (binary_open_lem k n e ok).middle) (λ c. rw (← other_twice e) u.1) d closed)
  closed_half {n} (node (Ternary e) here ok (skip out rest') rest) f large d closed more = clash (fits_there k.limits _ (every_head (fits_kids v n (Ternary e) ok f))) out
  closed_half {n} (node (Ternary e) here ok (node by' here' ok' kids rest') rest) f large d closed more =
      let fs = fits_kids v n (Ternary e) ok f in
      let all = node by' here' ok' kids rest' in
      rw (append_assoc (rows_of all) (rows_of rest) more)
      (ternary_half n f.shape e fs all (rows_of rest ++ more) (closed_half rest' (every_head (every_tail fs)) (middle_large n f.shape e fs) e (middle_closed n e) (rows_of rest ++ more)) (other d))

  -- ---- the cut that the rows show

  pub binary_found : (n : Node) (d : Direction) → allows (rights_of k n) (Binary d) ≡ true → (kids : Trees k (children k.limits n (Binary d))) → Fits k.limits n → (more : List Row)
      → cut_from n (rows_of kids ++ more) ≡ Binary d
  unfolding children children_from shares
  binary_found n d ok kids f more =
      let s = sixteenths f.shape in
      let u = second_edges n f.shape (Binary d) d 2 (n.w * n.h / 32) (omega arith) (omega arith) (fits_kids v n (Binary d) ok f) kids more in
      shows_binary n _ d u.0 u.1

  pub ternary_found : (n : Node) (d : Direction) → allows (rights_of k n) (Ternary d) ≡ true → (kids : Trees k (children k.limits n (Ternary d))) → Fits k.limits n → (more : List Row)
      → cut_from n (rows_of kids ++ more) ≡ Ternary d
  unfolding children children_from shares
  ternary_found n d ok kids f more =
      let s = sixteenths f.shape in
      let fs = fits_kids v n (Ternary d) ok f in
      let u = second_edges n f.shape (Ternary d) d 1 (n.w * n.h / 64) (omega arith) (omega arith) fs kids more in
      shows_ternary n _ d (ternary_half n f.shape d fs kids more (closed_half (other_trees kids) (every_head (every_tail fs)) (middle_large n f.shape d fs) d (middle_closed n d) more)) u.0 u.1
