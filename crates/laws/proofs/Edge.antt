-- Every node of a coding tree that is out of the picture has an open split, in every proper kind: document 01's remark at refusal 9, and R-6's for chroma.
-- Such a node lies on the grain of the picture: its parents are out too, and where a node is out, the edge of the picture leaves it two grains at least.
use Prim.Native.Nat.{ℕ, zero, suc, ◌+◌, ◌≤◌, ◌<◌}
use mathlib.Core.Path.{◌≡◌, refl, ap}
use mathlib.Core.Bool.{Bool, true, false, not, ◌&&◌, ◌||◌}
use lib.Dec.{leb, ltb, eqb}
use borrow.Author.Tests.{ltb-false, lt-ltb, le-ltb, le-leb, eq-eqb}
use native.Mathlib.Omega.{arith}
use native.Mathlib.Decide.{dec_lt}
use Rattle.sides.proofs.Bools.{clash, and_no, and_late, or_right}
use Rattle.sides.specs.Side.{exponent}
use Rattle.tree.specs.declared.Node.{Node}
use Rattle.tree.specs.declared.Share.{Share}
use Rattle.tree.specs.declared.Direction.{Direction}
use Rattle.tree.specs.declared.Direction.TheVariants.{Horizontal, Vertical}
use Rattle.tree.specs.declared.Decision.{Decision}
use Rattle.tree.specs.declared.Decision.TheVariants.{Leaf, Quad, Binary, Ternary}
use Rattle.tree.specs.Kind.{Kind, closes, luma}
use Rattle.tree.specs.Splits.{along, across, right_out, bottom_out, inside, out_along, quad_open, closed_across, binary_closed, binary_open, ternary_open, rights_of, allows}
use Rattle.tree.specs.Flags.{cut_open, some_open}
use Rattle.tree.specs.Children.{child, child_mtt, child_offset, children, corner_inside}
use Rattle.laws.specs.Every.{Every}
use Rattle.laws.specs.Proper.{grain, Proper, RootSquare}
use Rattle.laws.specs.Good.{Edge, Good}
use Rattle.laws.specs.Multiples.{Multiple}
use Rattle.laws.proofs.Picture.{starts_in, out_past, out_some, cut_out, child_out, child_here, child_corners}
use Rattle.laws.proofs.Directions.{other_side, square_side, square_sides}
use Rattle.laws.proofs.Multiples.{fold_multiple, fold_least, same_multiple, apart}
use Rattle.laws.proofs.Opens.{quad_open_lem, BinaryOpen, binary_open_lem, ternary_open_lem}
use Rattle.laws.proofs.Parts.{Piece, no_piece, every_child, child_under}
use Rattle.laws.proofs.Shape.{side_four, square_room, cut_room, shape_child}
use Rattle.laws.proofs.Grids.{grid_child, four_qt, grain_power, four_grain, picture, flat_picture, root_shape, root_grid}

-- ---- a root is good

pub good_root : {k : Kind} → Proper k → {n : Node} → RootSquare k.limits n → Good k.limits n
good_root {k} v r = record {
  shape = root_shape r;
  top = λ _. root_grid r (exponent k.limits.minqt) v.qt_power (omega arith);
  grid = λ _ _. let g = grain_power v in root_grid r g.0 g.1 (omega arith);
  lifted = λ _. let a = r.uncut in let b = r.unlifted in omega arith;
  edge = λ _ d. absurd (omega arith);
}

-- ---- an edge node has an open split

left_open : (shut right : Bool) → (right ≡ true → shut ≡ false) → (not shut && right) ≡ right
left_open shut true h = rw (h refl)
left_open shut false h = and_no (not shut) false refl

module _ {k : Kind} (v : Proper k) {n : Node} (g : Good k.limits n) (here : corner_inside k.limits n ≡ true) (out : inside k.limits n ≡ false) where
  -- it is longer than the grain where it is out
  out_long : (e : Direction) → out_along e k.limits n ≡ true → grain k.limits < along e n
  out_long e o =
      let past = out_past k.limits n e o in
      let gap = apart ((g.grid here out).at e) (picture v e) (starts_in k n here e) in
      omega arith

  pub out_sixteen : (e : Direction) → out_along e k.limits n ≡ true → 16 ≤ along e n
  out_sixteen e o = let two = apart (same_multiple _) (fold_multiple ((g.grid here out).side e)) (out_long e o) in omega arith

  out_square : n.w ≡ n.h → grain k.limits < n.w
  out_square z =
      let o = out_some k.limits n out in
      let a = square_side n z o.0 in
      let b = out_long o.0 o.1 in
      omega arith

  -- there a kind closes nothing that the rules leave open: its rights are luma's
  pub edge_same : (d : Decision) → allows (rights_of k n) d ≡ allows (rights_of (luma k.limits) n) d
  unfolding rights_of
  edge_same Leaf = refl
  edge_same Quad = left_open (closes k n Quad) (quad_open k.limits n) (λ o.
      let z = g.shape.square (quad_open_lem (luma k.limits) n o).top in
      let two = apart (same_multiple _) (fold_multiple ((g.grid here out).side Vertical)) (out_square z) in
      v.quad n (omega arith) (omega arith))
  edge_same (Binary d) = left_open (closes k n (Binary d)) (binary_open k.limits n d) (λ o.
      let along = out_long d (cut_out k.limits n d (binary_open_lem (luma k.limits) n d o).across out) in
      let two = apart (same_multiple _) (fold_multiple ((g.grid here out).side d)) along in
      let w = fold_least ((g.grid here out).side Vertical) in
      let h = fold_least ((g.grid here out).side Horizontal) in
      v.cut n d (omega arith) (omega arith) (omega arith))
  edge_same (Ternary d) = left_open (closes k n (Ternary d)) (ternary_open k.limits n d) (λ o. clash (ternary_open_lem (luma k.limits) n d o).within out)

  edge_cut_lem : Edge k.limits n → (d : Direction) → out_along d k.limits n ≡ true → closed_across k.limits n d ≡ false → binary_open k.limits n d ≡ true
  unfolding binary_open binary_closed
  edge_cut_lem e d o a =
      let l = out_long d o in
      let x = g.lifted out in
      let y = e.deep in
      let s = le-ltb 64 (across d n) (other_side n e.small d) in
      rw (lt-ltb k.limits.mincb (along d n) (omega arith), le-leb n.w k.limits.maxbt (e.bt Vertical), le-leb n.h k.limits.maxbt (e.bt Horizontal), lt-ltb n.mtt (k.limits.maxmtt + n.offset) (omega arith))
      (rw (a, s, e.corners, e.outer d) (ap not (and_no (leb (along d n) 64) false refl)))

  cut_some : Edge k.limits n → some_open (rights_of (luma k.limits) n) ≡ true
  unfolding rights_of
  cut_some e = let o = out_some k.limits n out in go o.0 (edge_cut_lem e o.0 o.1 o.2)
    where
      go : (d : Direction) → binary_open k.limits n d ≡ true → some_open (rights_of (luma k.limits) n) ≡ true
      go Horizontal h = or_right (quad_open k.limits n) _ (rw h)
      go Vertical h = or_right (quad_open k.limits n) _ (or_right (cut_open (rights_of (luma k.limits) n) Horizontal) _ (rw h))

  -- a node above all cuts that no quad split can divide
  module _ (top : n.mtt ≡ 0) (least : n.w ≤ k.limits.minqt) where
    top_side : (e : Direction) → along e n ≡ k.limits.minqt
    top_side e = let a = square_side n (g.shape.square top) e in let b = fold_least ((g.top top).side Vertical) in omega arith

    -- with M = 0 it lies in the picture, which is a multiple of it
    top_deep : (m : ℕ) → k.limits.maxmtt ≡ m → 0 < m
    top_deep (suc m) e = omega arith
    top_deep zero e =
        let o = out_some k.limits n out in
        let a = apart ((g.top top).at o.0) (flat_picture v e o.0) (starts_in k n here o.0) in
        let b = out_past k.limits n o.0 o.1 in
        let c = top_side o.0 in
        absurd (omega arith)

    top_edge : Edge k.limits n
    top_edge = record {
      deep = top_deep k.limits.maxmtt refl;
      small = λ e. let s = top_side e in let b = v.qt64 in omega arith;
      bt = λ e. let s = top_side e in let b = v.qt_bt in omega arith;
      corners = and_no (right_out k.limits n && bottom_out k.limits n) (ltb k.limits.minqt n.w) (le-ltb k.limits.minqt n.w least);
      outer = λ d. rw (le-ltb 0 n.mtt (omega arith));
    }

  luma_open : some_open (rights_of (luma k.limits) n) ≡ true
  unfolding rights_of
  luma_open = go (dec_lt 0 n.mtt) (dec_lt k.limits.minqt n.w)
    where
      go : Dec (0 < n.mtt) → Dec (k.limits.minqt < n.w) → some_open (rights_of (luma k.limits) n) ≡ true
      go (yes d) w = cut_some (g.edge out d)
      go (no d) (yes w) = rw (eq-eqb n.mtt 0 (omega arith), lt-ltb k.limits.minqt n.w w)
      go (no d) (no w) = cut_some (top_edge (omega arith) (omega arith))

  pub edge_has_open_split : some_open (rights_of k n) ≡ true
  edge_has_open_split = rw (edge_same Quad, edge_same (Binary Horizontal), edge_same (Ternary Horizontal), edge_same (Binary Vertical), edge_same (Ternary Vertical)) luma_open

-- ---- the children of an allowed decision are good

module _ {k : Kind} (v : Proper k) {n : Node} (g : Good k.limits n) where
  four_sides : (e : Direction) → Multiple 4 (along e n)
  four_sides e = side_four (g.shape.side e)

  -- a binary cut at the edge
  module _ (d : Direction) (o : BinaryOpen k.limits n d) (out : inside k.limits n ≡ false) where
    out_along_lem : out_along d k.limits n ≡ true
    out_along_lem = cut_out k.limits n d o.across out

    cut_small : (e : Direction) → along e n ≤ 64
    cut_small = go (dec_lt 0 n.mtt)
      where
        go : Dec (0 < n.mtt) → (e : Direction) → along e n ≤ 64
        go (yes h) = (g.edge out h).small
        go (no h) = square_sides n (g.shape.square (omega arith)) d (ltb-false 64 (across d n) (and_late (ltb 64 (across d n)) (out_along d k.limits n) o.large out_along_lem))

    child_edge : {p : Share} → Piece (Binary d) p → Edge k.limits (child k.limits n (Binary d) p)
    unfolding child child_mtt
    child_edge {p} piece =
        let lifted = g.lifted out in
        let deep = o.deep in
        record {
          deep = omega arith;
          small = λ e. let a = child_under k.limits n piece e (four_sides e) in let b = cut_small e in omega arith;
          bt = λ e. let a = child_under k.limits n piece e (four_sides e) in let b = o.bt e in omega arith;
          corners = child_corners k.limits n piece four_sides o.corner;
          outer = λ e. and_no (ltb 0 (n.mtt + 1) && eqb p.part 1) false refl;
        }

  pub good_child : (d : Decision) → allows (rights_of k n) d ≡ true → (p : Share) → Piece d p → Good k.limits (child k.limits n d p)
  unfolding child child_mtt child_offset
  good_child Leaf ok p piece = no_piece piece
  good_child Quad ok p piece =
      let o = quad_open_lem k n ok in
      let z = g.shape.square o.top in
      record {
        shape = shape_child v g.shape Quad ok p piece;
        top = λ _. grid_child k.limits (four_qt v) (g.top o.top) piece (square_room k.limits.minqt n z o.large);
        grid = λ here out.
            let h = child_here k n Quad p here in
            let u = child_out k.limits n piece four_sides out in
            grid_child k.limits (four_grain v) (g.grid h u) piece (square_room (grain k.limits) n z (out_square v g h u z));
        lifted = λ _. refl;
        edge = λ _ c. absurd (omega arith);
      }
  good_child (Binary d) ok p piece =
      let o = binary_open_lem k n d ok in
      record {
        shape = shape_child v g.shape (Binary d) ok p piece;
        top = λ c. absurd (omega arith);
        grid = λ here out.
            let h = child_here k n (Binary d) p here in
            let u = child_out k.limits n piece four_sides out in
            let l = out_long v g h u d (out_along_lem d o u) in
            grid_child k.limits (four_grain v) (g.grid h u) piece (cut_room (grain k.limits) n (omega arith) (λ e. fold_least ((g.grid h u).side e)) 2 d (omega arith));
        lifted = λ out. let u = child_out k.limits n piece four_sides out in let a = g.lifted u in rw (out_along_lem d o u) (omega arith);
        edge = λ out _. child_edge d o (child_out k.limits n piece four_sides out) piece;
      }
  good_child (Ternary d) ok p piece =
      let i = (ternary_open_lem k n d ok).within in
      let up = child_out k.limits n piece four_sides in
      record {
        shape = shape_child v g.shape (Ternary d) ok p piece;
        top = λ c. absurd (omega arith);
        grid = λ _ out. clash i (up out);
        lifted = λ out. clash i (up out);
        edge = λ out _. clash i (up out);
      }

  pub good_kids : (d : Decision) → allows (rights_of k n) d ≡ true → Every (Good k.limits) (children k.limits n d)
  good_kids d ok = every_child k n d (good_child d ok)

module _ {k : Kind} (v : Proper k) where
  -- so no walk over good nodes meets a dead end
  pub no_dead_end : {n : Node} → Good k.limits n → corner_inside k.limits n ≡ true → ((rights_of k n).within || some_open (rights_of k n)) ≡ true
  unfolding rights_of
  no_dead_end {n} g here = go (inside k.limits n) refl
    where
      go : (b : Bool) → inside k.limits n ≡ b → (b || some_open (rights_of k n)) ≡ true
      go true i = refl
      go false i = edge_has_open_split v g here i
