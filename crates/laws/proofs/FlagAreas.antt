-- The flags of a coding tree by the samples of its node: at most 7 for every 64 samples, less what the node's sides cannot
-- have. Of a square above all cuts, of side 8 to 64, this is 2; of one of 128 by 128, 6.
use Prim.Native.Nat.{ℕ, ◌+◌, ◌*◌, ◌/◌, ◌≤◌}
use mathlib.Core.Path.{◌≡◌, refl}
use mathlib.Core.Bool.{Bool, true, false, not, ◌&&◌}
use mathlib.Core.List.{List, [], ◌∷◌}
use lib.ListN.{length}
use lib.Dec.{leb, ltb, eqb}
use borrow.Author.Tests.{leb-true, lt-ltb, le-ltb, le-leb, eq-eqb}
use native.Mathlib.Omega.{arith}
use Rattle.sides.proofs.Bools.{for_bool, at_bool}
use Rattle.tree.specs.declared.Node.{Node}
use Rattle.tree.specs.declared.Share.{Share}
use Rattle.tree.specs.declared.Direction.TheVariants.{Horizontal, Vertical}
use Rattle.tree.specs.declared.Decision.{Decision}
use Rattle.tree.specs.declared.Decision.TheVariants.{Leaf, Quad, Binary, Ternary}
use Rattle.tree.specs.Kind.{Kind}
use Rattle.tree.specs.Splits.{pick, along, Rights, rights_of, allows}
use Rattle.tree.specs.Flags.{flags_for}
use Rattle.tree.specs.Children.{shares, child, child_mtt, children_from, children}
use Rattle.tree.specs.Tree.{Trees, Tree, none, skip, node, flags_of}
use Rattle.laws.specs.Counts.{flags_at, flag_count}
use Rattle.laws.specs.Every.{Every, every_none, every_more}
use Rattle.laws.specs.Proper.{Proper}
use Rattle.laws.specs.Areas.{areas_of, spare, room_of, flag_room}
use Rattle.laws.specs.Shape.{Shape}
use Rattle.laws.proofs.Areas.{kids_areas}
use Rattle.laws.proofs.Counts.{Entails, for_count, flag_count_lem, flags_grow}
use Rattle.laws.proofs.FlagRows.{cuts}
use Rattle.laws.proofs.Opens.{quad_open_lem, binary_open_lem, ternary_open_lem}
use Rattle.laws.proofs.Shape.{shape_kids}
use Rattle.laws.proofs.Sides.{one_of, for_sides, at_side}
use Rattle.laws.proofs.Tests.{implies, implies_use}

abbrev spare_of : Node → ℕ
spare_of n = spare n.w n.h (ltb 0 n.mtt)

abbrev spares_of : List Node → ℕ
spares_of [] = 0
spares_of (n ∷ ns) = spare_of n + spares_of ns

abbrev part_spares : ℕ → ℕ → Bool → List Share → ℕ
part_spares w h cut [] = 0
part_spares w h cut (p ∷ ps) = spare (w / 4 * p.wide) (h / 4 * p.high) cut + part_spares w h cut ps

-- a leaf pays with its samples
abbrev leaf_area : Decision → ℕ → ℕ → ℕ
leaf_area Leaf w h = w * h
leaf_area Quad w h = 0
leaf_area (Binary d) w h = 0
leaf_area (Ternary d) w h = 0

-- ---- one node: a test of all sides

-- the splits that the sides of a node leave open, below a cut or not: at most these are open at the node
abbrev most_open : ℕ → ℕ → Bool → Rights
most_open w h cut = record {
  within = true;
  quad = not cut && (ltb 4 w && eqb w h);
  binary = λ d. ltb 4 (pick d h w) && not (leb (pick d h w) 64 && ltb 64 (pick d w h));
  ternary = λ d. ltb 8 (pick d h w) && (leb w 64 && leb h 64);
}

abbrev pays : Decision → ℕ → ℕ → Bool → Bool
pays d w h cut =
    implies (allows (most_open w h cut) d)
    (leb (64 * flags_at (most_open w h cut) d + 16 * spare w h cut) (16 * part_spares w h (cuts d) (shares d) + 7 * leaf_area d w h))

pay_test : (d : Decision) → for_sides (λ w. for_sides (λ h. for_bool (pays d w h))) ≡ true
unfolding shares
pay_test Leaf = refl
pay_test Quad = refl
pay_test (Binary Horizontal) = refl
pay_test (Binary Vertical) = refl
pay_test (Ternary Horizontal) = refl
pay_test (Ternary Vertical) = refl

-- a node that is skipped has no flags: its samples pay for its spare
abbrev skips : ℕ → ℕ → Bool → Bool
skips w h cut = leb (16 * spare w h cut) (7 * (w * h))

skip_test : for_sides (λ w. for_sides (λ h. for_bool (skips w h))) ≡ true
skip_test = refl

at_node : (f : ℕ → ℕ → Bool → Bool) → for_sides (λ w. for_sides (λ h. for_bool (f w h))) ≡ true → {n : Node} → Shape n
    → f n.w n.h (ltb 0 n.mtt) ≡ true
at_node f t {n} sh =
    let a = at_side (λ w. for_sides (λ h. for_bool (f w h))) t (one_of (sh.side Vertical)) in
    let b = at_side (λ h. for_bool (f n.w h)) a (one_of (sh.side Horizontal)) in
    at_bool (f n.w n.h) b (ltb 0 n.mtt)

-- the samples of a node pay for its spare
own_spare : {n : Node} → Shape n → 16 * spare_of n ≤ 7 * (n.w * n.h)
own_spare sh = leb-true _ _ (at_node skips skip_test sh)

rooms_areas : {ns : List Node} → Every Shape ns → flag_room ns + 16 * spares_of ns ≡ 7 * areas_of ns
unfolding flag_room room_of areas_of
rooms_areas every_none = refl
rooms_areas (every_more sh shs) = let a = own_spare sh in let b = rooms_areas shs in omega arith

module _ {k : Kind} (v : Proper k) {n : Node} (sh : Shape n) where
  abbrev by_sides : Rights
  by_sides = most_open n.w n.h (ltb 0 n.mtt)

  at_most : (d : Decision) → Entails (allows (rights_of k n) d) (allows by_sides d)
  unfolding rights_of
  at_most Leaf h = refl
  at_most Quad h =
      let o = quad_open_lem k n h in
      let t = o.top in
      let l = o.large in
      rw (le-ltb 0 n.mtt (omega arith), lt-ltb 4 n.w (omega arith), eq-eqb n.w n.h (sh.square t))
  at_most (Binary d) h =
      let o = binary_open_lem k n d h in
      let c = o.cut in
      rw (lt-ltb 4 (along d n) (omega arith), o.narrow)
  at_most (Ternary d) h =
      let o = ternary_open_lem k n d h in
      let c = o.cut in
      let wide = o.tt Vertical in
      let high = o.tt Horizontal in
      rw (lt-ltb 8 (along d n) (omega arith), le-leb n.w 64 (omega arith), le-leb n.h 64 (omega arith))

  node_pays : (d : Decision) → allows (rights_of k n) d ≡ true
      → 64 * flags_at (rights_of k n) d + 16 * spare_of n ≤ 16 * part_spares n.w n.h (cuts d) (shares d) + 7 * leaf_area d n.w n.h
  node_pays d ok =
      let g = flags_grow (rights_of k n) by_sides at_most d in
      let p : 64 * flags_at by_sides d + 16 * spare_of n ≤ 16 * part_spares n.w n.h (cuts d) (shares d) + 7 * leaf_area d n.w n.h =
      leb-true _ _ (implies_use _ _ (at_node (pays d) (pay_test d) sh) (at_most d ok)) in
      omega arith

  -- ---- its children

  split_spare : (d : Decision) → spares_of (children k.limits n d) ≡ part_spares n.w n.h (cuts d) (shares d)
  unfolding children children_from child child_mtt shares
  split_spare Leaf = refl
  split_spare Quad = refl
  split_spare (Binary Horizontal) = rw (lt-ltb 0 (n.mtt + 1) (omega arith))
  split_spare (Binary Vertical) = rw (lt-ltb 0 (n.mtt + 1) (omega arith))
  split_spare (Ternary Horizontal) = rw (lt-ltb 0 (n.mtt + 1) (omega arith))
  split_spare (Ternary Vertical) = rw (lt-ltb 0 (n.mtt + 1) (omega arith))

  split_area : (d : Decision) → areas_of (children k.limits n d) + leaf_area d n.w n.h ≡ n.w * n.h
  unfolding children children_from shares areas_of
  split_area Leaf = omega arith
  split_area Quad = let a = kids_areas k.limits sh Quad refl in omega arith
  split_area (Binary d) = let a = kids_areas k.limits sh (Binary d) refl in omega arith
  split_area (Ternary d) = let a = kids_areas k.limits sh (Ternary d) refl in omega arith

  -- the flags of a decision, and what there is room for below it, have room at the node
  pub decision_room : (d : Decision) → allows (rights_of k n) d ≡ true → 64 * length (flags_for (rights_of k n) d) + flag_room (children k.limits n d) ≤ room_of n
  unfolding room_of
  decision_room d ok =
      let p = node_pays d ok in
      let c = for_count (rights_of k n) d in
      let s = split_spare d in
      let a = split_area d in
      let r = rooms_areas (shape_kids v sh d ok) in
      omega arith

-- ---- all nodes

module _ {k : Kind} (v : Proper k) where
  count_spare : {ns : List Node} (t : Trees k ns) → Every Shape ns → 64 * flag_count t + 16 * spares_of ns ≤ 7 * areas_of ns
  unfolding flag_count areas_of
  count_spare none shs = omega arith
  count_spare (skip {n = n} out rest) (every_more sh shs) =
      let a = count_spare rest shs in
      let b = own_spare sh in
      omega arith
  count_spare (node {n = n} d here ok kids rest) (every_more sh shs) =
      let a = count_spare kids (shape_kids v sh d ok) in
      let b = count_spare rest shs in
      let c = node_pays v sh d ok in
      let e = split_spare v sh d in
      let f = split_area v sh d in
      omega arith

  -- of a square above all cuts, as the root of a unit is
  pub square_flags : {n : Node} → Shape n → (side : ℕ) → n.w ≡ side → n.h ≡ side → n.mtt ≡ 0 → (t : Tree k n)
      → 64 * length (flags_of t) + 16 * spare side side false ≤ 7 * (side * side)
  unfolding areas_of
  square_flags {n} sh side w h top t =
      let a = count_spare t (every_more sh every_none) in
      let b : spare_of n ≡ spare side side false = rw (w, h, top) in
      let c : n.w * n.h ≡ side * side = rw (w, h) in
      let e = flag_count_lem t in
      omega arith
