-- What is left to the children of a node: inside the picture by the bound of the depth, out of it by their depths and their offset.
use Prim.Native.Nat.{ℕ, ◌+◌, ◌*◌, ◌%◌, ◌≤◌, ◌<◌, min}
use mathlib.Core.Path.{◌≡◌, refl, sym, ap, ap₂, ◌∙◌}
use mathlib.Core.Bool.{Bool, true, false, not, ◌&&◌, cond}
use native.Mathlib.Decide.{dec_lt}
use native.Mathlib.Omega.{arith}
use lib.Dec.{ltb, eqb}
use borrow.Author.Tests.{lt-ltb, le-ltb, eq-eqb, ne_eqb}
use Rattle.sides.proofs.Bools.{and_no}
use Rattle.tree.specs.declared.Limits.{Limits}
use Rattle.tree.specs.declared.Node.{Node}
use Rattle.tree.specs.declared.Direction.{Direction}
use Rattle.tree.specs.declared.Direction.TheVariants.{Horizontal, Vertical}
use Rattle.tree.specs.declared.Decision.TheVariants.{Quad, Binary, Ternary}
use Rattle.tree.specs.Kind.{Kind}
use Rattle.tree.specs.Splits.{pick, bit, same_direction, out_along, closed_middle, open_splits}
use Rattle.tree.specs.Children.{child_mtt, child_offset, child}
use Rattle.tree.specs.Rows.{row_of}
use Rattle.blocks.specs.Table.{share_at}
use Rattle.blocks.specs.RowNumbers.{row_word}
use Rattle.laws.proofs.Multiples.{fold_least}
use Rattle.nodes.specs.Tables.{table_of}
use Rattle.nodes.specs.RowNodes.{node_in, cuts_of, depth_above, depth_below, depth_beside}
use Rattle.walks.specs.Stands.{keeps, Placed}
use Rattle.walks.proofs.Sides.{exponent_of}
use Rattle.walks.proofs.RowFields.{fits, row_packed, row_says, offset_says}

-- the cuts of a node, from the binary ones that are closed
abbrev cuts : Bool → Bool → ℕ
cuts mh mv = bit (not mh) 2 + bit (not mv) 4 + 24

-- what a node keeps, from what says it
keeps_is : (l : Limits) (n : Node) {q x mh mv : Bool} → eqb n.mtt 0 ≡ q → ltb n.mtt (l.maxmtt + n.offset) ≡ x → closed_middle n Horizontal ≡ mh → closed_middle n Vertical ≡ mv
    → open_splits (keeps l n) ≡ bit x (cuts mh mv) + bit q 1
unfolding open_splits
keeps_is l n {q} {x} {mh} {mv} eq ex eh ev = rw (eq, ex, eh, ev) (go q x mh mv)
  where
    go : (q x mh mv : Bool) → bit q 1 + bit (x && not mh) 2 + bit (x && not mv) 4 + bit x 8 + bit x 16 ≡ bit x (cuts mh mv) + bit q 1
    go true true true true = refl
    go true true true false = refl
    go true true false true = refl
    go true true false false = refl
    go true false mh mv = refl
    go false true true true = refl
    go false true true false = refl
    go false true false true = refl
    go false true false false = refl
    go false false mh mv = refl

-- ---- the child of a decision

middle_cuts : (d : Direction) (m : Bool) → cond m (pick d 28 26) 30 ≡ cuts (m && same_direction Horizontal d) (m && same_direction Vertical d)
middle_cuts Horizontal true = refl
middle_cuts Horizontal false = refl
middle_cuts Vertical true = refl
middle_cuts Vertical false = refl

module _ (l : Limits) (n : Node) where
  pub quad_keeps : (i : ℕ) → let c = child l n Quad (share_at Quad i) in open_splits (keeps l c) ≡ bit (ltb c.mtt (l.maxmtt + c.offset)) 30 + 1
  unfolding child child_mtt
  quad_keeps i = keeps_is l (child l n Quad (share_at Quad i)) refl refl refl refl

  pub binary_keeps : (d : Direction) (i : ℕ) → let c = child l n (Binary d) (share_at (Binary d) i) in open_splits (keeps l c) ≡ bit (ltb c.mtt (l.maxmtt + c.offset)) 30 + 0
  unfolding child child_mtt
  binary_keeps d i =
      let c = child l n (Binary d) (share_at (Binary d) i) in
      let e : (e : Direction) → closed_middle c e ≡ false = λ e. and_no (ltb 0 (n.mtt + 1) && eqb (share_at (Binary d) i).part 1) false refl in
      keeps_is l c (ne_eqb (n.mtt + 1) 0 (λ z. omega arith)) refl (e Horizontal) (e Vertical)

  pub ternary_keeps : (d : Direction) (i : ℕ) → (share_at (Ternary d) i).part ≡ i
      → let c = child l n (Ternary d) (share_at (Ternary d) i) in open_splits (keeps l c) ≡ bit (ltb c.mtt (l.maxmtt + c.offset)) (cuts_of d i) + 0
  unfolding child child_mtt
  ternary_keeps d i p =
      let c = child l n (Ternary d) (share_at (Ternary d) i) in
      let m = lt-ltb 0 (n.mtt + 1) (omega arith) in
      let e : (e : Direction) → closed_middle c e ≡ (eqb i 1 && same_direction e d) = λ e. rw (m, p) in
      keeps_is l c (ne_eqb (n.mtt + 1) 0 (λ z. omega arith)) refl (e Horizontal) (e Vertical)
      ∙ ap (λ b. bit (ltb c.mtt (l.maxmtt + c.offset)) b + 0) (sym (middle_cuts d (eqb i 1)))

-- ---- inside the picture: a row below the bound

pub below_bound : {l : Limits} {n : Node} {row : ℕ} → Placed l n → row ≡ row_word (row_of n) → (b : ℕ) → ltb row (min 255 b * 72057594037927936) ≡ ltb n.mtt b
below_bound {l} {n} {row} p is b =
    let f = fits p in
    let x = f.x_fits_lem in
    let y = f.y_fits_lem in
    let q = f.qt_fits_lem in
    let w = (exponent_of f.wide).small in
    let h = (exponent_of f.high).small in
    let least = fold_least (p.good.shape.side Vertical).fold in
    let most = p.sum in
    let e = is ∙ row_packed f in
    go (dec_lt n.mtt b) (omega arith) (omega arith) (omega arith)
  where
    go : Dec (n.mtt < b) → n.mtt * 72057594037927936 ≤ row → row < (n.mtt + 1) * 72057594037927936 → n.mtt < 255 → ltb row (min 255 b * 72057594037927936) ≡ ltb n.mtt b
    go (yes h) low high deep = rw (lt-ltb n.mtt b h) (lt-ltb row _ (omega arith))
    go (no h) low high deep = rw (le-ltb n.mtt b (omega arith)) (le-ltb row _ (omega arith))

-- ---- out of the picture: by depths and offset

module _ (k : Kind) (n : Node) where
  -- above all cuts
  pub above_depths : n.mtt ≡ 0 → n.offset ≡ 0 → depth_above (table_of k) ≡ n.offset * 64 + open_splits (keeps k.limits n)
  unfolding table_of
  above_depths em eo =
      let l = k.limits in
      let m : (d : Direction) → closed_middle n d ≡ false = λ d. rw (le-ltb 0 n.mtt (omega arith)) in
      let e = keeps_is l n (eq-eqb n.mtt 0 em) (ap₂ ltb em (let z : l.maxmtt + n.offset ≡ l.maxmtt = omega arith in z)) (m Horizontal) (m Vertical) in
      omega arith

  module _ {row depths : ℕ} (p : Placed k.limits n) (is : row ≡ row_word (row_of n)) (left : depths ≡ n.offset * 64 + open_splits (keeps k.limits n)) (d : Direction) where
    -- a part of a binary cut that divides what is out
    pub below_depths : out_along d k.limits n ≡ true → (i : ℕ)
        → let c = child k.limits n (Binary d) (share_at (Binary d) i) in depth_below (table_of k) row depths ≡ c.offset * 64 + open_splits (keeps k.limits c)
    unfolding table_of node_in child child_mtt child_offset
    below_depths out i =
        let o = offset_says k.limits n left in
        let u = p.sum in
        let v = p.lifted in
        let r : (n.offset + 1) % 1024 ≡ n.offset + 1 = omega arith in
        rw (o, (row_says p is).at_mtt, binary_keeps k.limits n d i, out, r) (omega arith)

    -- a part of a cut that divides nothing that is out: the offset stays
    kept_offset : n.offset % 1024 ≡ n.offset
    kept_offset = let u = p.sum in let v = p.lifted in omega arith

    pub beside_binary : out_along d k.limits n ≡ false → (i : ℕ)
        → let c = child k.limits n (Binary d) (share_at (Binary d) i) in depth_beside (table_of k) row depths 30 ≡ c.offset * 64 + open_splits (keeps k.limits c)
    unfolding table_of node_in child child_mtt child_offset
    beside_binary within i =
        let z : n.offset + 0 ≡ n.offset = omega arith in
        rw (offset_says k.limits n left, (row_says p is).at_mtt, binary_keeps k.limits n d i, within, kept_offset, z) (omega arith)

    pub beside_ternary : (i : ℕ) → (share_at (Ternary d) i).part ≡ i
        → let c = child k.limits n (Ternary d) (share_at (Ternary d) i) in depth_beside (table_of k) row depths (cuts_of d i) ≡ c.offset * 64 + open_splits (keeps k.limits c)
    unfolding table_of node_in child child_mtt child_offset
    beside_ternary i part = rw (offset_says k.limits n left, (row_says p is).at_mtt, ternary_keeps k.limits n d i part, kept_offset) (omega arith)
