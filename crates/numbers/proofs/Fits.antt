-- The store after a unit passes 26's test again: a block's exponents are 2 to 7, and its QT depth is 5 at most.
use Prim.Native.Nat.{ℕ, zero, suc, ◌+◌, ◌-◌, ◌*◌, ◌/◌, ◌%◌, ◌^◌, ◌≤◌, ◌<◌}
use mathlib.Core.Path.{◌≡◌, refl, sym, ap, subst, ◌∙◌}
use mathlib.Core.Bool.{Bool, true, false, cond}
use mathlib.Core.List.{List, [], ◌∷◌}
use lib.ListN.{get_or, replicate}
use lib.Dec.{ltb, eqb}
use lib.Pow.{pow_mono}
use borrow.Author.Tests.{le-leb, ltb-false}
use native.Mathlib.Omega.{arith}
use native.Mathlib.Decide.{dec_lt}
use native.Mathlib.Nat.{mul-le-mul, mul-le-mul_left, mul-le-mul_right, le_refl, pow-suc}
use native.Mathlib.Numerals.{add-one}
use Rattle.sides.proofs.Bools.{and_left, and_right, and_intro, or_right}
use Rattle.settings.specs.declared.Square.{Square}
use Rattle.tree.specs.declared.Node.{Node}
use Rattle.tree.specs.declared.Share.{Share}
use Rattle.tree.specs.declared.Direction.TheVariants.{Horizontal, Vertical}
use Rattle.tree.specs.declared.Decision.{Decision}
use Rattle.tree.specs.declared.Decision.TheVariants.{Leaf, Quad, Binary, Ternary}
use Rattle.tree.specs.Kind.{Kind}
use Rattle.tree.specs.Splits.{inside, rights_of, allows}
use Rattle.tree.specs.Children.{child_qt, child, children}
use Rattle.tree.specs.Rows.{Row, row_of}
use Rattle.tree.specs.Tree.{Tree, rows_of}
use Rattle.laws.specs.Every.{Every, every_none, every_more}
use Rattle.laws.specs.Multiples.{Multiple}
use Rattle.laws.specs.Proper.{Proper}
use Rattle.laws.specs.Shape.{Shape}
use Rattle.laws.proofs.EveryRow.{every_row_lem}
use Rattle.laws.proofs.Leaves.{side_exponent}
use Rattle.laws.proofs.Multiples.{fold_least, four_quarters}
use Rattle.laws.proofs.Parts.{Piece, slice, no_piece, every_child, child_along, child_under}
use Rattle.laws.proofs.Shape.{side_four, side_power, shape_child}
use Rattle.numbers.specs.Walk.{put_all}
use Rattle.numbers.specs.Standard.{among, holds}
use Rattle.numbers.specs.Map.{changed, Cell, no_cell, cell_of, empty_map, cell_at}
use Rattle.numbers.specs.Store.{stored, exponent_fits, depth_fits, byte_fits, store_fits}
use Rattle.numbers.specs.StoreAfter.{columns_in, lines_in, of_pair, column_byte, line_byte, byte_after, store_after}

-- ---- blocks

-- a block whose numbers the store may hold
record Fit (r : Row) : Type 0 where
  least_w : 2 ≤ r.ew
  most_w : r.ew ≤ 7
  least_h : 2 ≤ r.eh
  most_h : r.eh ≤ 7
  depth : r.qt ≤ 5

-- a node's width times 2 to its QT depth is at most the root's
record Deep (n : Node) : Type 0 where
  shape : Shape n
  most : n.w * 2 ^ n.qt ≤ 128

-- the width of a part, where the QT depth grows and where it stays
kid_deep : (k : Kind) (n : Node) → Multiple 4 n.w → n.w * 2 ^ n.qt ≤ 128 → (d : Decision) (p : Share) → Piece d p → (child k.limits n d p).w * 2 ^ (child k.limits n d p).qt ≤ 128
unfolding child child_qt
kid_deep k n four h Leaf p piece = no_piece piece
kid_deep k n four h Quad p piece =
    let f = piece.falls in
    let e = piece.even refl in
    let t = (slice piece Vertical).long_not in
    let two : p.wide ≤ 2 = omega arith in
    let m = mul-le-mul (mul-le-mul_left (n.w / 4) two) (le_refl (2 ^ (n.qt + 1))) in
    let s : 2 ^ (n.qt + 1) ≡ 2 * 2 ^ n.qt = ap (λ i. 2 ^ i) (add-one n.qt) ∙ pow-suc 2 n.qt ∙ omega arith in
    let g : n.w / 4 * 4 * 2 ^ n.qt ≤ 128 = subst (λ x. x * 2 ^ n.qt ≤ 128) (sym (four_quarters four)) h in
    let z : n.w / 4 * 2 * 2 ^ (n.qt + 1) ≡ n.w / 4 * 4 * 2 ^ n.qt = rw s (omega arith) in
    omega arith
kid_deep k n four h (Binary d) p piece =
    let u = child_under k.limits n piece Vertical four in let m = mul-le-mul_right (2 ^ n.qt) (rw (child_along k.limits n (Binary d) p Vertical) at u) in omega arith
kid_deep k n four h (Ternary d) p piece =
    let u = child_under k.limits n piece Vertical four in let m = mul-le-mul_right (2 ^ n.qt) (rw (child_along k.limits n (Ternary d) p Vertical) at u) in omega arith

depth_most : (w qt : ℕ) → 4 ≤ w → w * 2 ^ qt ≤ 128 → qt ≤ 5
depth_most w qt least h = go (dec_lt 5 qt)
  where
    go : Dec (5 < qt) → qt ≤ 5
    go (yes k) = let p = pow_mono k in let m = mul-le-mul least p in absurd (omega arith)
    go (no k) = omega arith

module _ {k : Kind} (v : Proper k) where
  deep_kids : (n : Node) → Deep n → (d : Decision) → allows (rights_of k n) d ≡ true → Every Deep (children k.limits n d)
  deep_kids n s d ok = every_child k n d (λ p piece. record {
    shape = shape_child v s.shape d ok p piece;
    most = kid_deep k n (side_four (s.shape.side Vertical)) s.most d p piece;
  })

  deep_leaf : (n : Node) → Deep n → inside k.limits n ≡ true → Fit (row_of n)
  unfolding row_of
  deep_leaf n s h =
      let w = s.shape.side Vertical in
      let v = s.shape.side Horizontal in
      let ew = side_exponent w in
      let eh = side_exponent v in
      let pw = side_power w in
      let pv = side_power v in
      record { least_w = omega arith; most_w = omega arith; least_h = omega arith; most_h = omega arith; depth = depth_most n.w n.qt (fold_least w.fold) s.most }

  rows_fit : {n : Node} → Shape n → n.qt ≡ 0 → (t : Tree k n) → Every Fit (rows_of t)
  rows_fit {n} sh z t = every_row_lem k deep_kids deep_leaf t (every_more (record { shape = sh; most = let m = (sh.side Vertical).most in rw z (omega arith) }) every_none)

-- ---- the map

record CellFit (c : Cell) : Type 0 where
  wide : exponent_fits c.ew ≡ true
  high : exponent_fits c.eh ≡ true
  depth : depth_fits c.qt ≡ true

none_fit : CellFit no_cell
none_fit = record { wide = refl; high = refl; depth = refl }

exponent_fit : (e : ℕ) → 2 ≤ e → e ≤ 7 → exponent_fits e ≡ true
exponent_fit e low high = or_right (eqb e 0) _ (and_intro _ _ (le-leb _ e (omega arith)) (le-leb e _ (omega arith)))

row_fit : (r : Row) → Fit r → CellFit (cell_of r)
row_fit r f = record {
  wide = exponent_fit r.ew f.least_w f.most_w;
  high = exponent_fit r.eh f.least_h f.most_h;
  depth = let d = f.depth in le-leb r.qt _ (omega arith);
}

cond_fit : (b : Bool) {x y : Cell} → CellFit x → CellFit y → CellFit (cond b x y)
cond_fit true p q = p
cond_fit false p q = q

changed_every : {f : ℕ → Cell → Cell} → ((i : ℕ) (c : Cell) → CellFit c → CellFit (f i c)) → (at : ℕ) {map : List Cell} → Every CellFit map → Every CellFit (changed f at map)
unfolding changed
changed_every h at every_none = every_none
changed_every h at (every_more {a = c} p ps) = every_more (h at c p) (changed_every h (at + 1) ps)

replicate_fit : (n : ℕ) → Every CellFit (replicate n no_cell)
replicate_fit zero = every_none
replicate_fit (suc n) = every_more none_fit (replicate_fit n)

empty_fit : Every CellFit empty_map
unfolding empty_map
empty_fit = replicate_fit 1024

map_fit : (width : ℕ) (q : Square) (store : List ℕ) {rows : List Row} → Every Fit rows → {map : List Cell} → Every CellFit map → Every CellFit (put_all (stored width q store) rows map)
unfolding put_all
map_fit width q store every_none m = m
map_fit width q store (every_more {a = r} f fs) m = map_fit width q store fs (changed_every (λ i c h. cond_fit (holds r (q.x + 4 * (i % 32)) (q.y + 4 * (i / 32))) (row_fit r f) h) 0 m)

cell_fit : {map : List Cell} → Every CellFit map → (i : ℕ) → CellFit (get_or map i no_cell)
cell_fit every_none i = none_fit
cell_fit (every_more p ps) zero = p
cell_fit (every_more p ps) (suc i) = cell_fit ps i

-- ---- the store

-- two places of the same kind
pair_fit : (i j e d : ℕ) → i % 2 ≡ j % 2 → exponent_fits e ≡ true → depth_fits d ≡ true → byte_fits i (of_pair j e d) ≡ true
pair_fit i j e d s x y = rw s (go (eqb (j % 2) 0))
  where
    go : (b : Bool) → cond b (exponent_fits (cond b e d)) (depth_fits (cond b e d)) ≡ true
    go true = x
    go false = y

either_fit : (i : ℕ) (b : Bool) (x y : ℕ) → byte_fits i x ≡ true → byte_fits i y ≡ true → byte_fits i (cond b x y) ≡ true
either_fit i true x y p q = p
either_fit i false x y p q = q

module _ (width height : ℕ) (wide : Multiple 4 width) (q : Square) {map : List Cell} (m : Every CellFit map) where
  byte_fit : (i old : ℕ) → byte_fits i old ≡ true → byte_fits i (byte_after width height q map i old) ≡ true
  byte_fit i old h = go (ltb i (width / 2)) refl
    where
      go : (b : Bool) → ltb i (width / 2) ≡ b → byte_fits i (cond b (column_byte width height q map i old) (line_byte width height q map (i - width / 2) old)) ≡ true
      go true e =
          let lowest = cell_at map (i / 2 - q.x / 4) (lines_in height q - 1) in
          let c = cell_fit m (32 * (lines_in height q - 1) + (i / 2 - q.x / 4)) in
          either_fit i (among (q.x / 4) (columns_in width q) (i / 2)) (of_pair i lowest.ew lowest.qt) old (pair_fit i i lowest.ew lowest.qt refl c.wide c.depth) h
      go false e =
          let w = wide.is in
          let l = ltb-false i (width / 2) e in
          let o = i - width / 2 in
          let r = cell_at map (columns_in width q - 1) (o / 2) in
          let c = cell_fit m (32 * (o / 2) + (columns_in width q - 1)) in
          either_fit i (ltb (o / 2) (lines_in height q)) (of_pair o r.eh r.qt) old (pair_fit i o r.eh r.qt (omega arith) c.high c.depth) h

  after_fits : (store : List ℕ) → store_fits 0 store ≡ true → store_fits 0 (store_after width height q map store) ≡ true
  unfolding store_after changed store_fits
  after_fits store h = go 0 store h
    where
      go : (at : ℕ) (store : List ℕ) → store_fits at store ≡ true → store_fits at (changed (byte_after width height q map) at store) ≡ true
      go at [] h = refl
      go at (b ∷ rest) h = and_intro _ _ (byte_fit at b (and_left _ _ h)) (go (at + 1) rest (and_right (byte_fits at b) _ h))

pub zeros_fit : (n at : ℕ) → store_fits at (replicate n 0) ≡ true
unfolding store_fits
zeros_fit zero at = refl
zeros_fit (suc n) at = and_intro _ _ (either (eqb (at % 2) 0)) (zeros_fit n (at + 1))
  where
    either : (b : Bool) → cond b true true ≡ true
    either true = refl
    either false = refl

-- a unit's tree
pub unit_fits : {k : Kind} → Proper k → {n : Node} → Shape n → n.qt ≡ 0 → (t : Tree k n) (width height : ℕ) → Multiple 4 width → (q : Square) (store : List ℕ)
    → store_fits 0 store ≡ true → store_fits 0 (store_after width height q (put_all (stored width q store) (rows_of t) empty_map) store) ≡ true
unit_fits v sh z t width height wide q store h = after_fits width height wide q (map_fit width q store (rows_fit v sh z t) empty_fit) store h
