-- The sides of the nodes of a coding tree are powers of two from 4 to 128, and a node above all cuts is square.
use Prim.Native.Nat.{ℕ, ◌*◌, ◌/◌, ◌≤◌, ◌<◌}
use mathlib.Core.Path.{◌≡◌, refl, ap₂}
use mathlib.Core.Bool.{true}
use native.Mathlib.Omega.{arith}
use native.Mathlib.Decide.{dec_lt}
use lib.Pow.{pow_mono}
use Rattle.sides.specs.Side.{Side as PowerSide}
use Rattle.sides.specs.Side.{exponent}
use Rattle.tree.specs.declared.Node.{Node}
use Rattle.tree.specs.declared.Share.{Share}
use Rattle.tree.specs.declared.Direction.{Direction}
use Rattle.tree.specs.declared.Direction.TheVariants.{Horizontal, Vertical}
use Rattle.tree.specs.declared.Decision.{Decision}
use Rattle.tree.specs.declared.Decision.TheVariants.{Leaf, Quad, Binary, Ternary}
use Rattle.tree.specs.Kind.{Kind}
use Rattle.tree.specs.Splits.{along, rights_of, allows}
use Rattle.tree.specs.Children.{child, child_mtt, children}
use Rattle.laws.specs.Every.{Every}
use Rattle.laws.specs.Proper.{Proper}
use Rattle.laws.specs.Multiples.{Multiple}
use Rattle.laws.specs.Shape.{Side, Shape}
use Rattle.laws.proofs.Directions.{square_side}
use Rattle.laws.proofs.Multiples.{fold_least, fold_multiple, same_multiple, power_fold}
use Rattle.laws.proofs.Opens.{quad_open_lem, binary_open_lem, ternary_open_lem}
use Rattle.laws.proofs.Parts.{least, cut_least, Piece, every_child, child_fold, child_under}

-- a power of two from 4 to 128 is one
pub side_of : {n : ℕ} → PowerSide 4 128 n → Side n
side_of {n} s = record { fold = power_fold 2 (exponent n) refl s.is s.least; most = s.most }

pub side_four : {n : ℕ} → Side n → Multiple 4 n
side_four s = fold_multiple s.fold

pub side_power : {n : ℕ} (s : Side n) → s.fold.power ≤ 5
side_power s = go (dec_lt 5 s.fold.power)
  where
    go : Dec (5 < s.fold.power) → s.fold.power ≤ 5
    go (yes k) = let h = pow_mono k in let e = s.fold.is in let b = s.most in absurd (omega arith)
    go (no k) = omega arith

-- ---- parts that are longer than half of m

module _ (m : ℕ) (n : Node) where
  -- halves of a square
  pub square_room : n.w ≡ n.h → m < n.w → (e : Direction) → m * 2 < along e n * 2
  square_room s h e = let a = square_side n s e in omega arith

  -- so many quarters along a cut, and all across it
  pub cut_room : 0 < m → ((e : Direction) → m ≤ along e n) → (q : ℕ) (d : Direction) → m * 2 < along d n * q → (e : Direction) → m * 2 < along e n * cut_least q d e
  cut_room pos large q Horizontal h Horizontal = h
  cut_room pos large q Horizontal h Vertical = let a = large Vertical in omega arith
  cut_room pos large q Vertical h Horizontal = let a = large Horizontal in omega arith
  cut_room pos large q Vertical h Vertical = h

-- ---- the children of an allowed decision

-- a child above all cuts has a parent above all cuts, divided alike in both dimensions
uncut : (k : Kind) (n : Node) (d : Decision) → allows (rights_of k n) d ≡ true → child_mtt d n ≡ 0 → (n.mtt ≡ 0) × (least d Horizontal ≡ least d Vertical)
unfolding child_mtt
uncut k n Leaf ok e = (e, refl)
uncut k n Quad ok e = ((quad_open_lem k n ok).top, refl)
uncut k n (Binary d) ok e = absurd (omega arith)
uncut k n (Ternary d) ok e = absurd (omega arith)

module _ {k : Kind} (v : Proper k) {n : Node} (sh : Shape n) where
  large : (e : Direction) → 4 ≤ along e n
  large e = fold_least (sh.side e).fold

  -- the parts of an open split are longer than 2 samples, so 4 at least
  pub room : (d : Decision) → allows (rights_of k n) d ≡ true → (e : Direction) → 4 * 2 < along e n * least d e
  room Leaf ok e = let a = large e in omega arith
  room Quad ok e = let o = quad_open_lem k n ok in square_room 4 n (sh.square o.top) (omega arith) e
  room (Binary d) ok e = let o = (binary_open_lem k n d ok).cut in cut_room 4 n (omega arith) large 2 d (omega arith) e
  room (Ternary d) ok e = let o = (ternary_open_lem k n d ok).cut in cut_room 4 n (omega arith) large 1 d (omega arith) e

  module _ (d : Decision) (ok : allows (rights_of k n) d ≡ true) where
    pub shape_child : (p : Share) → Piece d p → Shape (child k.limits n d p)
    unfolding child
    shape_child p piece = record {
      side = λ e. record {
        fold = child_fold k.limits n piece e (same_multiple 4) (sh.side e).fold (room d ok e);
        most = let a = child_under k.limits n piece e (side_four (sh.side e)) in let b = (sh.side e).most in omega arith;
      };
      square = λ top. let u = uncut k n d ok top in ap₂ (λ s q. s / 4 * q) (sh.square u.0) (piece.even u.1);
    }

    pub shape_kids : Every Shape (children k.limits n d)
    shape_kids = every_child k n d shape_child
