-- Nodes and rows of a unit stand on cells of 4 by 4 samples, within the unit's square.
use Prim.Native.Nat.{ℕ, ◌+◌, ◌/◌, ◌%◌, ◌^◌, ◌≤◌, ◌<◌}
use mathlib.Core.Path.{◌≡◌}
use mathlib.Core.Bool.{true}
use borrow.Author.Tests.{lt-ltb, le-ltb, le-leb, lt-leb}
use native.Mathlib.Omega.{arith}
use native.Mathlib.Decide.{dec_lt}
use Rattle.settings.specs.declared.Square.{Square}
use Rattle.tree.specs.declared.Node.{Node}
use Rattle.tree.specs.declared.Direction.{Direction}
use Rattle.tree.specs.declared.Direction.TheVariants.{Horizontal, Vertical}
use Rattle.tree.specs.declared.Decision.{Decision}
use Rattle.tree.specs.Kind.{Kind}
use Rattle.tree.specs.Splits.{along, inside, rights_of, allows}
use Rattle.tree.specs.Children.{children}
use Rattle.tree.specs.Rows.{Row, row_of}
use Rattle.laws.specs.Directions.{corner}
use Rattle.laws.specs.Every.{Every}
use Rattle.laws.specs.Geometry.{OfWholeCells}
use Rattle.laws.specs.Good.{Grid}
use Rattle.laws.specs.Multiples.{Multiple}
use Rattle.laws.specs.Proper.{Proper}
use Rattle.laws.specs.Shape.{Shape}
use Rattle.laws.proofs.Grids.{grid_child}
use Rattle.laws.proofs.Leaves.{row_exponent, leaf_start, leaf_end, side_exponent}
use Rattle.laws.proofs.Multiples.{fold_least, same_multiple}
use Rattle.laws.proofs.Order.{Inner, Within}
use Rattle.laws.proofs.Parts.{every_child, child_corner, child_end}
use Rattle.laws.proofs.Rectangles.{Between}
use Rattle.laws.proofs.Shape.{side_four, room, shape_child}
use Rattle.laws.proofs.WholeCells.{grid_leaf}
use Rattle.unit.specs.Units.{root_of}
use Rattle.numbers.specs.Standard.{among, holds}
use Rattle.numbers.proofs.Counts.{holds_between}

-- ---- a unit's square

-- a square on cells, of 32 by 32 of them at most
pub record OnCells (q : Square) : Type 0 where
  pub x : Multiple 4 q.x
  pub y : Multiple 4 q.y
  pub side : Multiple 4 q.side
  pub most : q.side ≤ 128

-- a sample of a square
pub record In (q : Square) (px py : ℕ) : Type 0 where
  pub across : Between q.x q.side px
  pub down : Between q.y q.side py

-- ---- nodes and rows

pub record Spot (q : Square) (n : Node) : Type 0 where
  pub shape : Shape n
  pub grid : Grid 4 n
  pub inner : Inner (root_of q) n

pub record Stone (q : Square) (r : Row) : Type 0 where
  pub whole : OfWholeCells 4 r
  pub within : Within (root_of q) r
  pub some : (e : Direction) → 0 < row_exponent e r

-- a node's corner is a sample of the square
pub spot_corner : {q : Square} {n : Node} → Spot q n → In q n.x n.y
spot_corner {q} {n} s = record { across = at Vertical; down = at Horizontal }
  where
    at : (e : Direction) → Between (corner e (root_of q)) (along e (root_of q)) (corner e n)
    at e = let a = s.inner.starts e in let b = s.inner.ends e in let c = fold_least (s.shape.side e).fold in record { low = a; high = omega arith }

module _ {k : Kind} (v : Proper k) (q : Square) where
  pub spot_kids : (n : Node) → Spot q n → (d : Decision) → allows (rights_of k n) d ≡ true → Every (Spot q) (children k.limits n d)
  spot_kids n s d ok = every_child k n d (λ p piece. record {
    shape = shape_child v s.shape d ok p piece;
    grid = grid_child k.limits (same_multiple 4) s.grid piece (room v s.shape d ok);
    inner = record {
      starts = λ e. let a = child_corner k.limits n d p e in let b = s.inner.starts e in omega arith;
      ends = λ e. let a = child_end k.limits n piece e (side_four (s.shape.side e)) in let b = s.inner.ends e in omega arith;
    };
  })

  pub spot_leaf : (n : Node) → Spot q n → inside k.limits n ≡ true → Stone q (row_of n)
  unfolding row_of
  spot_leaf n s h = record {
    whole = grid_leaf 4 s.shape s.grid;
    within = record { starts = λ e. rw (leaf_start n e) (s.inner.starts e); ends = λ e. rw (leaf_end n s.shape e) (s.inner.ends e) };
    some = some;
  }
    where
      some : (e : Direction) → 0 < row_exponent e (row_of n)
      some Horizontal = let a = side_exponent (s.shape.side Horizontal) in omega arith
      some Vertical = let a = side_exponent (s.shape.side Vertical) in omega arith

-- ---- rows and cells

-- a length on cells holds all samples of a cell or none
among_cell : (a l : ℕ) → a % 4 ≡ 0 → l % 4 ≡ 0 → (p o : ℕ) → p / 4 ≡ o / 4 → among a l p ≡ among a l o
among_cell a l m n p o e = go (dec_lt p a) (dec_lt p (a + l))
  where
    go : Dec (p < a) → Dec (p < a + l) → among a l p ≡ among a l o
    go (yes h) _ = rw (lt-leb a p h, lt-leb a o (omega arith))
    go (no h) (yes j) = rw (le-leb a p (omega arith), le-leb a o (omega arith), lt-ltb p (a + l) j, lt-ltb o (a + l) (omega arith))
    go (no h) (no j) = rw (le-leb a p (omega arith), le-leb a o (omega arith), le-ltb p (a + l) (omega arith), le-ltb o (a + l) (omega arith))

module _ {q : Square} {r : Row} (s : Stone q r) where
  -- so does a row
  pub holds_cell : (px py ox oy : ℕ) → px / 4 ≡ ox / 4 → py / 4 ≡ oy / 4 → holds r px py ≡ holds r ox oy
  holds_cell px py ox oy x y = rw (among_cell r.x (2 ^ r.ew) s.whole.left s.whole.wide px ox x, among_cell r.y (2 ^ r.eh) s.whole.top s.whole.high py oy y)

  -- and it holds only samples of the square
  pub holds_in : (px py : ℕ) → holds r px py ≡ true → In q px py
  holds_in px py h =
      let b = holds_between r px py h in
      let x = b.0 in
      let y = b.1 in
      let sx = s.within.starts Vertical in
      let ex = s.within.ends Vertical in
      let sy = s.within.starts Horizontal in
      let ey = s.within.ends Horizontal in
      record { across = record { low = omega arith; high = omega arith }; down = record { low = omega arith; high = omega arith } }
