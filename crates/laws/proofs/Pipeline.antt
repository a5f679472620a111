-- Every row of a unit lies inside one pipeline unit or consists of whole ones: no open split of a node above 64 cuts through one.
use Prim.Native.Nat.{ℕ, ◌*◌, ◌≤◌, ◌<◌, max}
use mathlib.Core.Path.{◌≡◌, refl}
use mathlib.Core.Logic.{◌⊎◌, inl, inr}
use mathlib.Core.Bool.{true, false}
use borrow.Author.Tests.{ltb-false, le-leb}
use native.Mathlib.Omega.{arith}
use native.Mathlib.Decide.{dec_lt}
use Rattle.tree.specs.declared.Node.{Node}
use Rattle.tree.specs.declared.Direction.{Direction}
use Rattle.tree.specs.declared.Direction.TheVariants.{Horizontal, Vertical}
use Rattle.tree.specs.declared.Decision.{Decision}
use Rattle.tree.specs.declared.Decision.TheVariants.{Leaf, Quad, Binary, Ternary}
use Rattle.tree.specs.Kind.{Kind}
use Rattle.tree.specs.Splits.{along, across, closed_narrow, rights_of, allows}
use Rattle.tree.specs.Children.{children}
use Rattle.tree.specs.Rows.{row_of}
use Rattle.tree.specs.Tree.{Tree, rows_of}
use Rattle.laws.specs.Geometry.{InOneCell, OfWholeCells, InPipeline, pipeline_side}
use Rattle.laws.specs.Every.{Every, every_none, every_more}
use Rattle.laws.specs.Proper.{Proper}
use Rattle.laws.specs.Directions.{corner}
use Rattle.laws.specs.Good.{Grid}
use Rattle.laws.specs.Multiples.{Multiple, Fold}
use Rattle.laws.specs.Shape.{Shape}
use Rattle.laws.proofs.EveryRow.{every_row_lem}
use Rattle.laws.proofs.Every.{every_map}
use Rattle.laws.proofs.Directions.{both_sides}
use Rattle.laws.proofs.Multiples.{fold_multiple, fold_least, trans_multiple}
use Rattle.laws.proofs.Opens.{quad_open_lem, binary_open_lem, ternary_open_lem}
use Rattle.laws.proofs.Parts.{least, every_child}
use Rattle.laws.proofs.Shape.{square_room, cut_room, shape_child}
use Rattle.laws.proofs.Grids.{grid_child}
use Rattle.laws.proofs.WholeCells.{grid_leaf}
use Rattle.laws.proofs.Cells.{InOne, larger_fold, small_in_one, one_kids, one_leaf, in_one_cell}

fold_64 : Fold 4 64
fold_64 = record { power = 4; is = refl }

-- ---- R-4's side: for each CTU side, computed; and in general: up to 64 the unit's own, from 64 on 64

pub pipeline_sides : (pipeline_side 32 ≡ 32) × (pipeline_side 64 ≡ 64) × (pipeline_side 128 ≡ 64)
pipeline_sides = (refl, refl, refl)

pub side_to_64 : (side : ℕ) → side ≤ 64 → pipeline_side side ≡ side
side_to_64 side h = omega arith

pub side_from_64 : (side : ℕ) → 64 ≤ side → pipeline_side side ≡ 64
side_from_64 side h = omega arith

-- ---- a node of whole cells

pub record Whole (n : Node) : Type 0 where
  pub shape : Shape n
  pub grid : Grid 64 n

module _ (n : Node) (w : Whole n) where
  -- no longer than one cell: inside it
  whole_one : n.w ≤ 64 → n.h ≤ 64 → InOne 64 n
  whole_one a b = record { shape = w.shape; cell = λ e. let s = both_sides n a b e in let l = fold_least (w.grid.side e) in let m = (w.grid.at e).is in omega arith }

  -- longer: an open split leaves whole cells
  module _ (long : 64 < max n.w n.h) where
    cut_long : (d : Direction) → closed_narrow n d ≡ false → 64 < along d n
    cut_long d h = go (dec_lt 64 (along d n))
      where
        either : (d : Direction) → 64 < max (along d n) (across d n)
        either Horizontal = omega arith
        either Vertical = omega arith

        go : Dec (64 < along d n) → 64 < along d n
        go (yes i) = i
        go (no i) =
            let b = ltb-false 64 (across d n) (rw (le-leb (along d n) 64 (omega arith)) at h) in
            let m = either d in
            absurd (omega arith)

    whole_room : (k : Kind) (d : Decision) → allows (rights_of k n) d ≡ true → (e : Direction) → 64 * 2 < along e n * least d e
    whole_room k Leaf ok e = let h = fold_least (w.grid.side e) in omega arith
    whole_room k Quad ok e = let s = w.shape.square (quad_open_lem k n ok).top in square_room 64 n s (omega arith) e
    whole_room k (Binary d) ok e = let h = cut_long d (binary_open_lem k n d ok).narrow in cut_room 64 n (omega arith) (λ e. fold_least (w.grid.side e)) 2 d (omega arith) e
    whole_room k (Ternary d) ok e = let a = (ternary_open_lem k n d ok).tt in let b = a Vertical in let c = a Horizontal in absurd (omega arith)

  pub whole_leaf : OfWholeCells 64 (row_of n)
  whole_leaf = grid_leaf 64 w.shape w.grid

-- a square above one cell, at a multiple of its side
pub square_whole : {n : Node} → Shape n → n.w ≡ n.h → ((e : Direction) → Multiple (along e n) (corner e n)) → 64 < n.w → Whole n
square_whole {n} sh square at h = record { shape = sh; grid = record { side = side; at = λ e. trans_multiple (fold_multiple (side e)) (at e) } }
  where
    long : (e : Direction) → 64 ≤ along e n
    long Horizontal = omega arith
    long Vertical = omega arith

    side : (e : Direction) → Fold 64 (along e n)
    side e = larger_fold fold_64 (sh.side e).fold (long e)

-- ---- a node inside one cell, or of whole cells

abbrev Placed : Node → Type 0
Placed n = InOne 64 n ⊎ Whole n

module _ {k : Kind} (v : Proper k) where
  pub whole_kids : (n : Node) → Whole n → 64 < max n.w n.h → (d : Decision) → allows (rights_of k n) d ≡ true → Every Whole (children k.limits n d)
  whole_kids n w long d ok = let room = whole_room n w long k d ok in every_child k n d (λ p piece. record {
    shape = shape_child v w.shape d ok p piece;
    grid = grid_child k.limits (fold_multiple fold_64) w.grid piece room;
  })

  placed_kids : (n : Node) → Placed n → (d : Decision) → allows (rights_of k n) d ≡ true → Every Placed (children k.limits n d)
  placed_kids n (inl i) d ok = every_map (λ c. inl) (one_kids v 64 (omega arith) n i d ok)
  placed_kids n (inr w) d ok = go (dec_lt 64 (max n.w n.h))
    where
      go : Dec (64 < max n.w n.h) → Every Placed (children k.limits n d)
      go (yes long) = every_map (λ c. inr) (whole_kids n w long d ok)
      go (no long) = every_map (λ c. inl) (one_kids v 64 (omega arith) n (whole_one n w (omega arith) (omega arith)) d ok)

  placed_leaf : (n : Node) → Placed n → InPipeline 64 (row_of n)
  placed_leaf n (inl i) = inl (one_leaf v 64 (omega arith) n i)
  placed_leaf n (inr w) = inr (whole_leaf n w)

  -- ---- the tree of a square at a multiple of its side, as a unit is

  module _ {n : Node} (sh : Shape n) (square : n.w ≡ n.h) (at : (e : Direction) → Multiple (along e n) (corner e n)) (t : Tree k n) where
    root_placed : Dec (64 < n.w) → Placed n
    root_placed (no h) = inl (small_in_one fold_64 sh at (both_sides n (omega arith) (omega arith)))
    root_placed (yes h) = inr (square_whole sh square at h)

    -- inside one cell, of any power of two from the square's side on
    pub in_one : (c : ℕ) → Fold 4 c → n.w ≤ c → Every (InOneCell c) (rows_of t)
    in_one c f le = let l = fold_least f in in_one_cell v c (omega arith) (small_in_one f sh at (both_sides n le (omega arith))) t

    -- in cells of 64
    in_64 : Every (InPipeline 64) (rows_of t)
    in_64 = every_row_lem k placed_kids (λ n p h. placed_leaf n p) t (every_more (root_placed (dec_lt 64 n.w)) every_none)

    -- so in pipeline units, of R-4's side
    pub in_pipeline : Every (InPipeline (pipeline_side n.w)) (rows_of t)
    in_pipeline = go (dec_lt 64 n.w)
      where
        go : Dec (64 < n.w) → Every (InPipeline (pipeline_side n.w)) (rows_of t)
        go (yes h) = rw (side_from_64 n.w (omega arith)) in_64
        go (no h) = rw (side_to_64 n.w (omega arith)) (every_map (λ r. inl) (in_one n.w (sh.side Vertical).fold (omega arith)))
