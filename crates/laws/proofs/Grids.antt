-- Grids: nodes of which the sides are folds of m, at multiples of m. The grain of a picture and MinQt make such grids.
use Prim.Native.Nat.{ℕ, ◌*◌, ◌^◌, ◌≤◌, ◌<◌}
use mathlib.Core.Path.{◌≡◌, refl}
use native.Mathlib.Omega.{arith}
use native.Mathlib.Decide.{dec_lt}
use Rattle.sides.specs.Side.{exponent}
use Rattle.tree.specs.declared.Limits.{Limits}
use Rattle.tree.specs.declared.Node.{Node}
use Rattle.tree.specs.declared.Share.{Share}
use Rattle.tree.specs.declared.Direction.{Direction}
use Rattle.tree.specs.declared.Direction.TheVariants.{Horizontal, Vertical}
use Rattle.tree.specs.declared.Decision.{Decision}
use Rattle.tree.specs.Kind.{Kind}
use Rattle.tree.specs.Splits.{along}
use Rattle.tree.specs.Children.{child}
use Rattle.laws.specs.Proper.{grain, Proper, RootSquare}
use Rattle.laws.specs.Directions.{corner, extent}
use Rattle.laws.specs.Good.{Grid}
use Rattle.laws.specs.Multiples.{Multiple}
use Rattle.laws.specs.Shape.{Shape}
use Rattle.laws.proofs.Directions.{square_side}
use Rattle.laws.proofs.Multiples.{fold_multiple, mod_multiple, trans_multiple, power_fold}
use Rattle.laws.proofs.Parts.{least, Piece, child_fold, child_start}
use Rattle.laws.proofs.Shape.{side_of}

-- a part that is longer than half of m keeps the grid
pub grid_child : (l : Limits) {n : Node} {m : ℕ} → Multiple 4 m → Grid m n → {d : Decision} {p : Share} → Piece d p → ((e : Direction) → m * 2 < along e n * least d e) → Grid m (child l n d p)
grid_child l {n} f g piece h = record {
  side = λ e. child_fold l n piece e f (g.side e) (h e);
  at = λ e. child_start l n piece e f (g.side e) (h e) (g.at e);
}

-- ---- MinQt, and the grain of the picture

module _ {k : Kind} (v : Proper k) where
  pub four_qt : Multiple 4 k.limits.minqt
  four_qt = fold_multiple (power_fold 2 (exponent k.limits.minqt) refl v.qt_power (omega arith))

  pub grain_power : (i : ℕ) × (grain k.limits ≡ 2 ^ i)
  grain_power = go (dec_lt k.limits.mincb 8)
    where
      go : Dec (k.limits.mincb < 8) → (i : ℕ) × (grain k.limits ≡ 2 ^ i)
      go (yes h) = (3, omega arith)
      go (no h) = (exponent k.limits.mincb, let e = v.cb_power in omega arith)

  pub four_grain : Multiple 4 (grain k.limits)
  four_grain = let g = grain_power in fold_multiple (power_fold 2 g.0 refl g.1 (omega arith))

  pub picture : (e : Direction) → Multiple (grain k.limits) (extent e k.limits)
  picture Horizontal = mod_multiple _ _ v.height
  picture Vertical = mod_multiple _ _ v.width

  pub flat_picture : k.limits.maxmtt ≡ 0 → (e : Direction) → Multiple k.limits.minqt (extent e k.limits)
  flat_picture z Horizontal = mod_multiple _ _ (v.flat z).1
  flat_picture z Vertical = mod_multiple _ _ (v.flat z).0

-- ---- roots

module _ {l : Limits} {n : Node} (r : RootSquare l n) where
  at_side : (e : Direction) → Multiple n.w (corner e n)
  at_side Horizontal = mod_multiple _ _ r.top
  at_side Vertical = mod_multiple _ _ r.left

  pub root_at_lem : (e : Direction) → Multiple (along e n) (corner e n)
  root_at_lem e = rw (square_side n r.square e) (at_side e)

  pub root_shape : Shape n
  root_shape = record { side = λ e. rw (square_side n r.square e) (side_of (record { is = r.power; least = omega arith; most = r.most })); square = λ _. r.square }

  -- on the grid of any power of two up to its side
  pub root_grid : {m : ℕ} (i : ℕ) → m ≡ 2 ^ i → m ≤ n.w → Grid m n
  root_grid i e h =
      let f = power_fold i (exponent n.w) e r.power h in
      record { side = λ e. rw (square_side n r.square e) f; at = λ e. trans_multiple (fold_multiple f) (at_side e) }
