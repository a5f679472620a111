-- The root of a unit that is there: what the laws of coding trees ask of it.
use Prim.Native.Nat.{ℕ, ◌+◌, ◌^◌, ◌≤◌, ◌<◌}
use mathlib.Core.Path.{◌≡◌, refl}
use mathlib.Core.Bool.{true}
use native.Mathlib.Omega.{arith}
use native.Mathlib.Nat.{mul-mod_left}
use borrow.Author.Tests.{lt-ltb}
use Rattle.sides.proofs.Bools.{and_intro}
use Rattle.settings.specs.Units.{count_in, square_in}
use Rattle.settings.proofs.Grid.{corner_x, corner_y}
use Rattle.tree.specs.declared.Direction.{Direction}
use Rattle.tree.specs.declared.Direction.TheVariants.{Horizontal, Vertical}
use Rattle.tree.specs.declared.Limits.{Limits}
use Rattle.tree.specs.declared.Node.{Node}
use Rattle.tree.specs.Children.{corner_inside}
use Rattle.tree.specs.Kind.{Kind, luma}
use Rattle.laws.specs.Directions.{extent}
use Rattle.laws.specs.Good.{Good}
use Rattle.laws.specs.Proper.{Proper, RootSquare}
use Rattle.laws.proofs.Edge.{good_root}
use Rattle.unit.specs.Units.{root_of}
use Rattle.unit.specs.Usable.{Usable}

-- a root in the picture, with what the laws ask
pub record Root (k : Kind) (root : Node) : Type 0 where
  pub valid : Proper k
  pub square : RootSquare k.limits root
  pub good : Good k.limits root
  pub here : corner_inside k.limits root ≡ true
  pub fits : root.w + root.h + root.qt + root.mtt ≤ 256
  pub wide : k.limits.width ≤ 16384
  pub high : k.limits.height ≤ 16384

pub picture_most : {k : Kind} {root : Node} → Root k root → (e : Direction) → extent e k.limits ≤ 2 ^ 16
picture_most r Horizontal = let h = r.high in omega arith
picture_most r Vertical = let w = r.wide in omega arith

-- ---- the luma tree of limits that the laws can use, in units of a side

module _ {side : ℕ} {l : Limits} (p : Usable side l) where
  usable_proper : Proper (luma l)
  usable_proper = record {
    cb_power = p.cb.is;
    least_cb = p.cb.least;
    qt_power = p.qt.is;
    le_qt = p.qt.least;
    qt64 = let q = p.qt.most in omega arith;
    qt_bt = p.bt;
    width = p.width;
    height = p.height;
    flat = p.edge;
    quad = λ n w h. refl;
    cut = λ n d w h a. refl;
  }

  -- a unit of the picture: a square of the side, at multiples of it
  module _ (a : ℕ) where
    abbrev root : Node
    root = root_of (square_in side l.width a)

    root_square : RootSquare l root
    unfolding square_in
    root_square =
        let u = p.grid.least in
        let q = p.qt.most in
        record {
          power = p.grid.power;
          square = refl;
          least = omega arith;
          most = p.grid.most;
          left = mul-mod_left _ side;
          top = mul-mod_left _ side;
          uncut = refl;
          unlifted = refl;
        }

    root_here : a < count_in side l.width l.height → corner_inside l root ≡ true
    unfolding corner_inside
    root_here h = and_intro _ _ (lt-ltb _ _ (corner_x p.grid a h)) (lt-ltb _ _ (corner_y p.grid a h))

    pub usable_root : a < count_in side l.width l.height → Root (luma l) (root_of (square_in side l.width a))
    usable_root h =
        let r = root_square in
        let m = r.most in
        record {
          valid = usable_proper;
          square = r;
          good = good_root usable_proper r;
          here = root_here h;
          fits = omega arith;
          wide = p.grid.wide.1;
          high = p.grid.high.1;
        }
