-- What the laws of coding trees ask: of a kind, and of the root of a tree.
use Rattle.std.specs.Prelude.{ℕ, ◌%◌, ◌^◌, ◌≤◌, max, ◌≡◌, false}
use Rattle.sides.specs.Side.{exponent}
use Rattle.tree.specs.declared.Limits.{Limits}
use Rattle.tree.specs.declared.Node.{Node}
use Rattle.tree.specs.declared.Direction.{Direction}
use Rattle.tree.specs.declared.Decision.TheVariants.{Quad, Binary}
use Rattle.tree.specs.Kind.{Kind, closes}
use Rattle.tree.specs.Splits.{along}

-- the picture's sides are multiples of it: document 01's 7 and 8
abbrev pub grain : Limits → ℕ
grain l = max 8 l.mincb

-- A kind is proper: what document 01's 2, 3, 5 and 7 to 9 leave of its limits; and it closes neither the quad split of sides from 16 on nor, where
-- both sides are 8 or more, the binary cut of one from 16 on.
pub record Proper (k : Kind) : Type 0 where
  pub cb_power : k.limits.mincb ≡ 2 ^ exponent k.limits.mincb
  pub least_cb : 4 ≤ k.limits.mincb
  pub qt_power : k.limits.minqt ≡ 2 ^ exponent k.limits.minqt
  pub le_qt : k.limits.mincb ≤ k.limits.minqt
  pub qt64 : k.limits.minqt ≤ 64
  pub qt_bt : k.limits.minqt ≤ k.limits.maxbt
  pub width : k.limits.width % grain k.limits ≡ 0
  pub height : k.limits.height % grain k.limits ≡ 0
  pub flat : k.limits.maxmtt ≡ 0 → (k.limits.width % k.limits.minqt ≡ 0) × (k.limits.height % k.limits.minqt ≡ 0)
  pub quad : (n : Node) → 16 ≤ n.w → 16 ≤ n.h → closes k n Quad ≡ false
  pub cut : (n : Node) (d : Direction) → 8 ≤ n.w → 8 ≤ n.h → 16 ≤ along d n → closes k n (Binary d) ≡ false

-- a root: a square at multiples of its side, above all cuts, of any QT depth; a unit is one, and so is a quarter of a unit
pub record RootSquare (l : Limits) (n : Node) : Type 0 where
  pub power : n.w ≡ 2 ^ exponent n.w
  pub square : n.w ≡ n.h
  pub least : max 8 l.minqt ≤ n.w
  pub most : n.w ≤ 128
  pub left : n.x % n.w ≡ 0
  pub top : n.y % n.w ≡ 0
  pub uncut : n.mtt ≡ 0
  pub unlifted : n.offset ≡ 0
