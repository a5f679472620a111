-- Samples counted: squares and the picture as tests and as numbers.
use Prim.Native.Nat.{ℕ, ◌+◌, ◌*◌}
use mathlib.Core.Path.{◌≡◌, refl}
use mathlib.Core.Bool.{Bool, true, false, ◌&&◌, ◌||◌}
use native.Mathlib.Omega.{arith}
use lib.Dec.{leb, ltb}
use borrow.Author.Tests.{le-leb}
use Rattle.settings.specs.declared.Square.{Square}
use Rattle.tree.specs.Splits.{bit}
use Rattle.laws.specs.Geometry.{span, rectangle}
use Rattle.sessions.specs.Samples.{in_square, is_sample}

pub both : (a b : Bool) → bit a 1 * bit b 1 ≡ bit (a && b) 1
both true b = omega arith
both false b = omega arith

-- of two tests that do not both hold
pub either : (a b : Bool) → (a ≡ true → b ≡ false) → bit a 1 + bit b 1 ≡ bit (a || b) 1
either true b h = rw (h refl)
either false b h = omega arith

-- whether p is one of the l samples from a on
abbrev within : ℕ → ℕ → ℕ → Bool
within a l p = leb a p && ltb p (a + l)

from_start : (l p : ℕ) → within 0 l p ≡ ltb p l
from_start l p = let e : 0 + l ≡ l = omega arith in rw (le-leb 0 p (omega arith), e)

module _ (px py : ℕ) where
  pub picture_bit : (width height : ℕ) → rectangle 0 0 width height px py ≡ bit (is_sample width height px py) 1
  unfolding span
  picture_bit width height = rw (from_start width px, from_start height py) (both (ltb px width) (ltb py height))

  pub square_bit : (q : Square) → rectangle q.x q.y q.side q.side px py ≡ bit (in_square q px py) 1
  unfolding span
  square_bit q = both (within q.x q.side px) (within q.y q.side py)
