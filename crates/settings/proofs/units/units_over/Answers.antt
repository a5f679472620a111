use Rattle.std.proofs.Common.{ℕ, ◌≡◌, ◌<◌, ◌-◌, ◌+◌, ◌/◌}
use native.Mathlib.Nat.{add-div_right}
use native.Mathlib.Omega.{arith}
use lib.Pow.{pow_pos}
use Rattle.sides.specs.Side.{exponent}
use Rattle.settings.specs.Units.{units_over}
use Rattle.settings.proofs.units.units_over.Goals as goal

-- the units that end before the last of n samples, and the one that holds it
one_more : (side n : ℕ) → 0 < side → 0 < n → units_over side n ≡ (n - 1) / side + 1
unfolding units_over
one_more side n p q =
    let e : n + (side - 1) ≡ n - 1 + side = omega arith in
    rw e (add-div_right (n - 1) p)

pub returns : goal.returns
returns c =
    let a = c.args in
    let some : 0 < a.side = omega (arith, pow_pos (exponent a.side)) in
    rw (c.exponent.ensures, ← c.requires.0, one_more a.side a.n some c.requires.2)
