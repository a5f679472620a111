use Rattle.std.proofs.Common.{◌<◌}
use native.Mathlib.Omega.{arith}
use borrow.Author.Tests.{le-leb, lt-leb}
use Rattle.settings.specs.Units.{count_in, square_in, refusal_at, located_by}
use Rattle.settings.proofs.Grid.{count_most, corner_x, corner_y}
use Rattle.settings.proofs.units.locate.Goals as goal
use Rattle.settings.proofs.units.locate.Goals.{Else-address-count}

pub overflow_mul-count : goal.overflow_mul-count
unfolding count_in
overflow_mul-count c = let m = count_most c.requires in rw (c.units_over-across.ensures, c.units_over.ensures) (omega arith)

pub returns-then-address-count : goal.returns-then-address-count
unfolding located_by refusal_at count_in
returns-then-address-count c = rw (le-leb _ _ (rw (c.units_over-across.ensures, c.units_over.ensures) at c.if-address-count.true))

there : (c : Else-address-count) → c.args.address < count_in c.args.side c.args.width c.args.height
unfolding count_in
there c = rw (c.units_over-across.ensures, c.units_over.ensures) at c.if-address-count.false

pub overflow_cast-a : goal.overflow_cast-a
overflow_cast-a c =
    let m = count_most c.requires in
    let l = there c in
    omega arith

-- The corner's coordinates fit, since a unit begins inside the picture.
pub overflow_mul-result : goal.overflow_mul-result
unfolding square_in
overflow_mul-result c =
    let w = c.requires.wide.1 in
    let l = corner_x c.requires _ (there (goal.at.overflow_mul-result c).Else-address-count) in
    rw c.units_over-across.ensures (omega arith)

pub overflow_mul-result-2 : goal.overflow_mul-result-2
unfolding square_in
overflow_mul-result-2 c =
    let w = c.requires.high.1 in
    let l = corner_y c.requires _ (there (goal.at.overflow_mul-result-2 c).Else-address-count) in
    rw c.units_over-across.ensures (omega arith)

pub returns : goal.returns
unfolding located_by refusal_at square_in
returns c = rw (c.units_over-across.ensures, lt-leb _ _ (there (goal.at.returns c).Else-address-count))
