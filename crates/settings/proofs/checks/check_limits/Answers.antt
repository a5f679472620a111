use native.Mathlib.Omega.{arith}
use Rattle.settings.proofs.Exponents.{exponents}
use Rattle.settings.proofs.Passed.{sides, unit_side}
use Rattle.settings.proofs.checks.check_limits.Goals as goal

-- MinCb is at most the CTU side, and so are their exponents.
pub overflow_sub-exponent : goal.overflow_sub-exponent
overflow_sub-exponent c =
    let p = sides c.args.s c.requires in
    let u = unit_side p.ctu in
    let l = exponents p.cb.is u.is (omega arith) in
    omega arith
