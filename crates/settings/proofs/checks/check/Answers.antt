use Rattle.std.proofs.Common.{ℕ, ◌≡◌, ◌++◌, sym}
use native.Mathlib.Omega.{arith}
use Rattle.std.proofs.lemmas.Result.{err_from_is_err_and}
use Rattle.settings.specs.declared.Settings.{Settings}
use Rattle.settings.specs.Checks.{settings_refusal, side_rules, limit_rules, picture_rules, first_hit}
use Rattle.settings.proofs.First.{in_first, in_second}
use Rattle.settings.proofs.checks.check.Goals as goal

-- where 1 to 3 pass, the later rules decide
past_sides : (s : Settings) {r : ℕ} → 0 ≡ first_hit 1 (side_rules s) → r ≡ first_hit 4 (limit_rules s ++ picture_rules s) → r ≡ settings_refusal s
unfolding settings_refusal
past_sides s e h = in_second 1 (side_rules s) (limit_rules s ++ picture_rules s) (omega arith) e h

pub check_limits-requires : goal.check_limits-requires
check_limits-requires c = sym c.in_ok-check_sides.ensures

pub check_picture-requires : goal.check_picture-requires
check_picture-requires c = sym c.in_ok-check_sides.ensures

pub returns-in_err-check_sides : goal.returns-in_err-check_sides
unfolding settings_refusal
returns-in_err-check_sides c =
    let s = c.args.s in
    let p = err_from_is_err_and c.from_residual.result c.from_residual.ensures.1 in
    rw (p.1, p.2) (in_first _ 1 (side_rules s) (limit_rules s ++ picture_rules s) c.in_err-check_sides.ensures)

pub returns-in_err-check_limits : goal.returns-in_err-check_limits
returns-in_err-check_limits c =
    let s = c.args.s in
    let e = c.from_residual-in_err-check_limits in
    let p = err_from_is_err_and e.result e.ensures.1 in
    rw (p.1, p.2) (past_sides s c.in_ok-check_sides.ensures (in_first _ 4 (limit_rules s) (picture_rules s) c.in_err-check_limits.ensures))

pub returns : goal.returns
returns c =
    let s = c.args.s in
    past_sides s c.in_ok-check_sides.ensures
    (in_second 4 (limit_rules s) (picture_rules s) (omega arith) c.in_ok-check_limits.ensures c.check_picture.ensures)
