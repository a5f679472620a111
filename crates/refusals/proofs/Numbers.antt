-- No reason has the number 0.
use Rattle.std.proofs.Common.{ℕ, ◌≡◌}
use native.Mathlib.Omega.{arith}
use Rattle.refusals.specs.declared.Reason.{Reason}
use Rattle.refusals.specs.declared.Reason.TheVariants as reason
use Rattle.refusals.specs.Numbers.{number}

pub not_0 : (r : Reason) → number r ≡ 0 → ⊥
not_0 reason.CtuSide e = absurd (omega arith)
not_0 reason.SmallestBlock e = absurd (omega arith)
not_0 reason.SmallestQuad e = absurd (omega arith)
not_0 reason.MttDepth e = absurd (omega arith)
not_0 reason.GreatestBinary e = absurd (omega arith)
not_0 reason.GreatestTernary e = absurd (omega arith)
not_0 reason.Width e = absurd (omega arith)
not_0 reason.Height e = absurd (omega arith)
not_0 reason.EdgeMultiple e = absurd (omega arith)
not_0 reason.Address e = absurd (omega arith)
not_0 reason.FlagMissing e = absurd (omega arith)
not_0 reason.FlagValue e = absurd (omega arith)
not_0 reason.FlagsLeft e = absurd (omega arith)
not_0 reason.RowRoom e = absurd (omega arith)
not_0 reason.RowBytes e = absurd (omega arith)
not_0 reason.NoTree e = absurd (omega arith)
not_0 reason.FlagRoom e = absurd (omega arith)
not_0 reason.Complete e = absurd (omega arith)
not_0 reason.NotDue e = absurd (omega arith)
not_0 reason.NoSession e = absurd (omega arith)
not_0 reason.PageRoom e = absurd (omega arith)
not_0 reason.RowsMissing e = absurd (omega arith)
not_0 reason.RowsLeft e = absurd (omega arith)
not_0 reason.QuadCtuSide e = absurd (omega arith)
not_0 reason.QuadSmallestBlock e = absurd (omega arith)
not_0 reason.Allowance e = absurd (omega arith)
not_0 reason.NoAccount e = absurd (omega arith)
not_0 reason.Overdrawn e = absurd (omega arith)
