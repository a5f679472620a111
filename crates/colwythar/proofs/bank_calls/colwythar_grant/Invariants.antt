use Rattle.std.proofs.Common.{◌≡◌, take, fold}
use Rattle.bank.specs.Accounts.{left_in}
use Rattle.bank.specs.Steps.{all, left_after}
use Rattle.colwythar.proofs.bank_calls.colwythar_grant.Given as goal

-- what is left after so many accounts
abbrev pub invariant-loop-a : goal.invariant-loop-a
invariant-loop-a l = left_in l.left ≡ fold left_after (all l.limit) (take l.a-index l.fn.accounts)
