use Rattle.std.proofs.Common.{◌≡◌, ◌++◌, map, take, drop}
use Rattle.bank.specs.Accounts.{cleared}
use Rattle.colwythar.proofs.bank_calls.colwythar_new_period.Given as goal

-- so many accounts are cleared
abbrev pub invariant-loop-a : goal.invariant-loop-a
invariant-loop-a l = l.accounts ≡ map cleared (take l.a-index l.fn.accounts) ++ drop l.a-index l.fn.accounts
