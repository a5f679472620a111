-- The grant on a camera's account, by what is left of the common part.
use Rattle.std.specs.Prelude.{ℕ, cond, List, ltb}
use Rattle.unit.specs.Answers.{Answer}
use Rattle.refusals.specs.Said.{Accepted, Refused}
use Rattle.unit.specs.Answers.{Outcome, refused}
use Rattle.bank.specs.declared.accounts.Account.{Account}
use Rattle.bank.specs.Accounts.{Left, could}

-- "36 when the grant fails the stated test, after 14, its place the rows that could be had": what becomes of a unit call on this buffer where so many rows could be had
abbrev pub allowed : (could : ℕ) (buffer : List ℕ) → Outcome → Answer → Outcome
allowed could buffer o (Accepted count) = cond (ltb could count) (refused 36 could buffer) o
allowed could buffer o (Refused number place) = o

unfoldable pub within : (could : ℕ) (buffer : List ℕ) → Outcome → Outcome
within could buffer o = allowed could buffer o o.answer

-- the grant on an account: 38, and then the unit call with its own refusals and 36
unfoldable pub on_account : Left → Account → (buffer : List ℕ) → Outcome → Outcome
on_account left own buffer o = cond left.exceeded (refused 38 0 buffer) (within (could left.rows own) buffer o)
