-- R-12's grant and new period on a list of accounts: "The grant is the unit call, given the accounts, the camera's index and L besides."
use Rattle.std.specs.Prelude.{ℕ, cond, List, map, leb, length, get_or, set}
use Rattle.unit.specs.Answers.{Answer}
use Rattle.unit.specs.Answers.{Outcome, refused}
use Rattle.unit.specs.Units.{Units}
use Rattle.picture.specs.State.{Call, call_in}
use Rattle.bank.specs.declared.accounts.Account.{Account}
use Rattle.bank.specs.Accounts.{none, cleared, charged, left_of}
use Rattle.bank.specs.Granting.{on_account}

-- the account of a camera, where it has one
abbrev pub account_of : List Account → (camera : ℕ) → Account
account_of accounts camera = get_or accounts camera none

-- A grant's answer, and the row buffer afterwards: "37 when the camera has no account, first of all", then 38, the unit call's own refusals, and 36.
unfoldable pub grant_in : Units → (due limit : ℕ) → List Account → (camera : ℕ) → Call → Outcome
grant_in us due limit accounts camera c =
    cond (leb (length accounts) camera) (refused 37 0 c.buffer)
    (on_account (left_of limit accounts) (account_of accounts camera) c.buffer (call_in us due c))

-- the accounts after a grant with an answer: the camera's is charged
abbrev pub accounts_after : List Account → (camera : ℕ) → Answer → List Account
accounts_after accounts camera answer = set accounts camera (charged (account_of accounts camera) answer)

-- "A new period, never refused, sets all use to 0"
abbrev pub new_period : List Account → List Account
new_period accounts = map cleared accounts
