-- Lists of calls on one list of accounts with one L, which alone change it: new periods, and grants, refused ones included, on any sessions.
use Rattle.std.specs.Prelude.{ℕ, List, [], ◌∷◌, ◌++◌}
use Rattle.settings.specs.declared.Settings.{Settings}
use Rattle.unit.specs.Answers.{Outcome}
use Rattle.unit.specs.Luma.{units_of}
use Rattle.sessions.specs.Lists.{prepend}
use Rattle.picture.specs.declared.Session.{Session}
use Rattle.picture.specs.State.{Call}
use Rattle.picture.specs.Lists.{Taken, taken}
use Rattle.bank.specs.declared.accounts.Account.{Account}
use Rattle.bank.specs.Bank.{grant_in, accounts_after, new_period}

-- a grant of a unit call on a session
abbrev pub grant : (limit : ℕ) → List Account → Session Settings → (camera : ℕ) → Call → Outcome
grant limit accounts t camera c = grant_in (units_of t.settings) t.due limit accounts camera c

pub data BankCall : Type 0 where
  a_new_period : BankCall
  a_grant : Session Settings → (camera : ℕ) → Call → BankCall

-- the accounts after a call
abbrev pub after_call : (limit : ℕ) → List Account → BankCall → List Account
after_call limit accounts a_new_period = new_period accounts
after_call limit accounts (a_grant t camera c) = accounts_after accounts camera (grant limit accounts t camera c).answer

-- the units whose tables were granted since the last new period, after a call: those before it, and its own, if it was granted
abbrev pub granted_by : (limit : ℕ) → List Account → List Taken → BankCall → List Taken
granted_by limit accounts units a_new_period = []
granted_by limit accounts units (a_grant t camera c) =
    units ++ prepend (taken c (grant limit accounts t camera c).answer (grant limit accounts t camera c).buffer) []

-- after a list of calls
unfoldable pub after_calls : (limit : ℕ) → List Account → List BankCall → List Account
after_calls limit accounts [] = accounts
after_calls limit accounts (k ∷ calls) = after_calls limit (after_call limit accounts k) calls

unfoldable pub granted_in : (limit : ℕ) → List Account → List Taken → List BankCall → List Taken
granted_in limit accounts units [] = units
granted_in limit accounts units (k ∷ calls) = granted_in limit (after_call limit accounts k) (granted_by limit accounts units k) calls

-- "the rows of tables granted since the last new period": their units, in a list of calls that begins with one
abbrev pub granted_since : (limit : ℕ) → List Account → List BankCall → List Taken
granted_since limit accounts calls = granted_in limit accounts [] (a_new_period ∷ calls)

-- the accounts after such a list
abbrev pub accounts_in : (limit : ℕ) → List Account → List BankCall → List Account
accounts_in limit accounts calls = after_calls limit accounts (a_new_period ∷ calls)
