-- R-12, one claim: one row allowance for a bank of cameras.
use Rattle.std.specs.Prelude.{ℕ, ◌+◌, ◌-◌, ◌≤◌, ◌<◌, min, ◌≡◌, List, ◌↔◌, length}
use Rattle.settings.specs.declared.Settings.{Settings}
use Rattle.refusals.specs.Said.{Accepted}
use Rattle.unit.specs.Answers.{number_of}
use Rattle.unit.specs.Luma.{units_of}
use Rattle.unit.specs.Faults.{Decides}
use Rattle.picture.specs.declared.Session.{Session}
use Rattle.picture.specs.State.{Call}
use Rattle.picture.specs.Session.{unit_call, following}
use Rattle.picture.specs.Lists.{accepted_in, joined}
use Rattle.bank.specs.declared.accounts.Account.{Account}
use Rattle.bank.specs.Accounts.{unused, shares, total_use, left_of}
use Rattle.bank.specs.Bank.{account_of, accounts_after}
use Rattle.bank.specs.GrantFaults.{Passes, could_have, GrantFault, grant_numbers}
use Rattle.bank.specs.BankCalls.{grant, BankCall, granted_since, accounts_in}
use Rattle.bank.specs.SessionGrants.{Asked, granted_on}

-- a session, the accounts and a row buffer, before a grant and after it
abbrev pub grant_decides : (limit : ℕ) → List Account → Session Settings → (camera : ℕ) → Call → Type 0
grant_decides limit accounts t camera c =
    Decides {Lent = Session Settings × List Account × List ℕ} (GrantFault (units_of t.settings) t.due limit accounts camera c) grant_numbers
    (grant limit accounts t camera c).answer (t, accounts, c.buffer)
    (following t (grant limit accounts t camera c).answer, accounts_after accounts camera (grant limit accounts t camera c).answer, (grant limit accounts t camera c).buffer)

-- "Over any calls on one list with one L, which begin with a new period and alone change the list": what holds after them
pub record AfterCalls (limit : ℕ) (accounts : List Account) (calls : List BankCall) : Type 0 where
  -- "total use equals the rows of tables granted since the last new period"
  pub total : total_use (accounts_in limit accounts calls) ≡ length (joined (granted_since limit accounts calls))
  -- "memory for L rows in a picture period" is enough for these
  pub enough : total_use (accounts_in limit accounts calls) ≤ limit
  -- "In them, with shares that sum to at most L, no table within its camera's unused share is refused with 36 or 38, whatever other cameras did": of any next grant. None is
  -- refused with 38, whatever is wrong with its unit call,
  pub never_38 : shares accounts ≤ limit → (t : Session Settings) (camera : ℕ) (c : Call)
      → ¬ (number_of (grant limit (accounts_in limit accounts calls) t camera c).answer ≡ 38)
  -- none of a table within the share with 36,
  pub reserved : shares accounts ≤ limit → (t : Session Settings) (camera : ℕ) (c : Call) (n : ℕ) → (unit_call units_of t c).answer ≡ Accepted n
      → n ≤ unused (account_of (accounts_in limit accounts calls) camera)
      → ¬ (number_of (grant limit (accounts_in limit accounts calls) t camera c).answer ≡ 36)
  -- and where the camera has an account, it is granted: the grant is the unit call
  pub granted : shares accounts ≤ limit → (t : Session Settings) (camera : ℕ) (c : Call) (n : ℕ) → (unit_call units_of t c).answer ≡ Accepted n
      → camera < length accounts → n ≤ unused (account_of (accounts_in limit accounts calls) camera)
      → grant limit (accounts_in limit accounts calls) t camera c ≡ unit_call units_of t c

pub record RowAllowance : Type 0 where
  -- what is refused, with its number and place, and nothing else; a refusal leaves session, accounts and rows as they were
  pub decided : (limit : ℕ) (accounts : List Account) (t : Session Settings) (camera : ℕ) (c : Call) → grant_decides limit accounts t camera c
  -- "A greyscale table of n rows is granted exactly when n is at most the camera's unused share plus what is left of the common part", for every L of 32 bits
  pub exactly : (limit : ℕ) (accounts : List Account) (t : Session Settings) (camera : ℕ) (c : Call) (n : ℕ) → Passes limit accounts camera → limit < 4294967296
      → (unit_call units_of t c).answer ≡ Accepted n
      → (grant limit accounts t camera c ≡ unit_call units_of t c) ↔ (n ≤ unused (account_of accounts camera) + (left_of limit accounts).rows)
  -- then the place of 36 is that sum; for other L it is also at most what the use, of 32 bits, can still count
  pub place : (limit : ℕ) (accounts : List Account) (camera : ℕ) → Passes limit accounts camera → limit < 4294967296
      → could_have limit accounts camera ≡ unused (account_of accounts camera) + (left_of limit accounts).rows
  pub counted : (limit : ℕ) (accounts : List Account) (camera : ℕ) → (account_of accounts camera).share < 4294967296
      → could_have limit accounts camera ≡ min (unused (account_of accounts camera) + (left_of limit accounts).rows) (4294967295 - (account_of accounts camera).used)
  -- "The grant is the unit call": a table is granted as that leaves it
  pub as_unit_call : (limit : ℕ) (accounts : List Account) (t : Session Settings) (camera : ℕ) (c : Call) (n : ℕ) → (grant limit accounts t camera c).answer ≡ Accepted n
      → grant limit accounts t camera c ≡ unit_call units_of t c
  -- so the units granted on a session are those that a list of unit calls on it accepts, and demand 3 speaks of them
  pub session : (t : Session Settings) (asked : List Asked) → (calls : List Call) × (accepted_in t calls ≡ granted_on t asked)
  pub calls : (limit : ℕ) (accounts : List Account) (calls : List BankCall) → AfterCalls limit accounts calls
