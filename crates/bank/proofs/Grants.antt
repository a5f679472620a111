-- The grant on a list of accounts, by whether the camera has one.
use Prim.Native.Nat.{ℕ, ◌≤◌, ◌<◌}
use mathlib.Core.Path.{◌≡◌}
use mathlib.Core.List.{List}
use lib.ListN.{length}
use borrow.Author.Tests.{le-leb, lt-leb}
use Rattle.unit.specs.Answers.{refused}
use Rattle.unit.specs.Units.{Units}
use Rattle.picture.specs.State.{Call, call_in}
use Rattle.bank.specs.declared.accounts.Account.{Account}
use Rattle.bank.specs.Accounts.{left_of}
use Rattle.bank.specs.Granting.{on_account}
use Rattle.bank.specs.Bank.{account_of, grant_in}

module _ (us : Units) (due limit : ℕ) (accounts : List Account) (camera : ℕ) (c : Call) where
  pub grant_absent : length accounts ≤ camera → grant_in us due limit accounts camera c ≡ refused 37 0 c.buffer
  unfolding grant_in
  grant_absent h = rw (le-leb (length accounts) camera h)

  pub grant_there : camera < length accounts
      → grant_in us due limit accounts camera c ≡ on_account (left_of limit accounts) (account_of accounts camera) c.buffer (call_in us due c)
  unfolding grant_in
  grant_there h = rw (lt-leb (length accounts) camera h)
