-- The C interface to a bank of cameras: what a grant leaves.
use Rattle.std.specs.Prelude.{ℕ, ◌≡◌, List}
use Rattle.unit.specs.Units.{Units}
use Rattle.picture.specs.State.{Call, call_in}
use Rattle.bank.specs.declared.accounts.Account.{Account}
use Rattle.bank.specs.Accounts.{Left, charged}
use Rattle.bank.specs.Granting.{on_account}
use Rattle.bank.specs.Bank.{grant_in, accounts_after}
use Rattle.colwythar.specs.Words.{Follows}

-- a grant on an account: its outcome on the session, and the account afterwards
pub record ChargesOne (rest : Left) (own : Account) (us : Units) (due : ℕ) (c : Call) (r : Account) (after : ℕ) (answer left : List ℕ) : Type 0 where
  pub follows : Follows (on_account rest own c.buffer (call_in us due c)) due after answer left
  pub account : r ≡ charged own (on_account rest own c.buffer (call_in us due c)).answer

-- a grant on a list of accounts, and the list afterwards
pub record Charges (us : Units) (due limit : ℕ) (accounts : List Account) (camera : ℕ) (c : Call) (after : ℕ) (answer left : List ℕ)
    (later : List Account) : Type 0 where
  pub follows : Follows (grant_in us due limit accounts camera c) due after answer left
  pub charges : later ≡ accounts_after accounts camera (grant_in us due limit accounts camera c).answer
