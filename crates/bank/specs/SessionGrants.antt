-- Grants on one session, each with the L, the accounts and the camera of it, whatever was done to the accounts since the grant before.
use Rattle.std.specs.Prelude.{ℕ, List}
use Rattle.settings.specs.declared.Settings.{Settings}
use Rattle.unit.specs.Answers.{Outcome}
use Rattle.sessions.specs.Lists.{accepted_in}
use Rattle.picture.specs.declared.Session.{Session}
use Rattle.picture.specs.State.{Call}
use Rattle.picture.specs.Session.{following}
use Rattle.picture.specs.Lists.{Taken, taken}
use Rattle.bank.specs.declared.accounts.Account.{Account}
use Rattle.bank.specs.BankCalls.{grant}

pub record Asked : Type 0 where
  pub limit : ℕ
  pub accounts : List Account
  pub camera : ℕ
  pub call : Call

abbrev pub grant_of : Session Settings → Asked → Outcome
grant_of t a = grant a.limit a.accounts t a.camera a.call

-- the units granted in a list of grants from a session on, in order, each on the session that the one before it yielded
abbrev pub granted_on : Session Settings → List Asked → List Taken
granted_on t asked = accepted_in (λ u a. taken a.call (grant_of u a).answer (grant_of u a).buffer) (λ u a. following u (grant_of u a).answer) t asked
