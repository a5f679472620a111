-- The grant in the steps of the code: what is left, account by account, and the unit call that is lent a part of the buffer.
use Rattle.std.specs.Prelude.{ℕ, ◌-◌, ◌/◌, ◌≡◌, false, cond, ◌&&◌, ◌||◌, List, leb, ltb, eqb}
use Rattle.settings.specs.declared.Settings.{Settings}
use Rattle.unit.specs.Answers.{Answer}
use Rattle.refusals.specs.Said.{Accepted, Refused}
use Rattle.unit.specs.Luma.{units_of}
use Rattle.picture.specs.declared.Session.{Session}
use Rattle.picture.specs.State.{Call, Returns}
use Rattle.picture.specs.Session.{unit_call, returned, replied}
use Rattle.bank.specs.declared.accounts.Account.{Account}
use Rattle.bank.specs.declared.Granted.{Granted}
use Rattle.bank.specs.Accounts.{Left, held, charged}
use Rattle.bank.specs.Granting.{on_account}

-- what is left before the first account, and after one more
abbrev pub all : (limit : ℕ) → Left
all limit = record { rows = limit; exceeded = false }

abbrev pub left_after : Left → Account → Left
left_after left a = record { rows = left.rows - held a; exceeded = left.exceeded || ltb left.rows (held a) }

-- The answer of a unit call that was lent only the part of a buffer, so many bytes long, that the rows take which could be had: there, 36 is a 14 for which the buffer
-- itself has room.
unfoldable pub judged : Answer → (room could : ℕ) → Answer
judged (Accepted count) room could = Accepted count
judged (Refused number place) room could = cond (eqb number 14 && leb place (room / 8)) (Refused 36 could) (Refused number place)

-- what a function returns, the account and the rest, and the buffer that it leaves are those of a grant on an account
pub record Grants (left : Left) (own : Account) (t : Session Settings) (c : Call) (r : Granted) (rows : List ℕ) : Type 0 where
  pub called : Returns (returned t) (on_account left own c.buffer (unit_call units_of t c)) (replied r.called) rows
  pub account : r.account ≡ charged own (on_account left own c.buffer (unit_call units_of t c)).answer
