-- R-12's accounts: "There is one account per camera .. : its reserved share and the rows used", and what they say together of the rows L that all cameras share.
use Rattle.std.specs.Prelude.{ℕ, ◌+◌, ◌-◌, min, Bool, true, false, ◌||◌, List, [], ◌∷◌, ltb, Option, Some, None}
use Rattle.unit.specs.Answers.{Answer}
use Rattle.refusals.specs.Said.{Accepted, Refused}
use Rattle.bank.specs.declared.accounts.Account.{Account}

-- ---- one account

-- what is read where there is no account; nothing depends on it
abbrev pub none : Account
none = record { share = 0; used = 0 }

-- "A new period .. sets all use to 0"
abbrev pub cleared : Account → Account
cleared a = record { share = a.share; used = 0 }

-- "the camera's unused share"
abbrev pub unused : Account → ℕ
unused a = a.share - a.used

-- "Use beyond a share is drawn from the common part"
abbrev pub beyond : Account → ℕ
beyond a = a.used - a.share

-- the rows used grow by those of a table that was granted; a refusal leaves them
abbrev pub charged : Account → Answer → Account
charged a (Accepted count) = record { share = a.share; used = a.used + count }
charged a (Refused number place) = a

-- what an account holds of L: its share, and the use beyond it
abbrev pub held : Account → ℕ
held a = a.share + beyond a

-- "the rows that could be had": the camera's unused share plus what is left of the common part, and of that no more than its use, of 32 bits, can still count. Where L has 32
-- bits, that is all of it (RowAllowance.antt).
abbrev pub could : (left : ℕ) → Account → ℕ
could left a = unused a + min left (4294967295 - held a)

-- ---- all of them

unfoldable pub sum_of : (Account → ℕ) → List Account → ℕ
sum_of f [] = 0
sum_of f (a ∷ accounts) = f a + sum_of f accounts

abbrev pub shares : List Account → ℕ
shares accounts = sum_of (λ a. a.share) accounts

-- "total use"
abbrev pub total_use : List Account → ℕ
total_use accounts = sum_of (λ a. a.used) accounts

-- what is drawn from the common part
abbrev pub drawn : List Account → ℕ
drawn accounts = sum_of beyond accounts

-- "Shares sum to at most L; the remainder is common"
abbrev pub common_part : (limit : ℕ) → List Account → ℕ
common_part limit accounts = limit - shares accounts

-- "38 when the accounts' shares exceed L or the common part is overdrawn"
abbrev pub exceeded : (limit : ℕ) → List Account → Bool
exceeded limit accounts = ltb limit (shares accounts) || ltb (common_part limit accounts) (drawn accounts)

-- "what is left of the common part", no row where there is 38, and whether there is
pub record Left : Type 0 where
  pub rows : ℕ
  pub exceeded : Bool

-- the same of the rows that are left: none where the accounts hold more than there is
abbrev pub left_in : Option ℕ → Left
left_in (Some rows) = record { rows = rows; exceeded = false }
left_in None = record { rows = 0; exceeded = true }

abbrev pub left_of : (limit : ℕ) → List Account → Left
left_of limit accounts = record { rows = common_part limit accounts - drawn accounts; exceeded = exceeded limit accounts }
