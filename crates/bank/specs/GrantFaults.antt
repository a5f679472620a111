-- What is wrong with a grant: numbers and places, each beside the fault that it names. A fault counts only where none of those before it is met.
use Rattle.std.specs.Prelude.{ℕ, ◌≤◌, ◌<◌, ◌≡◌, List, [], ◌∷◌, length}
use Rattle.refusals.specs.Said.{Accepted}
use Rattle.unit.specs.Units.{Units}
use Rattle.picture.specs.State.{Call, call_in}
use Rattle.picture.specs.CallFaults.{CallFault}
use Rattle.bank.specs.declared.accounts.Account.{Account}
use Rattle.bank.specs.Accounts.{shares, drawn, common_part, could, left_of}
use Rattle.bank.specs.Bank.{account_of}

-- 37 and 38 are passed
pub record Passes (limit : ℕ) (accounts : List Account) (camera : ℕ) : Type 0 where
  pub there : camera < length accounts
  pub shares_fit : shares accounts ≤ limit
  pub drawn_fit : drawn accounts ≤ common_part limit accounts

-- the rows that could be had for a camera
abbrev pub could_have : (limit : ℕ) → List Account → (camera : ℕ) → ℕ
could_have limit accounts camera = could (left_of limit accounts).rows (account_of accounts camera)

pub data GrantFault (us : Units) (due limit : ℕ) (accounts : List Account) (camera : ℕ) (c : Call) : ℕ → ℕ → Type 0 where
  -- "37 when the camera has no account, first of all"
  no_account : length accounts ≤ camera → GrantFault us due limit accounts camera c 37 0
  -- "38 when the accounts' shares exceed L or the common part is overdrawn, second"
  shares_exceed : camera < length accounts → limit < shares accounts → GrantFault us due limit accounts camera c 38 0
  part_overdrawn : camera < length accounts → shares accounts ≤ limit → common_part limit accounts < drawn accounts
      → GrantFault us due limit accounts camera c 38 0
  -- the unit call's own
  unit_fault : {number place : ℕ} → Passes limit accounts camera → CallFault us due c number place → GrantFault us due limit accounts camera c number place
  -- "36 when the grant fails the stated test, after 14, its place the rows that could be had": the unit call would be accepted, with more rows
  too_many : {n : ℕ} → Passes limit accounts camera → (call_in us due c).answer ≡ Accepted n → could_have limit accounts camera < n
      → GrantFault us due limit accounts camera c 36 (could_have limit accounts camera)

-- in the order of the tests
abbrev pub grant_numbers : List ℕ
grant_numbers = 37 ∷ 38 ∷ 22 ∷ 20 ∷ 21 ∷ 11 ∷ 12 ∷ 13 ∷ 14 ∷ 36 ∷ []
