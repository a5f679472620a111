-- The C interface: what its words mean.
use Rattle.std.specs.Prelude.{Ok, Err}
use Rattle.std.specs.Prelude.{ℕ, ◌≡◌, List, [], ◌∷◌, ◌↔◌}
use Rattle.settings.specs.Units.{Count}
use Rattle.settings.specs.declared.Settings.{Settings}
use Rattle.settings.specs.Units.{counted_by, count_number}
use Rattle.unit.specs.Answers.{Answer}
use Rattle.unit.specs.Answers.{number_of, value_of, ZeroIsAccepted, Outcome}
use Rattle.unit.specs.Units.{Units}
use Rattle.unit.specs.Luma.{units_of}
use Rattle.unit.specs.Reader.{read_in}
use Rattle.unit.specs.Writer.{write_in}
use Rattle.unit.specs.Exactly.{Bytes}
use Rattle.page.specs.Page.{write_page}
use Rattle.compare.specs.Compare.{compare_unit}
use Rattle.picture.specs.declared.Session.{Session}
use Rattle.picture.specs.State.{Call, call_in, next_due}
use Rattle.picture.specs.Session.{Opened, opening, opened_number}
use Rattle.bank.specs.declared.accounts.Account.{Account}
use Rattle.bank.specs.BankCalls.{grant}
use Rattle.h265settings.specs.declared.Settings as h265s
use Rattle.h265settings.specs.Units as h265u

-- an answer is two words: 0 where accepted, else the number; the count answered, or the number of a comparison, or the place
abbrev pub answer_words : Answer → List ℕ
answer_words answer = number_of answer ∷ value_of answer ∷ []

-- the address due after an opening: that of the fresh session, or as it was
abbrev pub due_after : {S : Type 0} → Opened S → ℕ → ℕ
due_after (Ok t) due = t.due
due_after (Err number) due = due

-- a count of units: 0 and the count, or the number of the refusal and 0
abbrev pub units_in : Count → ℕ
units_in (Ok n) = n
units_in (Err number) = 0

abbrev pub count_words : Count → List ℕ
count_words c = count_number c ∷ units_in c ∷ []

-- the words of an opening, its number and 0, and the address due after it
pub record OpensTo (number due next : ℕ) (answer : List ℕ) : Type 0 where
  pub answers : answer ≡ number ∷ 0 ∷ []
  pub moves : next ≡ due

-- the words of an outcome's answer, and its buffer
pub record Leaves (o : Outcome) (answer left : List ℕ) : Type 0 where
  pub answers : answer ≡ answer_words o.answer
  pub leaves : left ≡ o.buffer

-- the outcome of a call on a session: its words, its buffer, and the address due after it
pub record Follows (o : Outcome) (due after : ℕ) (answer left : List ℕ) : Type 0 where
  pub next : after ≡ next_due due o.answer
  pub outcome : Leaves o answer left

-- of a unit call on a session, which is its settings' units and the address due
abbrev pub Moves : Units → (due : ℕ) → Call → (after : ℕ) → List ℕ → List ℕ → Type 0
Moves us due c after answer left = Follows (call_in us due c) due after answer left

-- An accepted answer and a refusal never have the same words: the first word of what a function answers is 0 exactly where
-- the call is accepted.
pub record Tells (us : Units) : Type 0 where
  pub reads : (a : ℕ) (flags buffer : List ℕ) → ZeroIsAccepted (read_in us a flags buffer).answer
  pub turns : (a : ℕ) (bytes : List ℕ) → Bytes bytes → (buffer : List ℕ) → ZeroIsAccepted (write_in us a bytes buffer).answer
  pub calls : (due : ℕ) (c : Call) → ZeroIsAccepted (call_in us due c).answer
  pub counts : (count_number (counted_by us.refusal us.count) ≡ 0) ↔ (counted_by us.refusal us.count ≡ Ok us.count)

pub record Told : Type 0 where
  pub units : (s : Settings) → Tells (units_of s)
  pub pages : (s : Settings) (a : ℕ) (bytes : List ℕ) → Bytes bytes → (page : List ℕ)
      → ZeroIsAccepted (write_page s a bytes page).answer
  pub comparisons : (s : Settings) (a : ℕ) (first second : List ℕ) → Bytes first → ZeroIsAccepted (compare_unit s a first second)
  pub grants : (limit : ℕ) (accounts : List Account) (t : Session Settings) (camera : ℕ) (c : Call) → ZeroIsAccepted (grant limit accounts t camera c).answer
  pub opens : (s : Settings) → (opened_number (opening units_of s) ≡ 0) ↔ (opening units_of s ≡ Ok (record { settings = s; due = 0 }))
  pub h265_units : (s : h265s.Settings) → Tells (h265u.units_of s)
  pub h265_opens : (s : h265s.Settings)
      → (opened_number (opening h265u.units_of s) ≡ 0) ↔ (opening h265u.units_of s ≡ Ok (record { settings = s; due = 0 }))
