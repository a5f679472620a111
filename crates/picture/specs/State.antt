-- The state of a picture session, whatever its settings: the unit call, with document 01's refusals from the state.
use Rattle.std.specs.Prelude.{Ok, Err}
use Rattle.std.specs.Prelude.{ℕ, ◌+◌, ◌≡◌, cond, not, List, ltb, eqb}
use Rattle.settings.specs.Units.{Count}
use Rattle.settings.specs.Units.{counted_by}
use Rattle.unit.specs.Answers.{Answer}
use Rattle.refusals.specs.Said.{Said, Accepted, Refused}
use Rattle.unit.specs.Answers.{Outcome, refused}
use Rattle.unit.specs.Units.{Units}
use Rattle.unit.specs.Reader.{read_in}

-- "opening yields the settings given, with address 0 due", which is a fresh session, or it is refused with a number, that of the settings' refusal
unfoldable pub opened_by : {Opened : Type 0} → Units → (fresh : Opened) (refused : ℕ → Opened) → Opened
opened_by us fresh refusal = cond (eqb us.refusal 0) fresh (refusal us.refusal)

-- "A unit call takes a session, an address, flags and a row buffer"
pub record Call : Type 0 where
  pub address : ℕ
  pub flags : List ℕ
  pub buffer : List ℕ

abbrev pub call : ℕ → List ℕ → List ℕ → Call
call address flags buffer = record { address = address; flags = flags; buffer = buffer }

-- the unit is due, or a refusal's number and place
abbrev pub State : Type 0
State = Said Unit

-- Whether the unit at an address is due, by the count of units and the due address: 22 where the settings fail, or the due address exceeds the unit count;
-- 20 where the picture is complete, "After the last address the due one is the unit count"; 21 where the address isn't the due one, the place the due one.
unfoldable pub state_of : Count → (due address : ℕ) → State
state_of (Err number) due address = Refused 22 0
state_of (Ok units) due address =
    cond (ltb units due) (Refused 22 0)
    (cond (eqb due units) (Refused 20 0) (cond (not (eqb address due)) (Refused 21 due) (Accepted tt)))

-- a call on this state: its refusal, or the reading of the unit
abbrev pub on_state : State → Call → Outcome → Outcome
on_state (Accepted _) c reading = reading
on_state (Refused number place) c reading = refused number place c.buffer

-- A unit call's answer, and the row buffer afterwards: 22, 20, 21 in this order, then the reading of the unit. Of that, 11 to 14 are left: the refusals before
-- them are never met there.
unfoldable pub call_in : Units → (due : ℕ) → Call → Outcome
call_in us due c =
    on_state (state_of (counted_by us.refusal us.count) due c.address) c (read_in us c.address c.flags c.buffer)

-- "An accepted unit yields the next session, with .. the following address due; a refused one yields the same session"
abbrev pub next_due : ℕ → Answer → ℕ
next_due due (Accepted count) = due + 1
next_due due (Refused number place) = due

-- what a function returns, by what is returned with an answer, and the buffer that it leaves are those of an outcome
pub record Returns {Called : Type 0} (returned : Answer → Called) (o : Outcome) (r : Called) (left : List ℕ) : Type 0 where
  pub returns : r ≡ returned o.answer
  pub leaves : left ≡ o.buffer
