-- The picture session over settings of any coding, by their units: opening it, and the unit call. H.266's units are those of `unit/specs/Luma.antt`, H.265's those of
-- `h265settings/specs/Units.antt`.
use Rattle.std.specs.Prelude.{ℕ, List, Result, Ok, Err}
use Rattle.refusals.specs.Said.{said}
use Rattle.unit.specs.Answers.{Answer}
use Rattle.unit.specs.Answers.{Outcome}
use Rattle.unit.specs.Units.{Units}
use Rattle.picture.specs.declared.Session.{Session}
use Rattle.picture.specs.declared.Called.{Called}
use Rattle.picture.specs.State.{opened_by, Call, call_in, next_due, Returns}

-- a fresh session, or a refusal's number
abbrev pub Opened : Type 0 → Type 0
Opened S = Result (Session S) ℕ

-- "opening yields the settings given, with address 0 due", or a refusal: in H.266 1 to 9, in H.265 34, 35, 7 and 8
abbrev pub opening : {S : Type 0} → (S → Units) → S → Opened S
opening units_of s = opened_by (units_of s) (Ok (record { settings = s; due = 0 })) Err

-- document 01's number of an opening: that of a refusal, else 0
abbrev pub opened_number : {S : Type 0} → Opened S → ℕ
opened_number (Ok fresh) = 0
opened_number (Err number) = number

-- a unit call's answer, and the row buffer afterwards
abbrev pub unit_call : {S : Type 0} → (S → Units) → Session S → Call → Outcome
unit_call units_of t c = call_in (units_of t.settings) t.due c

-- the session that a call with an answer yields: "with the same settings"
abbrev pub following : {S : Type 0} → Session S → Answer → Session S
following t answer = record { settings = t.settings; due = next_due t.due answer }

-- what a call with an answer returns: the session that it yields, and the answer
abbrev pub returned : {S : Type 0} → Session S → Answer → Session S × Answer
returned t answer = (following t answer, answer)

-- that which a function returned says: the session, and the answer in numbers
abbrev pub replied : {S : Type 0} → Called S → Session S × Answer
replied r = (r.session, said r.answer)

-- what a function returns and the buffer that it leaves are those of a unit call
abbrev pub Yields : {S : Type 0} → (S → Units) → Session S → Call → Called S → List ℕ → Type 0
Yields units_of t c r left = Returns (returned t) (unit_call units_of t c) (replied r) left
