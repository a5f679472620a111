-- Lists of unit calls, each on the session that the one before it yielded, and the joined table.
use Rattle.std.specs.Prelude.{ℕ, ◌*◌, List, take}
use Rattle.std.proofs.Math.Option.{Option, none, some}
use Rattle.settings.specs.declared.Settings.{Settings}
use Rattle.tree.specs.Rows.{Row, rows_at}
use Rattle.unit.specs.Answers.{Answer}
use Rattle.refusals.specs.Said.{Accepted, Refused}
use Rattle.unit.specs.Luma.{units_of}
use Rattle.sessions.specs.Lists as lists
use Rattle.picture.specs.declared.Session.{Session}
use Rattle.picture.specs.State.{Call}
use Rattle.picture.specs.Session.{unit_call, following}

-- A unit that was accepted: its address, the flags given to it, the rows that it answered, and its row buffer as it
-- stood when the call ended.
pub record Taken : Type 0 where
  pub address : ℕ
  pub flags : List ℕ
  pub count : ℕ
  pub buffer : List ℕ

-- its rows: "those it wrote, as many as it answers"
abbrev pub rows_of_unit : Taken → List Row
rows_of_unit u = rows_at u.count u.buffer 0

-- the bytes of these rows
abbrev pub bytes_of_unit : Taken → List ℕ
bytes_of_unit u = take (8 * u.count) u.buffer

-- "A call is accepted when its answer is no refusal": the unit that a call accepted, if it did, by its answer and the
-- buffer that it left
abbrev pub taken : Call → Answer → List ℕ → Option Taken
taken c (Accepted count) left = some (record { address = c.address; flags = c.flags; count = count; buffer = left })
taken c (Refused number place) left = none

-- the unit that a call on a session accepts, if it does, and the session that the call yields
abbrev pub takes : Session Settings → Call → Option Taken
takes t c = taken c (unit_call units_of t c).answer (unit_call units_of t c).buffer

abbrev pub yields : Session Settings → Call → Session Settings
yields t c = following t (unit_call units_of t c).answer

-- the units accepted in a list of calls from a session on, in order
abbrev pub accepted_in : Session Settings → List Call → List Taken
accepted_in t calls = lists.accepted_in takes yields t calls

-- "The joined table of a list of unit calls is the rows of all units accepted in it, in order"
abbrev pub joined : List Taken → List Row
joined us = lists.joined rows_of_unit us

-- the flags accepted, unit for unit
abbrev pub flag_lists : List Taken → List (List ℕ)
flag_lists us = lists.flag_lists (λ u. u.flags) us
