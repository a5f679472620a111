-- Demand 1, one claim about the four calls: "Refused first: settings outside H.266's ranges, a unit that doesn't exist or
-- isn't due, flags that end early, run over or are no flags, rows that no tree gives, a lent buffer that is too short.
-- Each refusal has its number and place from document 01 and leaves every buffer and the session unchanged. Everything
-- else is accepted, for all input, and each call ends." That each call ends is part of every proved contract.
use Rattle.std.specs.Prelude.{ℕ, ◌+◌, ◌≡◌, List, length, Ok, Err}
use Rattle.settings.specs.declared.Settings.{Settings}
use Rattle.settings.specs.Faults.{settings_numbers}
use Rattle.refusals.specs.Said.{Accepted}
use Rattle.unit.specs.Luma.{units_of}
use Rattle.unit.specs.Reader.{read_unit}
use Rattle.unit.specs.Writer.{write_flags}
use Rattle.unit.specs.Exactly.{Bytes}
use Rattle.unit.specs.Faults.{ReadFault, TurnFault, read_numbers, turn_numbers, Decides}
use Rattle.picture.specs.declared.Session.{Session}
use Rattle.picture.specs.State.{Call}
use Rattle.picture.specs.CallFaults.{Opens, UnitDue, CallFault, call_numbers}
use Rattle.picture.specs.Session.{opening, unit_call, following}

-- a session and a row buffer, before a unit call and after it
abbrev pub call_decides : Session Settings → Call → Type 0
call_decides t c =
    Decides {Lent = Session Settings × List ℕ} (CallFault (units_of t.settings) t.due c) call_numbers (unit_call units_of t c).answer
    (t, c.buffer) (following t (unit_call units_of t c).answer, (unit_call units_of t c).buffer)

pub record Demand1 : Type 0 where
  -- "Opening a session uses 1 to 9": it yields the settings given, with address 0 due, or their fault's number
  pub opens : (s : Settings) → Opens (units_of s) (opening units_of s) (Ok (record { settings = s; due = 0 })) Err
  -- the unit call, on every session, also one that no opening yielded
  pub calls : (t : Session Settings) (c : Call) → call_decides t c
  -- on the due unit it is the reading of that unit, the whole buffer included
  pub due_unit : (t : Session Settings) (c : Call) → UnitDue (units_of t.settings) t.due → c.address ≡ t.due
      → unit_call units_of t c ≡ read_unit t.settings t.due c.flags c.buffer
  -- "An accepted unit yields the next session, with the same settings and the following address due"
  pub moves : (t : Session Settings) (c : Call) (count : ℕ) → (unit_call units_of t c).answer ≡ Accepted count
      → following t (unit_call units_of t c).answer ≡ record { settings = t.settings; due = t.due + 1 }
  -- a single unit's reader
  pub reads : (s : Settings) (a : ℕ) (flags buffer : List ℕ)
      → Decides (ReadFault (units_of s) a flags (length buffer)) (read_numbers settings_numbers) (read_unit s a flags buffer).answer
      buffer (read_unit s a flags buffer).buffer
  -- the way back; row bytes are bytes by the type `&[u8]`
  pub turns : (s : Settings) (a : ℕ) (bytes : List ℕ) → Bytes bytes → (buffer : List ℕ)
      → Decides (TurnFault (units_of s) a bytes (length buffer)) (turn_numbers settings_numbers) (write_flags s a bytes buffer).answer
      buffer (write_flags s a bytes buffer).buffer
