-- R-10, "Older streams in H.265", one claim: "Rows, both directions and covering are as for H.266". For H.265's settings it has demands 1, 2 and 3, and what R-4,
-- R-5, R-7 and R-14 say; the statements are those of all units and sessions, at the units of H.265 (`units_of`, h265settings/specs/Units.antt).
use Rattle.std.specs.Prelude.{ℕ, ◌+◌, ◌<◌, ◌≡◌, List, length, Ok, Err}
use Rattle.tree.specs.Rows.{Row, rows_at}
use Rattle.laws.specs.Every.{Every}
use Rattle.laws.specs.Geometry.{InOneCell, pipeline_side}
use Rattle.laws.specs.CellOrder.{CellByCell}
use Rattle.refusals.specs.Said.{Accepted}
use Rattle.unit.specs.Units.{refusal_in}
use Rattle.unit.specs.Demand2.{Exact}
use Rattle.unit.specs.Exactly.{Bytes}
use Rattle.unit.specs.Faults.{ReadFault, TurnFault, read_numbers, turn_numbers, Decides}
use Rattle.unit.specs.FlagBuffer.{Planned}
use Rattle.unit.specs.TableStops.{StopsByTrees}
use Rattle.sessions.specs.Demand.{accepted_in, joined}
use Rattle.picture.specs.State.{Call}
use Rattle.picture.specs.Lists.{rows_of_unit}
use Rattle.picture.specs.CallFaults.{Opens, UnitDue, CallFault, call_numbers}
use Rattle.h265settings.specs.declared.Settings.{Settings}
use Rattle.h265settings.specs.Faults.{settings_numbers}
use Rattle.h265settings.specs.Units.{units_of}
use Rattle.picture.specs.declared.Session.{Session}
use Rattle.h265.specs.Calls.{read_unit, write_flags}
use Rattle.picture.specs.Session.{opening, unit_call, following}
use Rattle.h265.specs.QuadNodes.{QuadNodes}
use Rattle.h265.specs.Bounds.{Bounds}
use Rattle.h265.specs.Demand3.{coding, Demand3}

-- demand 1: what is refused, with its number and place, in which order, and nothing else; a refusal leaves buffers and session as they were
pub record Refuses : Type 0 where
  -- opening: 34, 35, 7 and 8; else it yields the settings given, with address 0 due
  pub opens : (s : Settings) → Opens (units_of s) (opening units_of s) (Ok (record { settings = s; due = 0 })) Err
  -- the unit call, on every session: 22, "its session's 22 tests these four", 20, 21, then 11 to 14
  pub calls : (t : Session Settings) (c : Call)
      → Decides {Lent = Session Settings × List ℕ} (CallFault (units_of t.settings) t.due c) call_numbers (unit_call units_of t c).answer
      (t, c.buffer) (following t (unit_call units_of t c).answer, (unit_call units_of t c).buffer)
  -- on the due unit it is the reading of that unit, and an accepted one moves the due address on
  pub due_unit : (t : Session Settings) (c : Call) → UnitDue (units_of t.settings) t.due → c.address ≡ t.due
      → unit_call units_of t c ≡ read_unit t.settings t.due c.flags c.buffer
  pub moves : (t : Session Settings) (c : Call) (count : ℕ) → (unit_call units_of t c).answer ≡ Accepted count
      → following t (unit_call units_of t c).answer ≡ record { settings = t.settings; due = t.due + 1 }
  -- the reader: 34, 35, 7, 8 and 10 to 14
  pub reads : (s : Settings) (a : ℕ) (flags buffer : List ℕ)
      → Decides (ReadFault (units_of s) a flags (length buffer)) (read_numbers settings_numbers) (read_unit s a flags buffer).answer
      buffer (read_unit s a flags buffer).buffer
  -- the way back: 34, 35, 7, 8, 10, 15, 27, 28, 16 and 17
  pub turns : (s : Settings) (a : ℕ) (bytes : List ℕ) → Bytes bytes → (buffer : List ℕ)
      → Decides (TurnFault (units_of s) a bytes (length buffer)) (turn_numbers settings_numbers) (write_flags s a bytes buffer).answer
      buffer (write_flags s a bytes buffer).buffer

-- a unit that passes 34, 35, 7, 8 and 10
pub record UnitOf (s : Settings) (a : ℕ) : Type 0 where
  -- demand 2: flags become the blocks of the coding tree that they say, rows the flags of the tree that has them
  pub exact : Exact (units_of s) a
  -- R-5: where a table stops being a tree
  pub stops : StopsByTrees (units_of s) a
  -- R-7: how long a flag buffer must be, by the rows
  pub planned : Planned (units_of s) a

-- the rows of a table lie in the pipeline units, of the smaller of 64 and the CTU side, as R-14 says
abbrev pub InOrder : Settings → List Row → Type 0
InOrder s rows = CellByCell (pipeline_side s.ctu) s.width s.height rows

-- after a list of calls from a freshly opened session
pub record InPipelineUnits (s : Settings) (t : Session Settings) (calls : List Call) : Type 0 where
  -- R-4: with CTU side 16 or 32 no row leaves its pipeline unit, which is its unit; with 64 demand 3 has it
  pub own : s.ctu < 64 → Every (InOneCell (pipeline_side s.ctu)) (joined (coding s) tt (accepted_in (coding s) t calls))
  -- R-14: units arrive whole, in each unit's table and in the joined one
  pub each : Every (λ u. InOrder s (rows_of_unit u)) (accepted_in (coding s) t calls)
  pub all : InOrder s (joined (coding s) tt (accepted_in (coding s) t calls))

pub record H265 : Type 0 where
  pub nodes : QuadNodes
  pub refuses : Refuses
  pub units : (s : Settings) (a : ℕ) → refusal_in (units_of s) a ≡ 0 → UnitOf s a
  pub bounds : Bounds
  -- R-14 of an accepted reading
  pub order : (s : Settings) (a : ℕ) (flags buffer : List ℕ) (count : ℕ) → (read_unit s a flags buffer).answer ≡ Accepted count
      → InOrder s (rows_at count (read_unit s a flags buffer).buffer 0)
  pub demand3 : Demand3
  pub pipeline : (s : Settings) (t : Session Settings) → opening units_of s ≡ Ok t → (calls : List Call) → InPipelineUnits s t calls
