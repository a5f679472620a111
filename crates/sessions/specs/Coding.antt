-- What demand 3 speaks of: the calls of a session, the units accepted by them, and the picture. A coding is this for
-- one choice of a session's settings; opening, the settings and their refusals are the session's own. `After`
-- (Demand.antt) says no more than the coding lets it say: `takes`, `rows` and `TurnsBack` are part of the claim.
use Rattle.std.specs.Prelude.{ℕ, List}
use Rattle.std.proofs.Math.Option.{Option}
use Rattle.settings.specs.declared.Square.{Square}
use Rattle.tree.specs.Rows.{Row}

pub record Coding : Type 1 where
  pub Session : Type 0
  -- a unit call
  pub Call : Type 0
  -- an accepted unit, as its call left it
  pub Taken : Type 0
  -- "A call is accepted when its answer is no refusal": the unit that a call on a session accepts, if it does
  pub takes : Session → Call → Option Taken
  -- the session that a call on a session yields
  pub yields : Session → Call → Session
  -- the tables that a unit's rows go to: greyscale has one
  pub Table : Type 0
  -- of an accepted unit: its address, its flags, its rows in each table, and the claim that turning these back into any
  -- buffer that is long enough gives the flags
  pub address : Taken → ℕ
  pub flags : Taken → List ℕ
  pub rows : Table → Taken → List Row
  pub TurnsBack : Taken → Type 0
  -- the picture: its sides, the number of its units, the square of each, and the side of the pipeline units
  pub width : ℕ
  pub height : ℕ
  pub count : ℕ
  pub square : ℕ → Square
  pub cell : ℕ
