-- Lists of unit calls, each on the session that the one before it yielded, and what the units accepted in them leave
-- together. Over any sessions, calls and accepted units.
use Rattle.std.specs.Prelude.{ℕ, List, [], ◌∷◌, ◌++◌}
use Rattle.std.proofs.Math.Option.{Option, none, some}
use Rattle.tree.specs.Rows.{Row}

-- the unit that a call accepted, if it did, before the units accepted later
abbrev pub prepend : {Taken : Type 0} → Option Taken → List Taken → List Taken
prepend none later = later
prepend (some u) later = u ∷ later

-- The units accepted in a list of calls from a session on, in order. `takes` is the unit that a call on a session
-- accepts, none where the call is refused; `yields` is the session that it yields, and the next call is on that.
module _ {Session Call Taken : Type 0} where
  unfoldable pub accepted_in : (takes : Session → Call → Option Taken) (yields : Session → Call → Session) → Session
      → List Call → List Taken
  accepted_in takes yields t [] = []
  accepted_in takes yields t (c ∷ calls) = prepend (takes t c) (accepted_in takes yields (yields t c) calls)

module _ {Taken : Type 0} where
  -- "The joined table of a list of unit calls is the rows of all units accepted in it, in order"
  unfoldable pub joined : (rows : Taken → List Row) → List Taken → List Row
  joined rows [] = []
  joined rows (u ∷ us) = rows u ++ joined rows us

  -- the flags accepted, unit for unit
  unfoldable pub flag_lists : (flags : Taken → List ℕ) → List Taken → List (List ℕ)
  flag_lists flags [] = []
  flag_lists flags (u ∷ us) = flags u ∷ flag_lists flags us
