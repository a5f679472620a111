-- Demand 3, for every coding: what holds after a list of unit calls.
use Rattle.std.specs.Prelude.{ℕ, ◌≡◌, ◌↔◌, Bool, List, length}
use Rattle.tree.specs.Splits.{bit}
use Rattle.tree.specs.Rows.{Row}
use Rattle.laws.specs.Every.{Every}
use Rattle.laws.specs.Geometry.{copies, InPipeline}
use Rattle.sessions.specs.Lists as lists
use Rattle.sessions.specs.Samples as samples
use Rattle.sessions.specs.Coding.{Coding}

module _ (g : Coding) where
  -- the units accepted in a list of calls from a session on, in order
  abbrev pub accepted_in : g.Session → List g.Call → List g.Taken
  accepted_in t calls = lists.accepted_in g.takes g.yields t calls

  -- the joined table of units, for each of a unit's tables
  abbrev pub joined : g.Table → List g.Taken → List Row
  joined i us = lists.joined (g.rows i) us

  -- the flags accepted, unit for unit
  abbrev pub flag_lists : List g.Taken → List (List ℕ)
  flag_lists us = lists.flag_lists g.flags us

  -- whether (px, py) is a sample of the picture
  abbrev pub in_picture : ℕ → ℕ → Bool
  in_picture px py = samples.is_sample g.width g.height px py

  -- whether (px, py) is a sample of one of the units
  abbrev pub in_units : List g.Taken → ℕ → ℕ → Bool
  in_units us px py = samples.in_units (λ u. g.square (g.address u)) g.width g.height us px py

  -- what holds after a list of calls from a session on, by the units accepted in it
  pub record After (t : g.Session) (calls : List g.Call) : Type 0 where
    -- every sample of the units accepted lies in exactly one row of each joined table, and no row reaches outside these
    -- samples
    pub covered : (i : g.Table) (px py : ℕ)
        → copies px py (joined i (accepted_in t calls)) ≡ bit (in_units (accepted_in t calls) px py) 1
    -- where the list completes the picture, "when it has as many accepted calls as the picture has units", they are all
    -- of its samples
    pub complete : length (accepted_in t calls) ≡ g.count → (px py : ℕ)
        → in_units (accepted_in t calls) px py ≡ in_picture px py
    -- each row lies inside one pipeline unit or consists of whole ones
    pub pipeline : (i : g.Table) → Every (InPipeline g.cell) (joined i (accepted_in t calls))
    -- the rows of every unit accepted, turned back into any buffer that is long enough, give its flags
    pub back : Every g.TurnsBack (accepted_in t calls)
    -- two lists have equal joined tables, in each of a unit's tables, exactly when they had equally many units
    -- accepted, with equal flags, unit for unit
    pub legible : (others : List g.Call)
        → ((i : g.Table) → joined i (accepted_in t calls) ≡ joined i (accepted_in t others))
        ↔ (flag_lists (accepted_in t calls) ≡ flag_lists (accepted_in t others))
