-- The units accepted in a list of calls are those of addresses that follow each other, read as their trees.
use Prim.Native.Nat.{ℕ}
use mathlib.Core.Path.{◌≡◌, refl}
use mathlib.Core.List.{List, [], ◌∷◌}
use mathlib.Core.Option.{Option, none, some}
use Rattle.sessions.specs.Lists as lists
use Rattle.sessions.specs.Coding.{Coding}
use Rattle.sessions.specs.Demand.{accepted_in}
use Rattle.sessions.proofs.Laws.{UnitTrees, UnitRead, Laws}

-- units of addresses that follow each other
pub data Units (g : Coding) (trees : UnitTrees g) (next : ℕ → ℕ) : ℕ → List g.Taken → Type 0 where
  no_units : {a : ℕ} → Units g trees next a []
  a_unit : {a : ℕ} {u : g.Taken} {us : List g.Taken} → UnitRead g trees a u → Units g trees next (next a) us
      → Units g trees next a (u ∷ us)

module _ {g : Coding} {first : ℕ} {next : ℕ → ℕ} {Due : ℕ → g.Session → Type 0} (l : Laws g first next Due) where
  -- the unit at an address, read; the units from an address on, read
  abbrev pub Read : ℕ → g.Taken → Type 0
  Read a u = UnitRead g l.trees a u

  abbrev pub ReadFrom : ℕ → List g.Taken → Type 0
  ReadFrom a us = Units g l.trees next a us

  one_call : {a : ℕ} {t : g.Session} → Due a t → (c : g.Call) (later : List g.Taken)
      → ((b : ℕ) → Due b (g.yields t c) → ReadFrom b later) → (o : Option g.Taken) → g.takes t c ≡ o
      → ReadFrom a (lists.prepend o later)
  one_call d c later rest none e = rest _ (l.calls.stays d c e)
  one_call d c later rest (some u) e = a_unit (l.calls.reads d c e) (rest _ (l.calls.moves d c e))

  pub accepted_units : {a : ℕ} {t : g.Session} → Due a t → (calls : List g.Call) → ReadFrom a (accepted_in g t calls)
  unfolding lists.accepted_in
  accepted_units d [] = no_units
  accepted_units {a = a} {t = t} d (c ∷ calls) = one_call d c _ (λ b e. accepted_units {a = b} e calls) (g.takes t c) refl
