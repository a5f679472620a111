-- What is shown of a coding, so that demand 3 follows for it.
use Prim.Native.Nat.{ℕ, ◌<◌}
use mathlib.Core.Path.{◌≡◌}
use mathlib.Core.Bool.{Bool, true}
use mathlib.Core.List.{List}
use mathlib.Core.Option.{none, some}
use Rattle.tree.specs.Splits.{bit}
use Rattle.laws.specs.Every.{Every}
use Rattle.sessions.specs.Samples.{in_square}
use Rattle.sessions.specs.Coding.{Coding}
use Rattle.sessions.specs.Forest.{UnitPart, Forest, forest_flags, forest_rows, root_copies}
use Rattle.sessions.proofs.Order.{Order}
use Rattle.sessions.proofs.Tiling.{Tiling}
use Rattle.sessions.proofs.Forests.{GoodPart}

module _ (g : Coding) where
  -- The trees of the units: the parts of each address, in the order of their flags, and which table is which. In each
  -- table the roots fill the unit's square once.
  pub record UnitTrees : Type 0 where
    pub same : g.Table → g.Table → Bool
    pub itself : (i : g.Table) → same i i ≡ true
    pub some_table : g.Table
    pub parts : ℕ → List (UnitPart g.Table)
    pub good : (a : ℕ) → a < g.count → Every (GoodPart g.width g.height g.cell) (parts a)
    pub fill : (i : g.Table) (a px py : ℕ) → root_copies same i (parts a) px py ≡ bit (in_square (g.square a) px py) 1

  -- An accepted unit is the one at an address: its flags are those of trees of its parts, its tables have the rows of
  -- these trees, and they are turned back.
  pub record UnitRead (trees : UnitTrees) (a : ℕ) (u : g.Taken) : Type 0 where
    pub there : a < g.count
    pub at : g.address u ≡ a
    pub forest : Forest (trees.parts a)
    pub said : forest_flags forest ≡ g.flags u
    pub rows : (i : g.Table) → g.rows i u ≡ forest_rows trees.same i forest
    pub back : g.TurnsBack u

  -- A call on a session at which an address is due: a refused one leaves it due, an accepted one read the unit there,
  -- and the address that follows is due.
  pub record CallLaws (trees : UnitTrees) (next : ℕ → ℕ) (Due : ℕ → g.Session → Type 0) : Type 0 where
    pub stays : {a : ℕ} {t : g.Session} → Due a t → (c : g.Call) → g.takes t c ≡ none → Due a (g.yields t c)
    pub reads : {a : ℕ} {t : g.Session} → Due a t → (c : g.Call) {u : g.Taken} → g.takes t c ≡ some u
        → UnitRead trees a u
    pub moves : {a : ℕ} {t : g.Session} → Due a t → (c : g.Call) {u : g.Taken} → g.takes t c ≡ some u
        → Due (next a) (g.yields t c)

  -- by the address that is due first, the one that follows each, and when an address is due at a session
  pub record Laws (first : ℕ) (next : ℕ → ℕ) (Due : ℕ → g.Session → Type 0) : Type 0 where
    pub order : Order g.count first next
    pub tiling : Tiling g.width g.height g.count g.square
    pub trees : UnitTrees
    pub calls : CallLaws trees next Due
