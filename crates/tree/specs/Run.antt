-- A run over nodes, one after the other: the reading of flags and the way back are two of them.
use Rattle.std.specs.Prelude.{ℕ, true, false, List, [], ◌∷◌, ◌++◌}
use Rattle.tree.specs.declared.Node.{Node}
use Rattle.tree.specs.declared.Limits.{Limits}
use Rattle.tree.specs.Children.{corner_inside}

-- how a run ends: it goes on from a state, or stops with a refusal's number and place
pub data End (S : Type 0) : Type 0 where
  goes : S → End S
  stops : ℕ → ℕ → End S

-- what a run has given when it ends, also where it stops, and how it ends
pub record Run (A S : Type 0) : Type 0 where
  pub given : List A
  pub end : End S

module _ {A S : Type 0} where
  abbrev pub refuse : ℕ → ℕ → Run A S
  refuse k p = record { given = []; end = stops k p }

  -- so much first, then a run
  unfoldable pub before : List A → Run A S → Run A S
  before first r = record { given = first ++ r.given; end = r.end }

  -- "a child's refusal ends the whole unit with that number and place"; else the next run goes on from where the first ended
  unfoldable pub go_on : List A → End S → (S → Run A S) → Run A S
  go_on first (goes s) next = before first (next s)
  go_on first (stops k p) next = record { given = first; end = stops k p }

  abbrev pub and_then : Run A S → (S → Run A S) → Run A S
  and_then r next = go_on r.given r.end next

  -- one node after the other; a node whose corner is outside the picture is skipped
  unfoldable pub over_all : Limits → (Node → S → Run A S) → List Node → S → Run A S
  over_all l go [] s = record { given = []; end = goes s }
  over_all l go (n ∷ ns) s = elim (corner_inside l n) [ true ↦ and_then (go n s) (λ t. over_all l go ns t) | false ↦ over_all l go ns s ]
