-- The reading of a node is its coding tree: it accepts exactly the flags of its trees, with the rows of these trees; flags say one tree at most; and
-- what it does not accept it refuses with 11 or 12, within the flags of a tree.
use Prim.Native.Nat.{ℕ, ◌+◌, ◌≤◌}
use mathlib.Core.Path.{◌≡◌, sym, ap, ◌∙◌}
use mathlib.Core.Bool.{true}
use mathlib.Core.List.{List, [], ◌∷◌}
use mathlib.Core.Logic.{◌↔◌}
use lib.ListN.{length}
use native.Mathlib.Omega.{arith}
use Rattle.tree.specs.declared.Node.{Node}
use Rattle.tree.specs.Kind.{Kind}
use Rattle.tree.specs.Children.{corner_inside}
use Rattle.tree.specs.Rows.{Row}
use Rattle.tree.specs.Run.{stops}
use Rattle.tree.specs.Reading.{levels_left, walk, read_node}
use Rattle.tree.specs.Tree.{Tree, flags_of}
use Rattle.laws.specs.Every.{every_none, every_more}
use Rattle.laws.specs.Proper.{Proper}
use Rattle.laws.specs.Good.{Good}
use Rattle.laws.proofs.Bytes.{Reads}
use Rattle.laws.proofs.Runs.{gives, over_one}
use Rattle.laws.proofs.Walks.{walk_all, Grown, walk_complete, walk_sound}
use Rattle.laws.proofs.Halts.{Halted, walk_halted}
use Rattle.laws.proofs.Levels.{levels_left_lem}
use Rattle.laws.proofs.Unique.{alone}

pub record ReadingIsTree (k : Kind) (n : Node) : Type 0 where
  pub exactly : (flags : List ℕ) (at : ℕ) (rows : List Row) (to : ℕ) → read_node k flags n at ≡ gives rows to ↔ Grown k flags (n ∷ []) at rows to
  pub only : (flags : List ℕ) (t u : Tree k n) (at to end : ℕ) → Reads flags at (flags_of t) to → Reads flags at (flags_of u) end → (t ≡ u) × (to ≡ end)
  pub halted : (flags : List ℕ) (at a p : ℕ) → at ≤ length flags → (read_node k flags n at).end ≡ stops a p → Halted k flags (n ∷ []) at a p

module _ {k : Kind} {n : Node} (v : Proper k) (g : Good k.limits n) (here : corner_inside k.limits n ≡ true) (fits : n.w + n.h + n.qt + n.mtt ≤ 256) where
  one : (flags : List ℕ) (at : ℕ) → walk_all k flags (levels_left n) (n ∷ []) at ≡ read_node k flags n at
  one flags at = over_one k (walk (levels_left n) k flags) n at here

  grown : (flags : List ℕ) (at : ℕ) (rows : List Row) (to : ℕ) → read_node k flags n at ≡ gives rows to → Grown k flags (n ∷ []) at rows to
  grown flags at rows to e =
      rw (ap (λ r. r.given) (one flags at ∙ e)) at (walk_sound k flags v (levels_left n) (every_more g every_none) at to (ap (λ r. r.end) (one flags at ∙ e)))

  given : (flags : List ℕ) (at : ℕ) (rows : List Row) (to : ℕ) → Grown k flags (n ∷ []) at rows to → read_node k flags n at ≡ gives rows to
  given flags at rows to t =
      sym (one flags at) ∙ walk_complete k flags (levels_left n) t.trees (levels_left_lem v n g.shape fits t.trees) t.reads ∙ ap (λ r. gives r to) t.same

  pub reading_is_tree : ReadingIsTree k n
  reading_is_tree = record {
    exactly = λ flags at rows to. (grown flags at rows to, given flags at rows to);
    only = λ flags t. alone flags t;
    halted = λ flags at a p l e.
        walk_halted k flags v (levels_left n) (every_more (g, omega arith) every_none) at a p l (ap (λ r. r.end) (one flags at) ∙ e);
  }
