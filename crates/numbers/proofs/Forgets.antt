-- The walk with numbers gives the rows of the reading, and ends where the reading ends.
use Prim.Native.Nat.{ℕ, zero, suc}
use mathlib.Core.Path.{◌≡◌, refl, ap, ◌∙◌}
use mathlib.Core.Bool.{Bool, true, false}
use mathlib.Core.List.{List, [], ◌∷◌}
use Rattle.tree.specs.declared.Node.{Node}
use Rattle.tree.specs.Flags.{Choice}
use Rattle.tree.specs.Flags.{Chosen, Refused}
use Rattle.tree.specs.Kind.{Kind}
use Rattle.tree.specs.Splits.{rights_of}
use Rattle.tree.specs.Flags.{decide}
use Rattle.tree.specs.Children.{children, corner_inside}
use Rattle.tree.specs.Rows.{Row, own_rows}
use Rattle.tree.specs.Run.{End, goes, stops, Run, before, go_on, and_then, over_all}
use Rattle.tree.specs.Reading.{levels_left, enter, walk, read_node}
use Rattle.laws.proofs.Runs.{over_here, over_gone}
use Rattle.numbers.specs.Walk.{Finder}
use Rattle.numbers.specs.ByFlags.{Stand, ended, enter_numbers, walk_numbers, read_numbers}

module _ {S : Type 0} where
  -- a run without its numbers
  abbrev pub plain : Run Row (Stand S) → Run Row ℕ
  plain r = record { given = r.given; end = ended r.end }

  -- one run after another
  plain_on : (first : List Row) (end : End (Stand S)) (next : Stand S → Run Row (Stand S)) (after : ℕ → Run Row ℕ)
      → ((s : Stand S) → plain (next s) ≡ after s.at) → plain (go_on first end next) ≡ go_on first (ended end) after
  unfolding go_on before ended
  plain_on first (goes s) next after h = ap (before first) (h s)
  plain_on first (stops a b) next after h = refl

  module _ (k : Kind) (go : Node → Stand S → Run Row (Stand S)) (step : Node → ℕ → Run Row ℕ)
      (same : (n : Node) (s : Stand S) → plain (go n s) ≡ step n s.at) where
    abbrev Alike : List Node → Type 0
    Alike ns = (s : Stand S) → plain (over_all k.limits go ns s) ≡ over_all k.limits step ns s.at

    -- where the runs of each node agree, those over a list do
    pub plain_over : (ns : List Node) → Alike ns
    unfolding over_all ended
    plain_over [] s = refl
    plain_over (n ∷ ns) s = begin (corner_inside k.limits n) refl (plain_over ns)
      where
        begin : (b : Bool) → corner_inside k.limits n ≡ b → Alike ns → plain (over_all k.limits go (n ∷ ns) s) ≡ over_all k.limits step (n ∷ ns) s.at
        begin true here rest =
            rw (over_here k go n ns s here, over_here k step n ns s.at here)
            (plain_on (go n s).given (go n s).end (λ t. over_all k.limits go ns t) (λ t. over_all k.limits step ns t) rest
            ∙ ap (λ r. and_then r (λ t. over_all k.limits step ns t)) (same n s))
        begin false out rest = rw (over_gone k go n ns s out, over_gone k step n ns s.at out) (rest s)

  module _ (f : Finder S) (k : Kind) where
    plain_enter : (n : Node) (s : Stand S) (go : Node → Stand S → Run Row (Stand S)) (step : Node → ℕ → Run Row ℕ)
        → ((c : Node) (t : Stand S) → plain (go c t) ≡ step c t.at) → (c : Choice) → plain (enter_numbers f k n s go c) ≡ enter k n step c
    unfolding enter_numbers enter before ended
    plain_enter n s go step same (Refused a b) = refl
    plain_enter n s go step same (Chosen d at) = ap (before (own_rows n d)) (plain_over k go step same (children k.limits n d) _)

  module _ (f : Finder S) (k : Kind) (flags : List ℕ) where
    -- with so many levels left
    pub plain_walk : (deep : ℕ) (n : Node) (s : Stand S) → plain (walk_numbers f k deep flags n s) ≡ walk deep k flags n s.at
    unfolding walk_numbers walk ended
    plain_walk zero n s = refl
    plain_walk (suc deep) n s = plain_enter f k n s (walk_numbers f k deep flags) (walk deep k flags) (plain_walk deep) (decide (rights_of k n) flags s.at)

    -- of a node, and over a list of nodes
    pub forgets : (n : Node) (s : Stand S) → plain (read_numbers f k flags n s) ≡ read_node k flags n s.at
    forgets n s = plain_walk (levels_left n) n s

    pub forgets_over : (ns : List Node) (s : Stand S) → plain (over_all k.limits (read_numbers f k flags) ns s) ≡ over_all k.limits (read_node k flags) ns s.at
    forgets_over ns s = plain_over k (read_numbers f k flags) (read_node k flags) forgets ns s

    -- the same for rewriting: the rows, and how it ends
    pub same_rows : (n : Node) (s : Stand S) → (read_numbers f k flags n s).given ≡ (read_node k flags n s.at).given
    same_rows n s = ap (λ r. r.given) (forgets n s)

    pub same_end : (n : Node) (s : Stand S) → ended (read_numbers f k flags n s).end ≡ (read_node k flags n s.at).end
    same_end n s = ap (λ r. r.end) (forgets n s)

    pub same_rows_over : (ns : List Node) (s : Stand S) → (over_all k.limits (read_numbers f k flags) ns s).given ≡ (over_all k.limits (read_node k flags) ns s.at).given
    same_rows_over ns s = ap (λ r. r.given) (forgets_over ns s)

    pub same_end_over : (ns : List Node) (s : Stand S) → ended (over_all k.limits (read_numbers f k flags) ns s).end ≡ (over_all k.limits (read_node k flags) ns s.at).end
    same_end_over ns s = ap (λ r. r.end) (forgets_over ns s)
