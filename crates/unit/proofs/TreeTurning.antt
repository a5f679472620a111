-- The way back of a whole tree's rows, where the way back of a node and the search at it are its coding trees: rows are those of a tree, or they have their fault.
use Prim.Native.Nat.{ℕ, zero, suc, ◌-◌}
use mathlib.Core.Path.{◌≡◌, refl, sym, ap, ◌∙◌}
use mathlib.Core.List.{List, [], ◌∷◌, append-nil}
use mathlib.Core.Logic.{◌⊎◌, inl, inr}
use lib.ListN.{length, length-append}
use native.Mathlib.Omega.{arith}
use Rattle.tree.specs.declared.Node.{Node}
use Rattle.tree.specs.Kind.{Kind}
use Rattle.tree.specs.Rows.{Row}
use Rattle.tree.specs.Run.{End, goes, stops}
use Rattle.tree.specs.Back.{back_node}
use Rattle.tree.specs.Search.{Fit, whole, stuck, fit_node}
use Rattle.tree.specs.Tree.{Tree, flags_of, rows_of}
use Rattle.laws.specs.Begins.{HasRows}
use Rattle.laws.proofs.Runs.{gives}
use Rattle.laws.proofs.Tests.{never}
use Rattle.laws.proofs.Turning.{TurningIsTree}
use Rattle.laws.proofs.Searching.{SearchIsTree}
use Rattle.unit.specs.Writer.{fit_end, flags_from}
use Rattle.unit.specs.Faults.{TableFault, ends_early, goes_past, leaves_trees}

-- rows of a tree, or with a fault
abbrev pub RowsTurned : Kind → Node → List Row → Type 0
RowsTurned k n rows = HasRows k n rows ⊎ ((number place : ℕ) × TableFault k n rows number place)

-- how so many rows end, by the way back and, where that stops, by the search
abbrev pub back_end : ℕ → Fit → End (List Row) → End (List Row)
back_end count f (goes []) = goes []
back_end count f (goes (r ∷ rest)) = stops 28 (count - suc (length rest))
back_end count f (stops number place) = fit_end count f

module _ {k : Kind} {n : Node} (r : TurningIsTree k n) (q : SearchIsTree k n) where
  -- the search is whole exactly where the way back goes on, so it need only be made where the way back stops
  back_whole : (rows rest : List Row) → (back_node k n rows).end ≡ goes rest → fit_node k n rows ≡ whole rest
  back_whole rows rest e = let f = r.sound rows rest e in (q.exactly rows rest).1 (f.trees, f.split)

  pub stops_stuck : (rows : List Row) {number place : ℕ} → (back_node k n rows).end ≡ stops number place → (rest : List Row) → ¬ (fit_node k n rows ≡ whole rest)
  stops_stuck rows e rest w =
      let h = (q.exactly rows rest).0 w in
      let g = ap (λ l. (back_node k n l).end) h.1 ∙ ap (λ x. x.end) (r.complete h.0 rest) in
      never (cc)

  pub end_by_back : (rows : List Row) → (flags_from k n rows).end ≡ back_end (length rows) (fit_node k n rows) (back_node k n rows).end
  unfolding flags_from fit_end
  end_by_back rows = go (back_node k n rows).end refl
    where
      go : (end : End (List Row)) → (back_node k n rows).end ≡ end → (flags_from k n rows).end ≡ back_end (length rows) (fit_node k n rows) end
      go (goes []) e = rw (back_whole rows [] e)
      go (goes (row ∷ rest)) e = rw (back_whole rows (row ∷ rest) e)
      go (stops a b) e = refl

  pub tree_turned : (t : Tree k n) → flags_from k n (rows_of t) ≡ gives (flags_of t) []
  unfolding flags_from fit_end
  tree_turned t =
      let e : back_node k n (rows_of t) ≡ gives (flags_of t) [] = rw append-nil at (r.complete t []) in
      rw (e, (q.exactly (rows_of t) []).1 (t, sym (append-nil (rows_of t))))

  module _ (rows : List Row) where
    pub fault_turned : {number place : ℕ} → TableFault k n rows number place → (flags_from k n rows).end ≡ stops number place
    unfolding flags_from fit_end
    fault_turned (ends_early g) = rw ((q.short rows).1 g)
    fault_turned (goes_past g) =
        let l = ap length g.3 ∙ length-append (rows_of g.0) (g.1 ∷ g.2) in
        rw ((q.exactly rows (g.1 ∷ g.2)).1 (g.0, g.3)) (ap (stops 28) (omega arith))
    fault_turned (leaves_trees {p = p} l) =
        let w = l.within in
        rw ((q.leaves rows p (length rows - p - 1) (omega arith)).1 l) (ap (stops 16) (omega arith))

    pub turned_or_refused : RowsTurned k n rows
    turned_or_refused = go (fit_node k n rows) refl
      where
        go : (f : Fit) → fit_node k n rows ≡ f → RowsTurned k n rows
        go (whole []) e = let h = (q.exactly rows []).0 e in inl (h.0, sym (h.1 ∙ append-nil (rows_of h.0)))
        go (whole (row ∷ rest)) e = let h = (q.exactly rows (row ∷ rest)).0 e in inr (28, _, goes_past (h.0, row, rest, h.1))
        go (stuck zero) e = inr (27, length rows, ends_early ((q.short rows).0 e))
        go (stuck (suc left)) e =
            let w = q.within rows (suc left) e in
            inr (16, length rows - suc left, leaves_trees ((q.leaves rows (length rows - suc left) left (omega arith)).0 e))
