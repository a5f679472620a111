-- The way back of one node, by what the rows ahead decide: what the code of a walk asks of its callees, and what it gives, for nodes inside the picture and
-- for nodes that are out.
use Prim.Native.Nat.{ℕ, ◌+◌, ◌/◌, ◌≤◌}
use mathlib.Core.Path.{◌≡◌, refl, sym, ap, ap₂, subst, ◌∙◌}
use mathlib.Core.Bool.{true, false}
use mathlib.Core.List.{List, [], ◌∷◌}
use native.Mathlib.Omega.{arith}
use lib.ListN.{length}
use Rattle.tree.specs.declared.Node.{Node}
use Rattle.tree.specs.declared.Decision.{Decision}
use Rattle.tree.specs.declared.Decision.TheVariants.{Leaf}
use Rattle.tree.specs.Kind.{Kind}
use Rattle.tree.specs.Splits.{is_split, Rights, rights_of, allows}
use Rattle.tree.specs.Flags.{flags_for}
use Rattle.tree.specs.Children.{children, corner_inside}
use Rattle.tree.specs.Rows.{Row, row_at}
use Rattle.tree.specs.Run.{before}
use Rattle.tree.specs.Back.{decision_from, back_node}
use Rattle.laws.proofs.BackSteps.{back_none, back_closed, back_leaf, back_split_lem}
use Rattle.nodes.specs.State.{refusal, place_of, given_of}
use Rattle.walks.specs.Stands.{Word, Placed}
use Rattle.walks.specs.Walks.{walk_over, Done, Walked}
use Rattle.walks.proofs.One.{Stored, Case, each_case, one_refused, one_done}
use Rattle.walks.proofs.RowFields.{shallow}
use Rattle.walks.proofs.Split.{Turn}
use Rattle.marks.specs.Table.{rows_left, Left}
use Rattle.marks.specs.Marks.{cells_before}
use Rattle.back.specs.Walking.{back_way}
use Rattle.marks.proofs.NextRows.{no_row, next_row, after_row}

-- ---- one node

-- a node that begins inside the picture, and what the rows from a place on decide
pub record Seen (k : Kind) (n : Node) (bytes : List ℕ) (at : ℕ) (d : Decision) : Type 0 where
  pub placed : Placed k.limits n
  pub here : corner_inside k.limits n ≡ true
  pub decides : decision_from k.limits n (row_at bytes at) (rows_left bytes (at / 8 + 1)) ≡ d

module _ {bytes : List ℕ} (k : Kind) (n : Node) {c : ℕ} {rows : List Row} (l : Left bytes (place_of c) rows) {b : List ℕ} where
  -- no row is left
  done_none : corner_inside k.limits n ≡ true → Placed k.limits n → length bytes ≤ place_of c → Done (back_way bytes) (walk_over (back_way bytes) k (n ∷ []) rows) c b (refusal 16 0) b
  done_none here p h = one_refused (back_way bytes) refl k n rows c b here (ap (back_node k n) (no_row l h) ∙ back_none k n (shallow p))

  module _ {d : Decision} (s : Seen k n bytes (place_of c) d) (more : place_of c + 8 ≤ length bytes) where
    done_closed : allows (rights_of k n) d ≡ false → Done (back_way bytes) (walk_over (back_way bytes) k (n ∷ []) rows) c b (refusal 16 0) b
    done_closed shut = one_refused (back_way bytes) refl k n rows c b s.here (ap (back_node k n) (next_row l more) ∙ back_closed k n (shallow s.placed) _ _ s.decides shut)

    done_leaf : d ≡ Leaf → allows (rights_of k n) Leaf ≡ true → {r : ℕ} {z : List ℕ} → place_of r ≡ place_of c + 8 → given_of r ≡ given_of c + length (flags_for (rights_of k n) Leaf)
        → Stored (back_way bytes) c b (flags_for (rights_of k n) Leaf) z → Done (back_way bytes) (walk_over (back_way bytes) k (n ∷ []) rows) c b r z
    done_leaf leaf ok {r} place count put =
        one_done (back_way bytes) refl k n rows c b s.here (ap (back_node k n) (next_row l more) ∙ back_leaf k n (shallow s.placed) _ _ (s.decides ∙ leaf) ok) count
        (subst (λ (p : ℕ). Left bytes p (rows_left bytes (place_of c / 8 + 1))) (sym place) (after_row l more)) put

-- ---- what the code knows: some node that its numbers stand for, and the same for all such nodes

module _ (bytes : List ℕ) (stands : Kind → Node → Word → Type 0) (u : List ℕ) (c : ℕ) (w : Word) where
  abbrev pub At : Kind → Node → List Row → Type 0
  At k n rows = Case (back_way bytes) stands u c w k n rows

  -- what the rows decide at every such node, and its rights
  pub record Sees (rights : Rights) (d : Decision) : Type 0 where
    pub seen : {k : Kind} {n : Node} {rows : List Row} → At k n rows → Seen k n bytes (place_of c) d
    pub rights_of_lem : {k : Kind} {n : Node} {rows : List Row} → At k n rows → rights_of k n ≡ rights

  pub walked_none : ((k : Kind) (n : Node) (rows : List Row) → At k n rows → (corner_inside k.limits n ≡ true) × Placed k.limits n) → length bytes ≤ place_of c
      → {b : List ℕ} → Walked (back_way bytes) stands u c (w ∷ []) b (refusal 16 0) b
  walked_none f h = each_case (back_way bytes) stands u c w (λ k n rows at. done_none k n at.placed (f k n rows at).0 (f k n rows at).1 h)

  module _ (more : place_of c + 8 ≤ length bytes) where
    pub walked_closed : ((k : Kind) (n : Node) (rows : List Row) → At k n rows → (d : Decision) × Seen k n bytes (place_of c) d × (allows (rights_of k n) d ≡ false))
        → {b : List ℕ} → Walked (back_way bytes) stands u c (w ∷ []) b (refusal 16 0) b
    walked_closed f = each_case (back_way bytes) stands u c w (λ k n rows at. let q = f k n rows at in done_closed k n at.placed q.1 more q.2)

    module _ {rights : Rights} {d : Decision} (sees : Sees rights d) (ok : allows rights d ≡ true) where
      -- what is allowed, and the flags that say it, by the rights of the code
      allowed : {k : Kind} {n : Node} {rows : List Row} → At k n rows → allows (rights_of k n) d ≡ true
      allowed at = ap (λ r. allows r d) (sees.rights_of_lem at) ∙ ok

      module _ {b mid : List ℕ} {m : ℕ} (put : Stored (back_way bytes) c b (flags_for rights d) mid) (count : given_of m ≡ given_of c + length (flags_for rights d)) where
        pub walked_leaf : d ≡ Leaf → place_of m ≡ place_of c + 8 → Walked (back_way bytes) stands u c (w ∷ []) b m mid
        walked_leaf leaf place = each_case (back_way bytes) stands u c w (λ k n rows at.
            let e : flags_for rights d ≡ flags_for (rights_of k n) Leaf = ap (λ r. flags_for r d) (sym (sees.rights_of_lem at)) ∙ ap (flags_for (rights_of k n)) leaf in
            done_leaf k n at.placed (sees.seen at) more leaf (ap (allows (rights_of k n)) (sym leaf) ∙ allowed at) place
            (count ∙ ap (λ fs. given_of c + length fs) e) (subst (λ fs. Stored (back_way bytes) c b fs mid) e put))

        -- a split
        pub turned : place_of m ≡ place_of c → is_split d ≡ true → (k : Kind) (n : Node) (rows : List Row) → At k n rows → Turn (back_way bytes) c d b m mid k n rows
        turned place split k n rows at =
            let s = sees.seen at in
            let long = ap (λ r. length (flags_for r d)) (sees.rights_of_lem at) in
            record {
              here = s.here;
              ok = allowed at;
              own = flags_for rights d;
              state = rows;
              goes_on =
                  ap (back_node k n) (next_row at.placed more) ∙ back_split_lem k n (shallow s.placed) _ _ s.decides (allowed at) split
                  ∙ ap₂ (λ r left. before (flags_for r d) (walk_over (back_way bytes) k (children k.limits n d) left)) (sees.rights_of_lem at) (sym (next_row at.placed more));
              at = subst (λ (p : ℕ). Left bytes p rows) (sym place) at.placed;
              count = count;
              put = put;
              rows = ap (λ (p : ℕ). cells_before bytes (p / 8)) place;
              flags = omega arith;
            }
