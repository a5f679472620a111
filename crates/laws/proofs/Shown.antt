-- What the next row leaves of the search at a node: where it cannot be the first row of a tree, or of a decision's
-- trees, nothing is taken; so only the decisions that it shows by its depths need be tried.
use Prim.Native.Nat.{ℕ, suc, ◌+◌, ◌-◌, ◌≤◌, ◌<◌}
use mathlib.Core.Path.{◌≡◌, refl, sym, ap, ◌∙◌}
use mathlib.Core.Bool.{Bool, true, false, cond}
use mathlib.Core.List.{List, [], ◌∷◌}
use lib.ListN.{length}
use lib.Dec.{ltb, eqb}
use borrow.Author.Tests.{ltb-true, ltb-false, eqb-true, eq-eqb}
use native.Mathlib.Omega.{arith}
use Rattle.sides.proofs.Bools.{clash}
use Rattle.tree.specs.declared.Node.{Node}
use Rattle.tree.specs.declared.Share.{Share}
use Rattle.tree.specs.declared.Direction.{Direction}
use Rattle.tree.specs.declared.Direction.TheVariants.{Horizontal, Vertical}
use Rattle.tree.specs.declared.Decision.{Decision}
use Rattle.tree.specs.declared.Decision.TheVariants.{Leaf, Quad, Binary, Ternary}
use Rattle.tree.specs.Kind.{Kind}
use Rattle.tree.specs.Splits.{is_split, rights_of, allows}
use Rattle.tree.specs.Children.{share, slab, shares, child_qt, child_mtt, child, children_from, children, corner_inside}
use Rattle.tree.specs.Rows.{Row, row_of, own_rows}
use Rattle.tree.specs.Search.{Fit, whole, stuck, fit_then, better, fit_rows, fit_all, fit_by, fit_any, cuts, decisions, fit, fit_node}
use Rattle.tree.specs.Tree.{Trees, Tree, rows_of}
use Rattle.laws.specs.Directions.{corner}
use Rattle.laws.specs.Good.{Good}
use Rattle.laws.specs.Proper.{Proper}
use Rattle.laws.proofs.Leaves.{row_start}
use Rattle.laws.proofs.Tests.{never}
use Rattle.laws.proofs.Multiples.{fold_least}
use Rattle.laws.proofs.Parts.{from, every_child}
use Rattle.laws.proofs.First.{Deeper, first_row, start_same, start_there, quad_from, cut_from_lem}
use Rattle.laws.proofs.Agrees.{Agree, more, agree_short}
use Rattle.laws.proofs.Fits.{Means, none_starts}
use Rattle.laws.proofs.Search.{By, by_rows, fit_open, fit_closed, fit_by_means, tree_means}
use Rattle.laws.proofs.Tries.{Some, without, any_alone}
use Rattle.laws.proofs.FitSteps.{by_same, kids_level, fit_level}

-- ---- the first row

-- a row that can be the first of a node at these depths
pub record Starts (n : Node) (qt mtt : ℕ) (r : Row) : Type 0 where
  pub at : (e : Direction) → row_start e r ≡ corner e n
  pub depths : Deeper qt mtt r.qt r.mtt

-- a row that can be the first of a decision
abbrev pub StartsBy : Node → Decision → Row → Type 0
StartsBy n Leaf r = r ≡ row_of n
StartsBy n Quad r = Starts n (n.qt + 1) 0 r
StartsBy n (Binary d) r = Starts n n.qt (n.mtt + 1) r
StartsBy n (Ternary d) r = Starts n n.qt (n.mtt + 1) r

-- rows whose first one is such
record Led (S : Row → Type 0) (rows : List Row) : Type 0 where
  row : Row
  others : List Row
  is : rows ≡ row ∷ others
  such : S row

led_same : {S : Row → Type 0} {table : List Row} → Led S table → (r : Row) (rows : List Row) → Agree 1 (r ∷ rows) table → S r
led_same {S} l r rows a = go (rw l.is at a)
  where
    go : Agree 1 (r ∷ rows) (l.row ∷ l.others) → S r
    go (more e b) = rw e l.such

module _ (k : Kind) (n : Node) (here : corner_inside k.limits n ≡ true) where
  led_tree : (t : Tree k n) → Led (Starts n n.qt n.mtt) (rows_of t)
  led_tree t = let f = first_row t here in record { row = f.row; others = f.others; is = f.is; such = record { at = f.at; depths = f.depths } }

  led_below : (d : Decision) (p : Share) → ((e : Direction) → from e p ≡ 0) → {cs : List Node} (kids : Trees k (child k.limits n d p ∷ cs))
      → Led (Starts n (child_qt d n) (child_mtt d n)) (rows_of kids)
  unfolding child
  led_below d p zero-from kids =
      let f = first_row kids (start_there k n d p zero-from here) in
      record { row = f.row; others = f.others; is = f.is; such = record { at = λ e. f.at e ∙ start_same k n d p zero-from e; depths = f.depths } }

  led_by : (d : Decision) (t : By k n d) → Led (StartsBy n d) (by_rows k n d t)
  unfolding own_rows children children_from shares child_qt child_mtt
  led_by Leaf t = record { row = row_of n; others = rows_of t.1; is = refl; such = refl }
  led_by Quad t = led_below Quad (share 0 0 2 2 0) quad_from t.1
  led_by (Binary d) t = led_below (Binary d) (slab d 0 2 0) (cut_from_lem d 2) t.1
  led_by (Ternary d) t = led_below (Ternary d) (slab d 0 1 0) (cut_from_lem d 1) t.1

-- ---- the search

-- the decisions that a row shows by its depths: no other takes it
unfoldable pub shown : Node → Row → List Decision
shown n r = cond (ltb n.qt r.qt) (Quad ∷ []) (cond (eqb r.mtt n.mtt) (Leaf ∷ []) cuts)

module _ {k : Kind} (v : Proper k) {n : Node} (p : Good k.limits n) (here : corner_inside k.limits n ≡ true) (fits : n.w + n.h + n.qt + n.mtt ≤ 256) where
  level : n.qt + n.mtt < 256
  level = let w = fold_least (p.shape.side Vertical).fold in omega arith

  -- one split: its parts, or nothing
  by_some : (rows : List Row) (d : Decision) → Some rows (fit_by k n (fit_node k) rows d)
  by_some rows d =
      let below = fit (255 - (n.qt + n.mtt)) k in
      rw (← (by_same k below (fit_node k) n (λ d ok. every_child k n d (kids_level k n level d ok)) rows d))
      (go (fit_by k n below rows d) (fit_by_means v (255 - (n.qt + n.mtt)) n (p, let l = level in omega arith) rows d))
    where
      go : (f : Fit) → Means (by_rows k n d) rows f → Some rows f
      go (whole rest) m = tt
      go (stuck left) m = m.within

  pub any_split : (rows : List Row) (d : Decision) → is_split d ≡ true → allows (rights_of k n) d ≡ true
      → fit_any k n (fit_node k) rows (d ∷ []) ≡ fit_all k.limits (fit_node k) (children k.limits n d) rows
  unfolding own_rows fit_then fit_rows
  any_split rows d split ok = any_alone k n (fit_node k) rows d (by_some rows d) ∙ fit_open k (fit_node k) n rows d ok ∙ own d split
    where
      own : (d : Decision) → is_split d ≡ true
          → fit_then (fit_rows (own_rows n d) rows) (λ rest. fit_all k.limits (fit_node k) (children k.limits n d) rest) ≡ fit_all k.limits (fit_node k) (children k.limits n d) rows
      own Leaf e = never (sym e)
      own Quad e = refl
      own (Binary d) e = refl
      own (Ternary d) e = refl

  pub any_shut : (rows : List Row) (d : Decision) → allows (rights_of k n) d ≡ false → fit_any k n (fit_node k) rows (d ∷ []) ≡ stuck (length rows)
  any_shut rows d shut = any_alone k n (fit_node k) rows d (by_some rows d) ∙ fit_closed k (fit_node k) n rows d shut

  -- no row is left
  pub node_none : fit_node k n [] ≡ stuck 0
  node_none =
      none_starts rows_of [] (λ t. let l = led_tree k n here t in (l.row, l.others, l.is)) (λ t a. let h = agree_short a in omega arith)
      (fit_node k n []) (tree_means v _ n (p, omega arith) here [])

  module _ (r : Row) (rows : List Row) where
    -- a row that cannot be the node's first, or a decision's
    pub node_pruned : ¬ (Starts n n.qt n.mtt r) → fit_node k n (r ∷ rows) ≡ stuck (suc (length rows))
    node_pruned other =
        none_starts rows_of (r ∷ rows) (λ t. let l = led_tree k n here t in (l.row, l.others, l.is)) (λ t a. other (led_same (led_tree k n here t) r rows a))
        (fit_node k n (r ∷ rows)) (tree_means v _ n (p, omega arith) here (r ∷ rows))

    pub by_pruned : (d : Decision) → ¬ (StartsBy n d r) → fit_by k n (fit_node k) (r ∷ rows) d ≡ stuck (suc (length rows))
    by_pruned d other =
        let below = fit (255 - (n.qt + n.mtt)) k in
        rw (← (by_same k below (fit_node k) n (λ d ok. every_child k n d (kids_level k n level d ok)) (r ∷ rows) d))
        (none_starts (by_rows k n d) (r ∷ rows) (λ t. let l = led_by k n here d t in (l.row, l.others, l.is)) (λ t a. other (led_same (led_by k n here d t) r rows a))
        (fit_by k n below (r ∷ rows) d) (fit_by_means v (255 - (n.qt + n.mtt)) n (p, let l = level in omega arith) (r ∷ rows) d))

    -- only the decisions that the row shows need be tried
    abbrev Any : List Decision → Fit
    Any ds = fit_any k n (fit_node k) (r ∷ rows) ds

    out : (d : Decision) → ¬ (StartsBy n d r) → (ds : List Decision) → Any (d ∷ ds) ≡ Any ds
    out d other ds = without k n (fit_node k) (r ∷ rows) d ds (by_pruned d other)

    no_cuts : ¬ (Starts n n.qt (n.mtt + 1) r) → Any cuts ≡ Any []
    no_cuts other = out (Binary Horizontal) other _ ∙ out (Binary Vertical) other _ ∙ out (Ternary Horizontal) other _ ∙ out (Ternary Vertical) other []

    pub fit_shown : fit_node k n (r ∷ rows) ≡ fit_any k n (fit_node k) (r ∷ rows) (shown n r)
    unfolding shown fit_any row_of
    fit_shown = fit_level k n level (r ∷ rows) ∙ deeper (ltb n.qt r.qt) refl
      where
        no_leaf : ¬ ((r.qt ≡ n.qt) × (r.mtt ≡ n.mtt)) → ¬ (StartsBy n Leaf r)
        no_leaf other e = other (ap (λ r. r.qt) e, ap (λ r. r.mtt) e)

        as_deep : (b : Bool) → eqb r.mtt n.mtt ≡ b → r.qt ≤ n.qt → Any decisions ≡ Any (cond b (Leaf ∷ []) cuts)
        as_deep true e l =
            let m = eqb-true r.mtt n.mtt e in
            ap (better (fit_by k n (fit_node k) (r ∷ rows) Leaf))
            (out Quad (λ s. let q = s.depths.quad in omega arith) cuts ∙ no_cuts (λ s. let c = s.depths.cut (omega arith) in omega arith))
        as_deep false e l =
            out Leaf (no_leaf (λ h. clash (eq-eqb r.mtt n.mtt h.1) e)) (Quad ∷ cuts) ∙ out Quad (λ s. let q = s.depths.quad in omega arith) cuts

        deeper : (b : Bool) → ltb n.qt r.qt ≡ b → Any decisions ≡ Any (cond b (Quad ∷ []) (cond (eqb r.mtt n.mtt) (Leaf ∷ []) cuts))
        deeper true e =
            let l = ltb-true n.qt r.qt e in
            out Leaf (no_leaf (λ h. omega arith)) (Quad ∷ cuts)
            ∙ ap (better (fit_by k n (fit_node k) (r ∷ rows) Quad)) (no_cuts (λ s. let c = s.depths.cut (omega arith) in omega arith))
        deeper false e = as_deep (eqb r.mtt n.mtt) refl (ltb-false n.qt r.qt e)
