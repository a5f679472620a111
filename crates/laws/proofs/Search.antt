-- The result of the search at a node means what its coding trees say, in every proper kind.
use Prim.Native.Nat.{ℕ, zero, suc, ◌+◌}
use mathlib.Core.Path.{◌≡◌, refl, ap, ◌∙◌}
use mathlib.Core.Bool.{Bool, true, false}
use mathlib.Core.List.{List, [], ◌∷◌, ◌++◌, append-nil, append_cancel_left}
use mathlib.Core.Logic.{◌⊎◌, inl, inr}
use lib.ListN.{length}
use native.Mathlib.Omega.{arith}
use Rattle.sides.proofs.Bools.{clash}
use Rattle.tree.specs.declared.Node.{Node}
use Rattle.tree.specs.declared.Direction.TheVariants.{Horizontal, Vertical}
use Rattle.tree.specs.declared.Decision.{Decision}
use Rattle.tree.specs.declared.Decision.TheVariants.{Leaf, Quad, Binary, Ternary}
use Rattle.tree.specs.Kind.{Kind}
use Rattle.tree.specs.Splits.{rights_of, allows}
use Rattle.tree.specs.Children.{children, corner_inside}
use Rattle.tree.specs.Rows.{Row, own_rows}
use Rattle.tree.specs.Search.{Fit, whole, stuck, fit_then, fit_rows, fit_all, fit_by, fit_any, decisions, fit}
use Rattle.tree.specs.Tree.{Trees, Tree, none, skip, node, flags_of, rows_of}
use Rattle.laws.specs.Every.{Every, every_none, every_more}
use Rattle.laws.specs.Proper.{Proper}
use Rattle.laws.specs.Shape.{Shape}
use Rattle.laws.proofs.Runs.{gives}
use Rattle.laws.proofs.Walks.{levels}
use Rattle.laws.proofs.Backs.{back_complete}
use Rattle.laws.proofs.Grows.{Low, low_some, low_kids, some_trees}
use Rattle.laws.proofs.Fits.{Means, means_along, in_turn, then_means, either, better_means, nothing_means, rows_means}

-- ---- where a tree's rows end in rows

module _ {k : Kind} (v : Proper k) (n : Node) (sh : Shape n) (here : corner_inside k.limits n ≡ true) where
  -- no tree's table is a proper beginning of another's: rows that begin with two tables have the same rest after both
  pub rest_same : (t u : Tree k n) (a b : List Row) → rows_of t ++ a ≡ rows_of u ++ b → (flags_of t ≡ flags_of u) × (a ≡ b)
  rest_same t u a b e =
      let x = back_complete v (levels t + levels u) n sh here t (omega arith) a in
      let y = back_complete v (levels t + levels u) n sh here u (omega arith) b in
      let z : gives (flags_of t) a ≡ gives (flags_of u) b = cc in
      let w = ap (λ r. r.end) z in
      (ap (λ r. r.given) z, cc)

-- ---- the trees of a node, without the nodes after it

module _ (k : Kind) (n : Node) where
  -- those of a decision, and of any of some decisions
  abbrev pub By : Decision → Type 0
  By d = (allows (rights_of k n) d ≡ true) × Trees k (children k.limits n d)

  abbrev pub by_rows : (d : Decision) → By d → List Row
  by_rows d t = own_rows n d ++ rows_of t.1

  abbrev Any : List Decision → Type 0
  Any [] = ⊥
  Any (d ∷ ds) = By d ⊎ Any ds

  abbrev any_rows : (ds : List Decision) → Any ds → List Row
  any_rows [] t = absurd t
  any_rows (d ∷ ds) t = either (by_rows d) (any_rows ds) t

  -- with the trees of the nodes after it they are all trees
  module _ (here : corner_inside k.limits n ≡ true) {ns : List Node} where
    plant : (ds : List Decision) → Any ds → Trees k ns → Trees k (n ∷ ns)
    plant [] t rest = absurd t
    plant (d ∷ ds) (inl t) rest = node d here t.0 t.1 rest
    plant (d ∷ ds) (inr t) rest = plant ds t rest

    plant_rows : (ds : List Decision) (t : Any ds) (rest : Trees k ns) → rows_of (plant ds t rest) ≡ any_rows ds t ++ rows_of rest
    unfolding plant rows_of
    plant_rows [] t rest = absurd t
    plant_rows (d ∷ ds) (inl t) rest = refl
    plant_rows (d ∷ ds) (inr t) rest = plant_rows ds t rest

  among : (d : Decision) → By d → Any decisions
  among Leaf t = inl t
  among Quad t = inr (inl t)
  among (Binary Horizontal) t = inr (inr (inl t))
  among (Binary Vertical) t = inr (inr (inr (inl t)))
  among (Ternary Horizontal) t = inr (inr (inr (inr (inl t))))
  among (Ternary Vertical) t = inr (inr (inr (inr (inr (inl t)))))

  among_rows : (d : Decision) (t : By d) → any_rows decisions (among d t) ≡ by_rows d t
  unfolding among
  among_rows Leaf t = refl
  among_rows Quad t = refl
  among_rows (Binary Horizontal) t = refl
  among_rows (Binary Vertical) t = refl
  among_rows (Ternary Horizontal) t = refl
  among_rows (Ternary Vertical) t = refl

  -- a tree of the node, and the others
  apply : corner_inside k.limits n ≡ true → {ns : List Node} → Trees k (n ∷ ns) → Any decisions × Trees k ns
  apply here (skip out rest) = clash here out
  apply here (node d h ok kids rest) = (among d (ok, kids), rest)

  apply_rows : (here : corner_inside k.limits n ≡ true) {ns : List Node} (t : Trees k (n ∷ ns)) → any_rows decisions (apply here t).0 ++ rows_of (apply here t).1 ≡ rows_of t
  unfolding apply rows_of
  apply_rows here (skip out rest) = clash here out
  apply_rows here (node d h ok kids rest) = ap (λ r. r ++ rows_of rest) (among_rows d (ok, kids))

  unskip : corner_inside k.limits n ≡ false → {ns : List Node} → Trees k (n ∷ ns) → Trees k ns
  unskip out (skip o rest) = rest
  unskip out (node d here ok kids rest) = clash here out

  unskip_rows : (out : corner_inside k.limits n ≡ false) {ns : List Node} (t : Trees k (n ∷ ns)) → rows_of (unskip out t) ≡ rows_of t
  unfolding unskip rows_of
  unskip_rows out (skip o rest) = refl
  unskip_rows out (node d here ok kids rest) = clash here out

-- ---- the search

module _ (k : Kind) (go : Node → List Row → Fit) where
  pub fit_here : (n : Node) (ns : List Node) (rows : List Row) → corner_inside k.limits n ≡ true → fit_all k.limits go (n ∷ ns) rows ≡ fit_then (go n rows) (λ rest. fit_all k.limits go ns rest)
  unfolding fit_all
  fit_here n ns rows e = rw (e, fit_all)

  pub fit_gone : (n : Node) (ns : List Node) (rows : List Row) → corner_inside k.limits n ≡ false → fit_all k.limits go (n ∷ ns) rows ≡ fit_all k.limits go ns rows
  unfolding fit_all
  fit_gone n ns rows e = rw (e, fit_all)

  fit_one : (n : Node) (rows : List Row) → corner_inside k.limits n ≡ true → fit_all k.limits go (n ∷ []) rows ≡ go n rows
  unfolding fit_all fit_then
  fit_one n rows e = fit_here n [] rows e ∙ alone (go n rows)
    where
      alone : (f : Fit) → fit_then f (λ rest. whole rest) ≡ f
      alone (whole rest) = refl
      alone (stuck left) = refl

  pub fit_open : (n : Node) (rows : List Row) (d : Decision) → allows (rights_of k n) d ≡ true
      → fit_by k n go rows d ≡ fit_then (fit_rows (own_rows n d) rows) (λ rest. fit_all k.limits go (children k.limits n d) rest)
  unfolding fit_by
  fit_open n rows d e = rw (e, fit_by)

  pub fit_closed : (n : Node) (rows : List Row) (d : Decision) → allows (rights_of k n) d ≡ false → fit_by k n go rows d ≡ stuck (length rows)
  unfolding fit_by
  fit_closed n rows d e = rw (e, fit_by)

  -- a result over nodes means what their trees say
  abbrev pub AllMean : List Node → Type 0
  AllMean ns = (rows : List Row) → Means (λ (t : Trees k ns). rows_of t) rows (fit_all k.limits go ns rows)

  -- the decisions of a node
  module _ (n : Node) (some : (d : Decision) → allows (rights_of k n) d ≡ true → Trees k (children k.limits n d))
      (below : (d : Decision) → allows (rights_of k n) d ≡ true → AllMean (children k.limits n d)) (rows : List Row) where
    by_means : (d : Decision) → Means (by_rows k n d) rows (fit_by k n go rows d)
    by_means d = begin (allows (rights_of k n) d) refl
      where
        begin : (b : Bool) → allows (rights_of k n) d ≡ b → Means (by_rows k n d) rows (fit_by k n go rows d)
        begin true ok =
            rw (fit_open n rows d ok)
            (then_means (λ (o : allows (rights_of k n) d ≡ true). own_rows n d) rows_of (λ x u a b. append_cancel_left (own_rows n d) a b) (some d ok) rows
            (fit_rows (own_rows n d) rows) (rows_means ok (own_rows n d) rows) (fit_all k.limits go (children k.limits n d)) (below d ok))
        begin false no-right = rw (fit_closed n rows d no-right) (nothing_means (by_rows k n d) (λ t. clash t.0 no-right) rows)

    any_means : (ds : List Decision) → Means (any_rows k n ds) rows (fit_any k n go rows ds)
    unfolding fit_any
    any_means [] = nothing_means (any_rows k n []) (λ t. t) rows
    any_means (d ∷ ds) = better_means (by_rows k n d) (any_rows k n ds) rows (fit_by k n go rows d) (fit_any k n go rows ds) (by_means d) (any_means ds)

module _ {k : Kind} (v : Proper k) where
  abbrev pub Room : ℕ → Node → Type 0
  Room deep n = Low v deep n

  module _ (n : Node) (sh : Shape n) (here : corner_inside k.limits n ≡ true) where
    one_rows : (t : Any k n decisions) → rows_of (plant k n here {ns = []} decisions t none) ≡ any_rows k n decisions t
    unfolding rows_of
    one_rows t = plant_rows k n here decisions t none ∙ append-nil (any_rows k n decisions t)

    rows_apart : (t u : Any k n decisions) (a b : List Row) → any_rows k n decisions t ++ a ≡ any_rows k n decisions u ++ b → a ≡ b
    rows_apart t u a b e =
        (rest_same v n sh here (plant k n here decisions t none) (plant k n here decisions u none) a b (rw (one_rows t, one_rows u) e)).1

  -- a result at a node means what its trees say
  abbrev NodeMeans : (Node → List Row → Fit) → Node → Type 0
  NodeMeans go n = (rows : List Row) → Means (any_rows k n decisions) rows (go n rows)

  all_means : (go : Node → List Row → Fit) (deep : ℕ) → ((n : Node) → Room deep n → corner_inside k.limits n ≡ true → NodeMeans go n)
      → {ns : List Node} → Every (Room deep) ns → AllMean k go ns
  unfolding fit_all rows_of
  all_means go deep below every_none rows = (none, refl)
  all_means go deep below (every_more {a = n} {rest = ns} p ps) rows = begin (corner_inside k.limits n) refl (all_means go deep below ps)
    where
      begin : (b : Bool) → corner_inside k.limits n ≡ b → AllMean k go ns → Means (λ (t : Trees k (n ∷ ns)). rows_of t) rows (fit_all k.limits go (n ∷ ns) rows)
      begin true here later =
          rw (fit_here k go n ns rows here)
          (means_along rows_of (in_turn (any_rows k n decisions) rows_of (rows_apart n p.0.shape here) (some_trees v deep ps))
          (λ z. plant k n here decisions z.0 z.1) (λ z. plant_rows k n here decisions z.0 z.1) (apply k n here) (apply_rows k n here) rows (fit_then (go n rows) (fit_all k.limits go ns))
          (then_means (any_rows k n decisions) rows_of (rows_apart n p.0.shape here) (some_trees v deep ps) rows (go n rows) (below n p here rows) (fit_all k.limits go ns) later))
      begin false out later =
          rw (fit_gone k go n ns rows out) (means_along rows_of rows_of (skip out) (λ t. refl) (unskip k n out) (unskip_rows k n out) rows (fit_all k.limits go ns rows) (later rows))

  -- with as many levels as both sides are long together
  pub fit_means : (deep : ℕ) (n : Node) → Room deep n → corner_inside k.limits n ≡ true → NodeMeans (fit deep k) n
  unfolding fit
  fit_means zero n p here rows = low_some v p
  fit_means (suc deep) n p here rows =
      any_means k (fit deep k) n (λ d ok. some_trees v deep (low_kids v deep n p d ok))
      (λ d ok. all_means (fit deep k) deep (fit_means deep) (low_kids v deep n p d ok)) rows decisions

  -- the decision of a node
  pub fit_by_means : (deep : ℕ) (n : Node) → Room (suc deep) n → (rows : List Row) (d : Decision) → Means (by_rows k n d) rows (fit_by k n (fit deep k) rows d)
  fit_by_means deep n p rows d =
      by_means k (fit deep k) n (λ d ok. some_trees v deep (low_kids v deep n p d ok))
      (λ d ok. all_means (fit deep k) deep (fit_means deep) (low_kids v deep n p d ok)) rows d

  -- the trees of one node
  pub tree_means : (deep : ℕ) (n : Node) → Room deep n → corner_inside k.limits n ≡ true → (rows : List Row) → Means (λ (t : Tree k n). rows_of t) rows (fit deep k n rows)
  tree_means deep n p here rows = rw (fit_one k (fit deep k) n rows here) at (all_means (fit deep k) deep (fit_means deep) (every_more p every_none) rows)
