-- The search at a node is its coding trees: it is whole exactly where the rows begin with all rows of a tree, and else it
-- is stuck after the most rows with which the rows of a tree begin.
use Prim.Native.Nat.{ℕ, suc, ◌+◌, ◌-◌, ◌≤◌, ◌<◌}
use mathlib.Core.Path.{◌≡◌, refl, sym, ap, ◌∙◌}
use mathlib.Core.Bool.{true}
use mathlib.Core.List.{List, [], ◌∷◌, ◌++◌, append-nil, append_assoc}
use mathlib.Core.Logic.{◌↔◌}
use lib.ListN.{length}
use native.Mathlib.Omega.{arith}
use native.Mathlib.Decide.{dec_lt}
use Rattle.tree.specs.declared.Node.{Node}
use Rattle.tree.specs.Kind.{Kind}
use Rattle.tree.specs.Children.{corner_inside}
use Rattle.tree.specs.Rows.{Row}
use Rattle.tree.specs.Reading.{levels_left}
use Rattle.tree.specs.Search.{Fit, whole, stuck, fit_node}
use Rattle.tree.specs.Tree.{Tree, rows_of}
use Rattle.laws.specs.Begins.{GoesOn, LeavesAt}
use Rattle.laws.specs.Good.{Good}
use Rattle.laws.specs.Proper.{Proper}
use Rattle.laws.proofs.Tests.{never}
use Rattle.laws.proofs.Unique.{tree_unique}
use Rattle.laws.proofs.Agrees.{Agree, start, agree_short, agree_less, agree_begins, begins_agree, agree_all, agree_self}
use Rattle.laws.proofs.Grows.{some_tree}
use Rattle.laws.proofs.Fits.{Means}
use Rattle.laws.proofs.Search.{rest_same, tree_means}

-- The rows begin with all rows of no tree; they agree with a tree's rows in their first p, and with none in more of them.
record Astray (k : Kind) (n : Node) (rows : List Row) (p : ℕ) : Type 0 where
  tree : Tree k n
  agrees : Agree p rows (rows_of tree)
  most : (t : Tree k n) (q : ℕ) → Agree q rows (rows_of t) → q ≤ p
  none : (t : Tree k n) (rest : List Row) → ¬ (rows ≡ rows_of t ++ rest)

pub record SearchIsTree (k : Kind) (n : Node) : Type 0 where
  pub some : Tree k n
  pub exactly : (rows rest : List Row) → (fit_node k n rows ≡ whole rest) ↔ ((t : Tree k n) × (rows ≡ rows_of t ++ rest))
  pub within : (rows : List Row) (left : ℕ) → fit_node k n rows ≡ stuck left → left ≤ length rows
  pub leaves : (rows : List Row) (p left : ℕ) → p + suc left ≡ length rows → (fit_node k n rows ≡ stuck (suc left)) ↔ LeavesAt k n rows p
  pub short : (rows : List Row) → (fit_node k n rows ≡ stuck 0) ↔ GoesOn k n rows
  pub apart : (t u : Tree k n) (a b : List Row) → rows_of t ++ a ≡ rows_of u ++ b → (t ≡ u) × (a ≡ b)

-- in every proper kind
module _ {k : Kind} (v : Proper k) {n : Node} (good : Good k.limits n) (here : corner_inside k.limits n ≡ true) (fits : n.w + n.h + n.qt + n.mtt ≤ 256) where
  means : (rows : List Row) → Means (λ (t : Tree k n). rows_of t) rows (fit_node k n rows)
  means rows = tree_means v (levels_left n) n (good, omega arith) here rows

  same_end : (t u : Tree k n) (a b : List Row) → rows_of t ++ a ≡ rows_of u ++ b → (t ≡ u) × (a ≡ b)
  same_end t u a b e = let h = rest_same v n good.shape here t u a b e in (tree_unique t u h.0, h.1)

  module _ (rows : List Row) where
    begins : (rest : List Row) (f : Fit) → Means (λ (t : Tree k n). rows_of t) rows f → f ≡ whole rest → (t : Tree k n) × (rows ≡ rows_of t ++ rest)
    begins rest (whole left) m e = let i : left ≡ rest = cc in (m.0, rw (← i) m.1)
    begins rest (stuck left) m e = never (cc)

    taken : (rest : List Row) (f : Fit) → Means (λ (t : Tree k n). rows_of t) rows f → (t : Tree k n) × (rows ≡ rows_of t ++ rest) → f ≡ whole rest
    taken rest (whole left) m t = ap whole (same_end m.0 t.0 left rest (sym m.1 ∙ t.1)).1
    taken rest (stuck left) m t = absurd (m.none t.0 rest t.1)

    strays : (p left : ℕ) → p + left ≡ length rows → (f : Fit) → Means (λ (t : Tree k n). rows_of t) rows f → f ≡ stuck left → Astray k n rows p
    strays p left e (whole rest) m i = never (cc)
    strays p left e (stuck least) m i = go (dec_lt least (length rows)) (let j : least ≡ left = cc in j)
      where
        most : least ≡ left → (t : Tree k n) (q : ℕ) → Agree q rows (rows_of t) → q ≤ p
        most j t q a = let h = m.most t a in omega arith

        go : Dec (least < length rows) → least ≡ left → Astray k n rows p
        go (yes l) j = let h = m.far l in let z : length rows - least ≡ p = omega arith in record { tree = h.0; agrees = rw z at h.1; most = most j; none = m.none }
        go (no l) j = let z : p ≡ 0 = let w = m.within in omega arith in record { tree = some_tree v n good; agrees = rw z start; most = most j; none = m.none }

    stays : (p left : ℕ) → p + left ≡ length rows → (f : Fit) → Means (λ (t : Tree k n). rows_of t) rows f → Astray k n rows p → f ≡ stuck left
    stays p left e (whole rest) m a = absurd (a.none m.0 rest m.1)
    stays p left e (stuck least) m a =
        let w = m.within in
        let b = strays (length rows - least) least (omega arith) (stuck least) m refl in
        let c = a.most b.tree (length rows - least) b.agrees in
        let d = b.most a.tree p a.agrees in
        ap stuck (omega arith)

    bounded : (left : ℕ) (f : Fit) → Means (λ (t : Tree k n). rows_of t) rows f → f ≡ stuck left → left ≤ length rows
    bounded left (whole rest) m i = never (cc)
    bounded left (stuck least) m i = let j : least ≡ left = cc in rw (← j) m.within

    -- ---- rows that leave all trees before their end

    left_at : (p : ℕ) → p < length rows → Astray k n rows p → LeavesAt k n rows p
    left_at p l a = record {
      none_whole = a.none;
      begins = let h = agree_begins a.agrees in (a.tree, h.0, h.1);
      within = l;
      no_further = λ b. let h = a.most b.0 (p + 1) (begins_agree (p + 1) rows b.1 (omega arith) b.2) in omega arith;
    }

    gone_astray : (p : ℕ) → LeavesAt k n rows p → Astray k n rows p
    gone_astray p b = record {
      tree = b.begins.0;
      agrees = let l = b.within in begins_agree p rows b.begins.1 (omega arith) b.begins.2;
      most = λ t q a. most t q a (dec_lt p q);
      none = b.none_whole;
    }
      where
        most : (t : Tree k n) (q : ℕ) → Agree q rows (rows_of t) → Dec (p < q) → q ≤ p
        most t q a (yes h) = let g = agree_begins (agree_less (p + 1) a (omega arith)) in absurd (b.no_further (t, g.0, g.1))
        most t q a (no h) = omega arith

    -- ---- rows that leave no tree before their end

    longer : (t : Tree k n) → ((rest : List Row) → ¬ (rows ≡ rows_of t ++ rest)) → (more : List Row) → rows_of t ≡ rows ++ more → GoesOn k n rows
    longer t none [] e = absurd (none [] (sym (append-nil rows) ∙ sym e ∙ sym (append-nil (rows_of t))))
    longer t none (r ∷ more) e = (t, r, more, e)

    begun : Astray k n rows (length rows) → GoesOn k n rows
    begun a = let h = agree_all rows a.agrees in longer a.tree (a.none a.tree) h.0 h.1

    all_along : GoesOn k n rows → Astray k n rows (length rows)
    all_along b = record {
      tree = b.0;
      agrees = rw b.3 (agree_self rows (b.1 ∷ b.2));
      most = λ t q a. agree_short a;
      none = λ t rest e.
          let h = (same_end b.0 t [] (rest ++ (b.1 ∷ b.2)) (append-nil (rows_of b.0) ∙ b.3 ∙ ap (λ l. l ++ (b.1 ∷ b.2)) e ∙ append_assoc (rows_of t) rest (b.1 ∷ b.2))).1 in
          no_end rest (sym h);
    }
      where
        no_end : (rest : List Row) → ¬ (rest ++ (b.1 ∷ b.2) ≡ [])
        no_end [] e = never (cc)
        no_end (r ∷ rest) e = never (cc)

  pub search_is_tree : SearchIsTree k n
  search_is_tree = record {
    some = some_tree v n good;
    exactly = λ rows rest. (begins rows rest (fit_node k n rows) (means rows), taken rows rest (fit_node k n rows) (means rows));
    within = λ rows left. bounded rows left (fit_node k n rows) (means rows);
    leaves = λ rows p left e. (
      λ i. left_at rows p (omega arith) (strays rows p (suc left) e (fit_node k n rows) (means rows) i),
      λ b. stays rows p (suc left) e (fit_node k n rows) (means rows) (gone_astray rows p b),
    );
    short = λ rows. (
      λ e. begun rows (strays rows (length rows) 0 (omega arith) (fit_node k n rows) (means rows) e),
      λ b. stays rows (length rows) 0 (omega arith) (fit_node k n rows) (means rows) (all_along rows b),
    );
    apart = same_end;
  }
