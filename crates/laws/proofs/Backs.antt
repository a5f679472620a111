-- The way back and the coding trees belong together, both ways: it turns the rows of trees into their flags, and what it gives comes from trees.
use Prim.Native.Nat.{ℕ, zero, suc, ◌≤◌}
use mathlib.Core.Path.{◌≡◌, refl, sym, ap, ◌∙◌}
use mathlib.Core.Bool.{Bool, true, false}
use mathlib.Core.List.{List, [], ◌∷◌, ◌++◌, append-nil, append_assoc}
use native.Mathlib.Omega.{arith}
use Rattle.tree.specs.declared.Node.{Node}
use Rattle.tree.specs.declared.Decision.{Decision}
use Rattle.tree.specs.declared.Decision.TheVariants.{Leaf, Quad, Binary, Ternary}
use Rattle.tree.specs.Kind.{Kind}
use Rattle.tree.specs.Splits.{rights_of, allows}
use Rattle.tree.specs.Flags.{flags_for}
use Rattle.tree.specs.Children.{shares, children_from, children, corner_inside}
use Rattle.tree.specs.Rows.{Row, own_rows}
use Rattle.tree.specs.Run.{goes, Run, before, go_on, over_all}
use Rattle.tree.specs.Back.{decision_from, no_flags, back_split, back_into, back_with, back}
use Rattle.tree.specs.Tree.{Trees, Tree, none, skip, node, flags_of, rows_of}
use Rattle.laws.proofs.Tests.{never}
use Rattle.laws.specs.Every.{Every, every_none, every_more}
use Rattle.laws.specs.Proper.{Proper}
use Rattle.laws.specs.Shape.{Shape}
use Rattle.laws.proofs.Runs.{gives, joined, over_here, over_gone, over_one}
use Rattle.laws.proofs.Walks.{levels}
use Rattle.laws.proofs.Shape.{shape_kids}
use Rattle.laws.proofs.First.{First, first_longer, first_row}
use Rattle.laws.proofs.Decisions.{leaf_own, decision_found}

-- the way back over nodes, so many levels deep
abbrev pub back_all : Kind → ℕ → List Node → List Row → Run ℕ (List Row)
back_all k deep ns rows = over_all k.limits (back deep k) ns rows

module _ (k : Kind) (n : Node) (step : Node → List Row → Run ℕ (List Row)) (r : Row) (rows : List Row) (d : Decision) where
  pub with_open : allows (rights_of k n) d ≡ true → back_with k n step r rows d ≡ back_into k n step r rows d
  unfolding back_with
  with_open e = rw (e, back_with)

  pub with_closed : allows (rights_of k n) d ≡ false → back_with k n step r rows d ≡ no_flags
  unfolding back_with
  with_closed e = rw (e, back_with)

-- ---- the rows of trees are turned into their flags

module _ (k : Kind) (n : Node) (step : Node → List Row → Run ℕ (List Row)) where
  split_complete : (d : Decision) (rows : List Row) {more : List Row} {flags : List ℕ} → over_all k.limits step (children k.limits n d) rows ≡ gives flags more
      → back_split k n step rows d ≡ gives (flags_for (rights_of k n) d ++ flags) more
  unfolding before
  split_complete d rows w = rw w

  into_complete : (d : Decision) (kids : Trees k (children k.limits n d)) (more : List Row) (r : Row) (rows : List Row)
      → over_all k.limits step (children k.limits n d) (rows_of kids ++ more) ≡ gives (flags_of kids) more → (own_rows n d ++ rows_of kids) ++ more ≡ r ∷ rows
      → back_into k n step r rows d ≡ gives (flags_for (rights_of k n) d ++ flags_of kids) more
  unfolding back_into own_rows children children_from shares rows_of flags_of
  into_complete Leaf none more r rows w e = let b : more ≡ rows = cc in rw (← b, append-nil)
  into_complete Quad kids more r rows w e = split_complete Quad (r ∷ rows) (rw (← e) w)
  into_complete (Binary d) kids more r rows w e = split_complete (Binary d) (r ∷ rows) (rw (← e) w)
  into_complete (Ternary d) kids more r rows w e = split_complete (Ternary d) (r ∷ rows) (rw (← e) w)

module _ {k : Kind} (v : Proper k) where
  first_node : (n : Node) (d : Decision) → corner_inside k.limits n ≡ true → allows (rights_of k n) d ≡ true → (kids : Trees k (children k.limits n d)) → First n (own_rows n d ++ rows_of kids)
  unfolding rows_of
  first_node n d here ok kids = rw append-nil at (first_row (node {n = n} {ns = []} d here ok kids none) here)

  node_complete : (deep : ℕ) (n : Node) (d : Decision) → corner_inside k.limits n ≡ true → allows (rights_of k n) d ≡ true → (kids : Trees k (children k.limits n d)) → Shape n → (more : List Row)
      → back_all k deep (children k.limits n d) (rows_of kids ++ more) ≡ gives (flags_of kids) more
      → back (suc deep) k n ((own_rows n d ++ rows_of kids) ++ more) ≡ gives (flags_for (rights_of k n) d ++ flags_of kids) more
  unfolding back
  node_complete deep n d here ok kids sh more w =
      let f = first_longer more (first_node n d here ok kids) in
      let e = f.is in
      rw e
      (rw (decision_found v n sh here more f.row f.others d ok kids e, with_open k n (back deep k) f.row f.others d ok)
      (into_complete k n (back deep k) d kids more f.row f.others w e))

  all_complete : (deep : ℕ) {ns : List Node} (t : Trees k ns) → Every Shape ns → levels t ≤ deep → (more : List Row) → back_all k deep ns (rows_of t ++ more) ≡ gives (flags_of t) more
  unfolding over_all flags_of rows_of levels go_on before
  all_complete deep none shs h more = refl
  all_complete deep (skip {n = n} {ns = ns} out rest) (every_more sh shs) h more = over_gone k (back deep k) n ns (rows_of rest ++ more) out ∙ all_complete deep rest shs h more
  all_complete zero (node d here ok kids rest) (every_more sh shs) h more = absurd (omega arith)
  all_complete (suc deep) (node {n = n} {ns = ns} d here ok kids rest) (every_more sh shs) h more =
      let a = all_complete deep kids (shape_kids v sh d ok) (omega arith) (rows_of rest ++ more) in
      let b = all_complete (suc deep) rest shs (omega arith) more in
      rw (append_assoc (own_rows n d ++ rows_of kids) (rows_of rest) more)
      (over_here k (back (suc deep) k) n ns ((own_rows n d ++ rows_of kids) ++ (rows_of rest ++ more)) here
      ∙ rw (node_complete deep n d here ok kids sh (rows_of rest ++ more) a, b) (ap (λ f. gives f more) (append_assoc (flags_for (rights_of k n) d) (flags_of kids) (flags_of rest))))

  -- the trees of one node
  pub back_complete : (deep : ℕ) (n : Node) → Shape n → corner_inside k.limits n ≡ true → (t : Tree k n) → levels t ≤ deep
      → (rest : List Row) → back deep k n (rows_of t ++ rest) ≡ gives (flags_of t) rest
  back_complete deep n sh here t h rest = sym (over_one k (back deep k) n (rows_of t ++ rest) here) ∙ all_complete deep t (every_more sh every_none) h rest

-- ---- the converse

module _ (k : Kind) where
  -- the trees behind rows that gave flags, and the rows that are left
  pub record Found (ns : List Node) (rows : List Row) (flags : List ℕ) (rest : List Row) : Type 0 where
    pub trees : Trees k ns
    pub said : flags_of trees ≡ flags
    pub split : rows ≡ rows_of trees ++ rest

  -- the same of one node, without the nodes after it
  record Sprout (n : Node) (rows : List Row) (flags : List ℕ) (rest : List Row) : Type 0 where
    d : Decision
    ok : allows (rights_of k n) d ≡ true
    kids : Trees k (children k.limits n d)
    said : flags_for (rights_of k n) d ++ flags_of kids ≡ flags
    split : rows ≡ (own_rows n d ++ rows_of kids) ++ rest

  found_none : {rows rest : List Row} → goes rows ≡ goes rest → Found [] rows [] rest
  unfolding flags_of rows_of
  found_none e = record { trees = none; said = refl; split = cc }

  found_gone : {n : Node} {ns : List Node} {rows rest : List Row} {flags : List ℕ} → corner_inside k.limits n ≡ false → Found ns rows flags rest → Found (n ∷ ns) rows flags rest
  unfolding flags_of rows_of
  found_gone out f = record { trees = skip out f.trees; said = f.said; split = f.split }

  found_more : {n : Node} {ns : List Node} {rows mid rest : List Row} {a b : List ℕ} → corner_inside k.limits n ≡ true → Sprout n rows a mid → Found ns mid b rest → Found (n ∷ ns) rows (a ++ b) rest
  unfolding flags_of rows_of
  found_more {n} {rest = rest} here s f = record {
    trees = node s.d here s.ok s.kids f.trees;
    said = sym (append_assoc (flags_for (rights_of k n) s.d) (flags_of s.kids) (flags_of f.trees)) ∙ rw (s.said, f.said);
    split = s.split ∙ rw f.split (sym (append_assoc (own_rows n s.d ++ rows_of s.kids) (rows_of f.trees) rest));
  }

  -- an accepted run over nodes comes from trees
  abbrev Behind : (Node → List Row → Run ℕ (List Row)) → List Node → Type 0
  Behind step ns = (rows rest : List Row) → (over_all k.limits step ns rows).end ≡ goes rest → Found ns rows (over_all k.limits step ns rows).given rest

  module _ (step : Node → List Row → Run ℕ (List Row)) (sound : (n : Node) (rows rest : List Row) → (step n rows).end ≡ goes rest → Sprout n rows (step n rows).given rest) where
    all_sound : (ns : List Node) → Behind step ns
    unfolding over_all
    all_sound [] rows rest e = found_none e
    all_sound (n ∷ ns) rows rest e = begin (corner_inside k.limits n) refl (all_sound ns) e
      where
        begin : (b : Bool) → corner_inside k.limits n ≡ b → Behind step ns → (over_all k.limits step (n ∷ ns) rows).end ≡ goes rest
            → Found (n ∷ ns) rows (over_all k.limits step (n ∷ ns) rows).given rest
        begin true here later e =
            let j = joined (step n rows) (λ t. over_all k.limits step ns t) (rw (over_here k step n ns rows here) at e) in
            rw (over_here k step n ns rows here, j.given) (found_more here (sound n rows j.mid j.first) (later j.mid rest j.second))
        begin false out later e = rw (over_gone k step n ns rows out) (found_gone out (later rows rest (rw (over_gone k step n ns rows out) at e)))

  module _ (n : Node) (step : Node → List Row → Run ℕ (List Row)) (below : (d : Decision) → Behind step (children k.limits n d))
      (r : Row) (rows rest : List Row) where
    split_sound : (d : Decision) → allows (rights_of k n) d ≡ true → own_rows n d ≡ [] → (back_split k n step (r ∷ rows) d).end ≡ goes rest → Sprout n (r ∷ rows) (back_split k n step (r ∷ rows) d).given rest
    unfolding before
    split_sound d ok own e =
        let t = below d (r ∷ rows) rest e in
        record { d = d; ok = ok; kids = t.trees; said = rw t.said; split = t.split ∙ rw own }

    into_sound : (d : Decision) → decision_from k.limits n r rows ≡ d → allows (rights_of k n) d ≡ true → (back_into k n step r rows d).end ≡ goes rest
        → Sprout n (r ∷ rows) (back_into k n step r rows d).given rest
    unfolding back_into own_rows children children_from shares rows_of flags_of
    into_sound Leaf i ok e =
        let a = leaf_own k.limits n r rows i in
        let b : rows ≡ rest = cc in
        record { d = Leaf; ok = ok; kids = none; said = append-nil (flags_for (rights_of k n) Leaf); split = rw (a, b) }
    into_sound Quad i ok e = split_sound Quad ok refl e
    into_sound (Binary d) i ok e = split_sound (Binary d) ok refl e
    into_sound (Ternary d) i ok e = split_sound (Ternary d) ok refl e

    with_sound : (d : Decision) → decision_from k.limits n r rows ≡ d → (b : Bool) → allows (rights_of k n) d ≡ b → (back_with k n step r rows d).end ≡ goes rest
        → Sprout n (r ∷ rows) (back_with k n step r rows d).given rest
    with_sound d i true ok e = rw (with_open k n step r rows d ok) (into_sound d i ok (rw (with_open k n step r rows d ok) at e))
    with_sound d i false no-right e = let h = with_closed k n step r rows d no-right in never (cc)

  node_sound : (deep : ℕ) (n : Node) (rows rest : List Row) → (back deep k n rows).end ≡ goes rest → Sprout n rows (back deep k n rows).given rest
  unfolding back
  node_sound zero n rows rest e = never (cc)
  node_sound (suc deep) n [] rest e = never (cc)
  node_sound (suc deep) n (r ∷ rows) rest e =
      with_sound n (back deep k) (λ d. all_sound (back deep k) (node_sound deep) (children k.limits n d)) r rows rest
      (decision_from k.limits n r rows) refl _ refl e

  -- whatever the rows are
  pub back_sound : (deep : ℕ) (n : Node) → corner_inside k.limits n ≡ true → (rows rest : List Row) → (back deep k n rows).end ≡ goes rest → Found (n ∷ []) rows (back deep k n rows).given rest
  back_sound deep n here rows rest e =
      let one = over_one k (back deep k) n rows here in
      rw one at (all_sound (back deep k) (node_sound deep) (n ∷ []) rows rest (rw one e))
