-- The walk over the flags and the coding trees belong together, both ways.
use Prim.Native.Nat.{ℕ, zero, suc, ◌≤◌, max}
use mathlib.Core.Path.{◌≡◌, refl, ◌∙◌}
use mathlib.Core.Bool.{Bool, true, false}
use mathlib.Core.List.{List, [], ◌∷◌, ◌++◌, append_assoc}
use native.Mathlib.Omega.{arith}
use Rattle.tree.specs.declared.Node.{Node}
use Rattle.tree.specs.declared.Decision.{Decision}
use Rattle.tree.specs.Flags.{Choice}
use Rattle.tree.specs.Flags.{Chosen, Refused}
use Rattle.tree.specs.Kind.{Kind}
use Rattle.tree.specs.Splits.{rights_of, allows}
use Rattle.tree.specs.Flags.{decide, flags_for}
use Rattle.tree.specs.Children.{children, corner_inside}
use Rattle.tree.specs.Rows.{Row, own_rows}
use Rattle.tree.specs.Run.{goes, Run, before, go_on, over_all}
use Rattle.tree.specs.Reading.{enter, walk}
use Rattle.tree.specs.Tree.{Trees, none, skip, node, flags_of, rows_of}
use Rattle.laws.proofs.Tests.{never}
use Rattle.laws.specs.Every.{Every, every_none, every_more}
use Rattle.laws.specs.Proper.{Proper}
use Rattle.laws.specs.Good.{Good}
use Rattle.laws.proofs.Bytes.{Reads, nothing, reads_join, reads_part}
use Rattle.laws.proofs.Flags.{decide_complete, decide_sound}
use Rattle.laws.proofs.Edge.{good_kids, no_dead_end}
use Rattle.laws.proofs.Runs.{gives, joined, over_here, over_gone}

-- how many nodes of the trees stand one below the other
unfoldable pub levels : {k : Kind} {ns : List Node} → Trees k ns → ℕ
levels none = 0
levels (skip out rest) = levels rest
levels (node d here ok kids rest) = max (suc (levels kids)) (levels rest)

module _ (k : Kind) (flags : List ℕ) where
  -- the walk over nodes, so many levels deep
  abbrev pub walk_all : ℕ → List Node → ℕ → Run Row ℕ
  walk_all deep ns at = over_all k.limits (walk deep k flags) ns at

  -- ---- the flags of trees are read as these trees

  enter_complete : (deep : ℕ) (n : Node) (d : Decision) (at : ℕ) {m to : ℕ} {rows : List Row} → decide (rights_of k n) flags at ≡ Chosen d m
      → walk_all deep (children k.limits n d) m ≡ gives rows to → walk (suc deep) k flags n at ≡ gives (own_rows n d ++ rows) to
  unfolding walk enter before
  enter_complete deep n d at e w = rw e (rw w)

  pub walk_complete : (deep : ℕ) {ns : List Node} (t : Trees k ns) {at to : ℕ} → levels t ≤ deep → Reads flags at (flags_of t) to → walk_all deep ns at ≡ gives (rows_of t) to
  unfolding over_all flags_of rows_of levels go_on before
  walk_complete deep none h nothing = refl
  walk_complete deep (skip {n = n} {ns = ns} out rest) {at} h r = over_gone k (walk deep k flags) n ns at out ∙ walk_complete deep rest h r
  walk_complete zero (node d here ok kids rest) h r = absurd (omega arith)
  walk_complete (suc deep) (node {n = n} {ns = ns} d here ok kids rest) {at} h r =
      let a = reads_part (flags_for (rights_of k n) d) r in
      let b = reads_part (flags_of kids) a.2 in
      over_here k (walk (suc deep) k flags) n ns at here
      ∙ rw (enter_complete deep n d at (decide_complete flags (rights_of k n) d ok a.1) (walk_complete deep kids (omega arith) b.1))
      (rw (walk_complete (suc deep) rest (omega arith) b.2))

-- ---- the converse

module _ (k : Kind) (flags : List ℕ) where
  -- the trees behind flags that are read from one place to another, and rows
  pub record Grown (ns : List Node) (at : ℕ) (rows : List Row) (to : ℕ) : Type 0 where
    pub trees : Trees k ns
    pub reads : Reads flags at (flags_of trees) to
    pub same : rows_of trees ≡ rows

  -- the same of one node, without the nodes after it
  pub record Sprout (n : Node) (at : ℕ) (rows : List Row) (to : ℕ) : Type 0 where
    pub d : Decision
    pub ok : allows (rights_of k n) d ≡ true
    pub kids : Trees k (children k.limits n d)
    pub reads : Reads flags at (flags_for (rights_of k n) d ++ flags_of kids) to
    pub same : own_rows n d ++ rows_of kids ≡ rows

  grown_none : {at to : ℕ} → goes at ≡ goes to → Grown [] at [] to
  unfolding flags_of rows_of
  grown_none {at} {to} e = let m : at ≡ to = cc in record { trees = none; reads = rw (← m) nothing; same = refl }

  grown_gone : {n : Node} {ns : List Node} {at to : ℕ} {rows : List Row} → corner_inside k.limits n ≡ false → Grown ns at rows to → Grown (n ∷ ns) at rows to
  unfolding flags_of rows_of
  grown_gone out g = record { trees = skip out g.trees; reads = g.reads; same = g.same }

  grown_more : {n : Node} {ns : List Node} {at mid to : ℕ} {a b : List Row} → corner_inside k.limits n ≡ true → Sprout n at a mid → Grown ns mid b to → Grown (n ∷ ns) at (a ++ b) to
  unfolding flags_of rows_of
  grown_more here s g = record {
    trees = node s.d here s.ok s.kids g.trees;
    reads = rw append_assoc at (reads_join s.reads g.reads);
    same = rw (s.same, g.same);
  }

  -- an accepted run over nodes comes from trees
  abbrev Behind : (Node → ℕ → Run Row ℕ) → List Node → Type 0
  Behind step ns = (at to : ℕ) → (over_all k.limits step ns at).end ≡ goes to → Grown ns at (over_all k.limits step ns at).given to

  module _ (step : Node → ℕ → Run Row ℕ)
      (sound : (n : Node) → Good k.limits n → corner_inside k.limits n ≡ true → (at to : ℕ) → (step n at).end ≡ goes to → Sprout n at (step n at).given to) where
    all_sound : {ns : List Node} → Every (Good k.limits) ns → Behind step ns
    unfolding over_all
    all_sound every_none at to e = grown_none e
    all_sound (every_more {a = n} {rest = ns} g gs) at to e = begin (corner_inside k.limits n) refl (all_sound gs) e
      where
        begin : (b : Bool) → corner_inside k.limits n ≡ b → Behind step ns → (over_all k.limits step (n ∷ ns) at).end ≡ goes to → Grown (n ∷ ns) at (over_all k.limits step (n ∷ ns) at).given to
        begin true here rest e =
            let j = joined (step n at) (λ t. over_all k.limits step ns t) (rw (over_here k step n ns at here) at e) in
            rw (over_here k step n ns at here, j.given) (grown_more here (sound n g here at j.mid j.first) (rest j.mid to j.second))
        begin false out rest e = rw (over_gone k step n ns at out) (grown_gone out (rest at to (rw (over_gone k step n ns at out) at e)))

  module _ (v : Proper k) where
    choice_sound : (n : Node) → Good k.limits n → corner_inside k.limits n ≡ true → (step : Node → ℕ → Run Row ℕ) → ((d : Decision) → Every (Good k.limits) (children k.limits n d) → Behind step (children k.limits n d))
        → (at to : ℕ) (c : Choice) → decide (rights_of k n) flags at ≡ c → (enter k n step c).end ≡ goes to → Sprout n at (enter k n step c).given to
    unfolding enter before
    choice_sound n g here step below at to (Refused r p) i e = never (cc)
    choice_sound n g here step below at to (Chosen d m) i e =
        let h = decide_sound flags (rights_of k n) (no_dead_end v g here) i in
        let t = below d (good_kids v g d h.ok) m to e in
        record { d = d; ok = h.ok; kids = t.trees; reads = reads_join h.reads t.reads; same = rw t.same }

    pub node_sound : (deep : ℕ) (n : Node) → Good k.limits n → corner_inside k.limits n ≡ true → (at to : ℕ) → (walk deep k flags n at).end ≡ goes to → Sprout n at (walk deep k flags n at).given to
    unfolding walk
    node_sound zero n g here at to e = never (cc)
    node_sound (suc deep) n g here at to e =
        choice_sound n g here (walk deep k flags)
        (λ d gs. all_sound (walk deep k flags) (node_sound deep) gs) at to (decide (rights_of k n) flags at) refl e

    -- an accepted walk over good nodes comes from trees
    pub walk_sound : (deep : ℕ) {ns : List Node} → Every (Good k.limits) ns → (at to : ℕ) → (walk_all k flags deep ns at).end ≡ goes to → Grown ns at (walk_all k flags deep ns at).given to
    walk_sound deep gs = all_sound (walk deep k flags) (node_sound deep) gs
