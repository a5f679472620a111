-- A reading that stops has read the beginning of a coding tree's flags: in every proper kind.
use Prim.Native.Nat.{ℕ, zero, suc, ◌≤◌}
use mathlib.Core.Path.{◌≡◌, refl, ◌∙◌}
use mathlib.Core.Bool.{Bool, true, false}
use mathlib.Core.List.{List, ◌∷◌, ◌++◌, append_assoc}
use mathlib.Core.Logic.{◌⊎◌, inl, inr}
use lib.ListN.{length}
use Rattle.tree.specs.declared.Node.{Node}
use Rattle.tree.specs.declared.Decision.{Decision}
use Rattle.tree.specs.Flags.{Choice}
use Rattle.tree.specs.Flags.{Chosen, Refused}
use Rattle.tree.specs.Kind.{Kind}
use Rattle.tree.specs.Splits.{rights_of, allows}
use Rattle.tree.specs.Flags.{decide, flags_for}
use Rattle.tree.specs.Children.{children, corner_inside}
use Rattle.tree.specs.Rows.{Row}
use Rattle.tree.specs.Run.{End, goes, stops, Run, before, go_on, and_then, over_all}
use Rattle.tree.specs.Reading.{enter, walk}
use Rattle.tree.specs.Tree.{Trees, skip, node, flags_of}
use Rattle.laws.specs.Every.{Every, every_none, every_more}
use Rattle.laws.specs.Proper.{Proper}
use Rattle.laws.proofs.Tests.{never}
use Rattle.laws.proofs.Bytes.{reads_within}
use Rattle.laws.proofs.Flags.{decide_sound}
use Rattle.laws.proofs.Runs.{over_here, over_gone}
use Rattle.laws.proofs.Edge.{no_dead_end}
use Rattle.laws.proofs.Walks.{Sprout, node_sound}
use Rattle.laws.proofs.Grows.{Low, low_some, low_kids, some_trees}
use Rattle.laws.proofs.HaltsAt.{Begins, begins_longer, begins_later, decide_halts}

-- of two runs, one after the other, the first stops, or it goes on and the second stops
stopped : {A S : Type 0} (r : Run A S) (next : S → Run A S) {a p : ℕ} → (and_then r next).end ≡ stops a p
    → (r.end ≡ stops a p) ⊎ ((mid : S) × (r.end ≡ goes mid) × ((next mid).end ≡ stops a p))
unfolding go_on before
stopped {S = S} r next {a} {p} e = go r.end refl e
  where
    go : (end : End S) → r.end ≡ end → (go_on r.given end next).end ≡ stops a p
        → (r.end ≡ stops a p) ⊎ ((mid : S) × (r.end ≡ goes mid) × ((next mid).end ≡ stops a p))
    go (goes mid) f e = inr (mid, f, e)
    go (stops b q) f e = inl (f ∙ e)

module _ (k : Kind) (flags : List ℕ) where
  -- trees whose flags the bytes from a place on begin
  pub record Halted (ns : List Node) (at a p : ℕ) : Type 0 where
    pub trees : Trees k ns
    pub begins : Begins flags (flags_of trees) at a p

  -- the same of one node, without the nodes after it
  record HaltedIn (n : Node) (at a p : ℕ) : Type 0 where
    d : Decision
    ok : allows (rights_of k n) d ≡ true
    kids : Trees k (children k.limits n d)
    begins : Begins flags (flags_for (rights_of k n) d ++ flags_of kids) at a p

  halted_gone : {n : Node} {ns : List Node} {at a p : ℕ} → corner_inside k.limits n ≡ false → Halted ns at a p
      → Halted (n ∷ ns) at a p
  unfolding flags_of
  halted_gone out h = record { trees = skip out h.trees; begins = h.begins }

  halted_here : {n : Node} {ns : List Node} {at a p : ℕ} → corner_inside k.limits n ≡ true → HaltedIn n at a p
      → Trees k ns → Halted (n ∷ ns) at a p
  unfolding flags_of
  halted_here here h rest = record { trees = node h.d here h.ok h.kids rest; begins = rw append_assoc at (begins_longer flags (flags_of rest) h.begins) }

  halted_later : {n : Node} {ns : List Node} {at mid a p : ℕ} {rows : List Row} → corner_inside k.limits n ≡ true
      → Sprout k flags n at rows mid → Halted ns mid a p → Halted (n ∷ ns) at a p
  unfolding flags_of
  halted_later here s h = record { trees = node s.d here s.ok s.kids h.trees; begins = rw append_assoc at (begins_later flags s.reads h.begins) }

  module _ (Q : Node → Type 0) (step : Node → ℕ → Run Row ℕ) (some : (ns : List Node) → Every Q ns → Trees k ns)
      (sound : (n : Node) → Q n → corner_inside k.limits n ≡ true → (at to : ℕ) → (step n at).end ≡ goes to → Sprout k flags n at (step n at).given to)
      (halts : (n : Node) → Q n → corner_inside k.limits n ≡ true → (at a p : ℕ) → at ≤ length flags → (step n at).end ≡ stops a p → HaltedIn n at a p) where
    -- the walk over nodes stops in trees of theirs
    abbrev Stops : List Node → Type 0
    Stops ns = (at a p : ℕ) → at ≤ length flags → (over_all k.limits step ns at).end ≡ stops a p → Halted ns at a p

    all_halted : {ns : List Node} → Every Q ns → Stops ns
    unfolding over_all
    all_halted every_none at a p l e = never (cc)
    all_halted (every_more {a = n} {rest = ns} q qs) at a p l e = begin (corner_inside k.limits n) refl (all_halted qs) e
      where
        there : corner_inside k.limits n ≡ true → Stops ns
            → ((step n at).end ≡ stops a p) ⊎ ((mid : ℕ) × ((step n at).end ≡ goes mid) × ((over_all k.limits step ns mid).end ≡ stops a p)) → Halted (n ∷ ns) at a p
        there here rest (inl e) = halted_here here (halts n q here at a p l e) (some ns qs)
        there here rest (inr x) =
            let s = sound n q here at x.0 x.1 in
            halted_later here s (rest x.0 a p (reads_within s.reads l) x.2)

        begin : (b : Bool) → corner_inside k.limits n ≡ b → Stops ns
            → (over_all k.limits step (n ∷ ns) at).end ≡ stops a p → Halted (n ∷ ns) at a p
        begin true here rest e = there here rest (stopped (step n at) (λ t. over_all k.limits step ns t) (rw (over_here k step n ns at here) at e))
        begin false out rest e = halted_gone out (rest at a p l (rw (over_gone k step n ns at out) at e))

  module _ (v : Proper k) where
    choice_halted : (deep : ℕ) (n : Node) → Low v (suc deep) n → corner_inside k.limits n ≡ true
        → ((ns : List Node) → Every (Low v deep) ns → (at a p : ℕ) → at ≤ length flags → (over_all k.limits (walk deep k flags) ns at).end ≡ stops a p → Halted ns at a p)
        → (at a p : ℕ) → at ≤ length flags → (c : Choice) → decide (rights_of k n) flags at ≡ c
        → (enter k n (walk deep k flags) c).end ≡ stops a p → HaltedIn n at a p
    unfolding enter before
    choice_halted deep n q here below at a p l (Refused b r) i e =
        let u : b ≡ a = cc in
        let w : r ≡ p = cc in
        let h = decide_halts flags (rights_of k n) l (rw (u, w) at i) in
        let kids = some_trees v deep (low_kids v deep n q h.d h.ok) in
        record { d = h.d; ok = h.ok; kids = kids; begins = begins_longer flags (flags_of kids) h.begins }
    choice_halted deep n q here below at a p l (Chosen d m) i e =
        let s = decide_sound flags (rights_of k n) (no_dead_end v q.0 here) i in
        let h = below (children k.limits n d) (low_kids v deep n q d s.ok) m a p (reads_within s.reads l) e in
        record { d = d; ok = s.ok; kids = h.trees; begins = begins_later flags s.reads h.begins }

    node_halted : (deep : ℕ) (n : Node) → Low v deep n → corner_inside k.limits n ≡ true → (at a p : ℕ)
        → at ≤ length flags → (walk deep k flags n at).end ≡ stops a p → HaltedIn n at a p
    unfolding walk
    node_halted zero n q here at a p l e = low_some v q
    node_halted (suc deep) n q here at a p l e =
        choice_halted deep n q here
        (λ ns. all_halted (Low v deep) (walk deep k flags) (λ ns. some_trees v deep) (λ n q. node_sound k flags v deep n q.0) (node_halted deep))
        at a p l (decide (rights_of k n) flags at) refl e

    -- a walk over good nodes, so many levels deep, that stops
    pub walk_halted : (deep : ℕ) {ns : List Node} → Every (Low v deep) ns → (at a p : ℕ) → at ≤ length flags
        → (over_all k.limits (walk deep k flags) ns at).end ≡ stops a p → Halted ns at a p
    walk_halted deep = all_halted (Low v deep) (walk deep k flags) (λ ns. some_trees v deep) (λ n q. node_sound k flags v deep n q.0) (node_halted deep)
