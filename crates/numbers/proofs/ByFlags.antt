-- On the flags of a coding tree the walk gives the rows and the context numbers of this tree.
use Prim.Native.Nat.{ℕ, zero, suc, ◌+◌, ◌≤◌}
use mathlib.Core.Path.{◌≡◌, refl, sym, ap, ap₂, ◌∙◌}
use mathlib.Core.Bool.{true}
use mathlib.Core.List.{List, [], ◌++◌, append_assoc, append-nil}
use lib.ListN.{length}
use native.Mathlib.Omega.{arith}
use Rattle.tree.specs.declared.Node.{Node}
use Rattle.tree.specs.declared.Decision.{Decision}
use Rattle.tree.specs.declared.Decision.TheVariants.{Leaf, Quad, Binary, Ternary}
use Rattle.tree.specs.Flags.{Chosen}
use Rattle.tree.specs.Kind.{Kind}
use Rattle.tree.specs.Splits.{rights_of, allows}
use Rattle.tree.specs.Flags.{decide, flags_for}
use Rattle.tree.specs.Children.{shares, children_from, children, corner_inside}
use Rattle.tree.specs.Rows.{Row, own_rows}
use Rattle.tree.specs.Run.{Run, before, go_on, over_all}
use Rattle.tree.specs.Reading.{levels_left}
use Rattle.tree.specs.Tree.{Trees, Tree, none, skip, node, flags_of, rows_of}
use Rattle.laws.specs.Proper.{Proper}
use Rattle.laws.specs.Shape.{Shape}
use Rattle.laws.proofs.Bytes.{Reads, reads_part, reads_length, reads_from, reads_all}
use Rattle.laws.proofs.Flags.{decide_complete}
use Rattle.laws.proofs.Levels.{levels_left_lem}
use Rattle.laws.proofs.Runs.{gives, over_here, over_gone, over_one}
use Rattle.laws.proofs.Walks.{levels}
use Rattle.unit.specs.Units.{Units, refusal_in, root_in}
use Rattle.unit.specs.Exactly.{UnitTree}
use Rattle.unit.proofs.Sound.{Sound, root_of_lem}
use Rattle.numbers.specs.Walk.{Finder, put_all, contexts_of}
use Rattle.numbers.specs.ByFlags.{Stand, stand_in, enter_numbers, walk_numbers, read_numbers}
use Rattle.numbers.proofs.Same.{put_append}

four_lists : (a b c d : List ℕ) → ((a ++ b) ++ c) ++ d ≡ a ++ (b ++ (c ++ d))
four_lists a b c d = append_assoc (a ++ b) c d ∙ append_assoc a b (c ++ d)

module _ {S : Type 0} (f : Finder S) where
  -- where the walk is after coding trees
  abbrev pub stand_after : {k : Kind} {ns : List Node} → Trees k ns → Stand S → ℕ → Stand S
  stand_after t s to = record { at = to; known = put_all f (rows_of t) s.known; numbers = s.numbers ++ contexts_of f t s.known }

  module _ (k : Kind) where
    -- a leaf has no children, and a split no row of its own
    kids_known : (n : Node) (d : Decision) (kids : Trees k (children k.limits n d)) (s : S) → contexts_of f kids (put_all f (own_rows n d) s) ≡ contexts_of f kids s
    unfolding own_rows children children_from shares contexts_of put_all
    kids_known n Leaf none s = refl
    kids_known n Quad kids s = refl
    kids_known n (Binary d) kids s = refl
    kids_known n (Ternary d) kids s = refl

    -- the children of a node and the nodes after it, one after the other
    after_both : (n : Node) {ns : List Node} (d : Decision) (here : corner_inside k.limits n ≡ true) (ok : allows (rights_of k n) d ≡ true)
        (kids : Trees k (children k.limits n d)) (rest : Trees k ns) (s : Stand S) (m to end : ℕ)
        → stand_after rest (stand_after kids (stand_in f k n s d m) to) end ≡ stand_after (node d here ok kids rest) s end
    unfolding rows_of contexts_of
    after_both n d here ok kids rest s m to end =
        ap₂ (λ known numbers. record { at = end; known = known; numbers = numbers })
        (rw (put_append f (own_rows n d ++ rows_of kids) (rows_of rest) s.known, put_append f (own_rows n d) (rows_of kids) s.known))
        (rw (kids_known n d kids s.known, put_append f (own_rows n d) (rows_of kids) s.known) (four_lists s.numbers _ (contexts_of f kids s.known) _))

    module _ (flags : List ℕ) where
      abbrev walk_all : ℕ → List Node → Stand S → Run Row (Stand S)
      walk_all deep ns s = over_all k.limits (walk_numbers f k deep flags) ns s

      enter_numbers_lem : (deep : ℕ) (n : Node) (d : Decision) (s : Stand S) {m : ℕ} {rows : List Row} {to : Stand S} → decide (rights_of k n) flags s.at ≡ Chosen d m
          → walk_all deep (children k.limits n d) (stand_in f k n s d m) ≡ gives rows to → walk_numbers f k (suc deep) flags n s ≡ gives (own_rows n d ++ rows) to
      unfolding walk_numbers enter_numbers before
      enter_numbers_lem deep n d s e w = rw e (rw w)

      -- trees of which the flags are read from where the walk is
      pub trees_numbers : (deep : ℕ) {ns : List Node} (t : Trees k ns) (s : Stand S) {to : ℕ} → levels t ≤ deep → Reads flags s.at (flags_of t) to
          → walk_all deep ns s ≡ gives (rows_of t) (stand_after t s to)
      unfolding over_all flags_of rows_of contexts_of levels go_on before put_all
      trees_numbers deep none s {to} h r = let l = reads_length r in let e : to ≡ s.at = omega arith in rw (e, append-nil)
      trees_numbers deep (skip {n = n} {ns = ns} out rest) s h r = over_gone k (walk_numbers f k deep flags) n ns s out ∙ trees_numbers deep rest s h r
      trees_numbers zero (node d here ok kids rest) s h r = absurd (omega arith)
      trees_numbers (suc deep) (node {n = n} {ns = ns} d here ok kids rest) s h r =
          let a = reads_part (flags_for (rights_of k n) d) r in
          let b = reads_part (flags_of kids) a.2 in
          let below = trees_numbers deep kids (stand_in f k n s d a.0) (omega arith) b.1 in
          let after = trees_numbers (suc deep) rest (stand_after kids (stand_in f k n s d a.0) b.0) (omega arith) b.2 in
          over_here k (walk_numbers f k (suc deep) flags) n ns s here
          ∙ rw (enter_numbers_lem deep n d s (decide_complete flags (rights_of k n) d ok a.1) below)
          (rw after (ap (gives ((own_rows n d ++ rows_of kids) ++ rows_of rest)) (after_both n d here ok kids rest s a.0 b.0 _)))

    -- a node of which a tree's flags are read from where the walk is
    pub node_numbers : Proper k → {n : Node} → Shape n → corner_inside k.limits n ≡ true → n.w + n.h + n.qt + n.mtt ≤ 256 → (t : Tree k n)
        (flags : List ℕ) (s : Stand S) {to : ℕ} → Reads flags s.at (flags_of t) to → read_numbers f k flags n s ≡ gives (rows_of t) (stand_after t s to)
    node_numbers v {n} sh here fits t flags s r =
        sym (over_one k (walk_numbers f k (levels_left n) flags) n s here) ∙ trees_numbers flags (levels_left n) t s (levels_left_lem v n sh fits t) r

    -- from the first byte on, with any bytes after the tree's flags
    pub tree_numbers : Proper k → {n : Node} → Shape n → corner_inside k.limits n ≡ true → n.w + n.h + n.qt + n.mtt ≤ 256 → (t : Tree k n)
        (rest : List ℕ) (s : Stand S) → s.at ≡ 0 → read_numbers f k (flags_of t ++ rest) n s ≡ gives (rows_of t) (stand_after t s (length (flags_of t)))
    tree_numbers v sh here fits t rest s z =
        let e : 0 + length (flags_of t) ≡ length (flags_of t) = omega arith in
        node_numbers v sh here fits t (flags_of t ++ rest) s (rw z (rw e at (reads_from [] (flags_of t) rest 0 refl)))

  -- a unit that is there, on the flags of one of its trees
  pub unit_numbers : {us : Units} → Sound us → (a : ℕ) → refusal_in us a ≡ 0 → (t : UnitTree us a) (s : Stand S) → s.at ≡ 0
      → read_numbers f us.kind (flags_of t) (root_in us a) s ≡ gives (rows_of t) (stand_after t s (length (flags_of t)))
  unit_numbers {us} law a there t s z =
      let r = root_of_lem law a there in
      node_numbers us.kind r.valid r.good.shape r.here r.fits t (flags_of t) s (rw z (reads_all (flags_of t)))
