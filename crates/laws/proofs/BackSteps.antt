-- The way back of a node, one level down: the refusal, a leaf's flags, or the way back of the children.
use Prim.Native.Nat.{ℕ, suc, ◌+◌, ◌-◌, ◌<◌}
use mathlib.Core.Path.{◌≡◌, refl, ap, ◌∙◌}
use mathlib.Core.Bool.{true, false}
use mathlib.Core.List.{List, [], ◌∷◌}
use native.Mathlib.Omega.{arith}
use Rattle.tree.specs.declared.Node.{Node}
use Rattle.tree.specs.declared.Decision.{Decision}
use Rattle.tree.specs.declared.Decision.TheVariants.{Leaf, Quad, Binary, Ternary}
use Rattle.tree.specs.Kind.{Kind}
use Rattle.tree.specs.Splits.{rights_of, allows}
use Rattle.tree.specs.Flags.{flags_for}
use Rattle.tree.specs.Children.{child, children}
use Rattle.tree.specs.Rows.{Row}
use Rattle.tree.specs.Run.{goes, Run, before, over_all}
use Rattle.tree.specs.Back.{decision_from, no_flags, back_split, back_into, back_with, back, back_node}
use Rattle.laws.proofs.Tests.{never}
use Rattle.laws.proofs.Parts.{every_child}
use Rattle.laws.proofs.Steps.{is_split, over_same, kid_depth}
use Rattle.laws.proofs.Backs.{with_open, with_closed}

module _ (k : Kind) (n : Node) (deep : n.qt + n.mtt < 256) where
  -- the way back of the levels below the node
  abbrev below : Node → List Row → Run ℕ (List Row)
  below c left = back (255 - (n.qt + n.mtt)) k c left

  one_more : 256 - (n.qt + n.mtt) ≡ suc (255 - (n.qt + n.mtt))
  one_more = omega arith

  -- no row is left
  pub back_none : back_node k n [] ≡ no_flags
  unfolding back
  back_none = ap (λ i. back i k n []) one_more

  module _ (r : Row) (rows : List Row) where
    level : back_node k n (r ∷ rows) ≡ back_with k n below r rows (decision_from k.limits n r rows)
    unfolding back
    level = ap (λ i. back i k n (r ∷ rows)) one_more

    -- a decision that the node does not allow
    pub back_closed : {d : Decision} → decision_from k.limits n r rows ≡ d → allows (rights_of k n) d ≡ false → back_node k n (r ∷ rows) ≡ no_flags
    back_closed {d} e no-right = level ∙ rw e (with_closed k n below r rows d no-right)

    into : {d : Decision} → decision_from k.limits n r rows ≡ d → allows (rights_of k n) d ≡ true → back_node k n (r ∷ rows) ≡ back_into k n below r rows d
    into {d} e ok = level ∙ rw e (with_open k n below r rows d ok)

    -- a leaf takes its row
    pub back_leaf : decision_from k.limits n r rows ≡ Leaf → allows (rights_of k n) Leaf ≡ true → back_node k n (r ∷ rows) ≡ record { given = flags_for (rights_of k n) Leaf; end = goes rows }
    unfolding back_into
    back_leaf e ok = into e ok

    into_split : (d : Decision) → is_split d ≡ true → back_into k n below r rows d ≡ back_split k n below (r ∷ rows) d
    unfolding back_into
    into_split Leaf s = never (cc)
    into_split Quad s = refl
    into_split (Binary d) s = refl
    into_split (Ternary d) s = refl

    -- a split: its own flags, then those of its children
    pub back_split_lem : {d : Decision} → decision_from k.limits n r rows ≡ d → allows (rights_of k n) d ≡ true → is_split d ≡ true
        → back_node k n (r ∷ rows) ≡ before (flags_for (rights_of k n) d) (over_all k.limits (back_node k) (children k.limits n d) (r ∷ rows))
    back_split_lem {d} e ok s =
        into e ok ∙ into_split d s
        ∙ ap (before (flags_for (rights_of k n) d))
        (over_same k below (back_node k)
        (every_child k n d (λ p piece left. ap (λ i. back i k (child k.limits n d p) left) (let q = kid_depth k n d s ok p in omega arith)))
        (r ∷ rows))
