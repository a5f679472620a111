-- The reading of a node, one level down: a refusal, a leaf's row, or the reading of the children.
use Prim.Native.Nat.{ℕ, suc, ◌+◌, ◌-◌, ◌<◌}
use mathlib.Core.Path.{◌≡◌, refl, ap, ◌∙◌}
use mathlib.Core.Bool.{Bool, true, false}
use mathlib.Core.List.{List, [], ◌∷◌}
use native.Mathlib.Omega.{arith}
use lib.ListN.{length}
use Rattle.tree.specs.declared.Node.{Node}
use Rattle.tree.specs.declared.Share.{Share}
use Rattle.tree.specs.declared.Decision.{Decision}
use Rattle.tree.specs.declared.Decision.TheVariants.{Leaf, Quad, Binary, Ternary}
use Rattle.tree.specs.Flags.{Chosen, Refused}
use Rattle.tree.specs.Kind.{Kind}
use Rattle.tree.specs.Splits.{rights_of, allows}
pub use Rattle.tree.specs.Splits.{is_split}
use Rattle.tree.specs.Flags.{decide, flags_for}
use Rattle.tree.specs.Children.{shares, child_qt, child_mtt, child, children_from, children, corner_inside}
use Rattle.tree.specs.Rows.{Row, row_of, own_rows}
use Rattle.tree.specs.Run.{End, goes, stops, Run, refuse, before, go_on, over_all}
use Rattle.tree.specs.Reading.{enter, walk, read_node}
use Rattle.laws.specs.Every.{Every, every_none, every_more}
use Rattle.laws.specs.Proper.{Proper}
use Rattle.laws.specs.Good.{Good}
use Rattle.laws.proofs.Tests.{never}
use Rattle.laws.proofs.Bytes.{reads_length}
use Rattle.laws.proofs.Flags.{decide_sound}
use Rattle.laws.proofs.Opens.{quad_open_lem}
use Rattle.laws.proofs.Parts.{every_child}
use Rattle.laws.proofs.Runs.{gives, over_here, over_gone}
use Rattle.laws.proofs.Edge.{no_dead_end}

-- ---- two runs over the same nodes

-- where two runs agree on each node of a list, they agree over the list
pub over_same : {A S : Type 0} (k : Kind) (f g : Node → S → Run A S) {ns : List Node} → Every (λ n. (s : S) → f n s ≡ g n s) ns → (s : S) → over_all k.limits f ns s ≡ over_all k.limits g ns s
unfolding over_all go_on
over_same k f g every_none s = refl
over_same {A} {S} k f g (every_more {a = n} {rest = ns} h hs) s = begin (corner_inside k.limits n) refl (over_same k f g hs)
  where
    next : ((t : S) → over_all k.limits f ns t ≡ over_all k.limits g ns t) → (given : List A) (end : End S)
        → go_on given end (λ t. over_all k.limits f ns t) ≡ go_on given end (λ t. over_all k.limits g ns t)
    next rest given (goes t) = ap (before given) (rest t)
    next rest given (stops a b) = refl

    begin : (b : Bool) → corner_inside k.limits n ≡ b → ((t : S) → over_all k.limits f ns t ≡ over_all k.limits g ns t) → over_all k.limits f (n ∷ ns) s ≡ over_all k.limits g (n ∷ ns) s
    begin true here rest = rw (over_here k f n ns s here, over_here k g n ns s here) (rw (h s) (next rest (g n s).given (g n s).end))
    begin false out rest = rw (over_gone k f n ns s out, over_gone k g n ns s out) (rest s)

-- ---- the levels of the children

-- an allowed split adds 1 to the depths
pub kid_depth : (k : Kind) (n : Node) (d : Decision) → is_split d ≡ true → allows (rights_of k n) d ≡ true → (p : Share)
    → (child k.limits n d p).qt + (child k.limits n d p).mtt ≡ suc (n.qt + n.mtt)
unfolding child child_qt child_mtt rights_of
kid_depth k n Leaf s ok p = never (cc)
kid_depth k n Quad s ok p = let z = (quad_open_lem k n ok).top in omega arith
kid_depth k n (Binary d) s ok p = omega arith
kid_depth k n (Ternary d) s ok p = omega arith

-- ---- one level

module _ (k : Kind) (flags : List ℕ) (n : Node) (deep : n.qt + n.mtt < 256) where
  -- the walk of the levels below the node
  abbrev below : Node → ℕ → Run Row ℕ
  below c next = walk (255 - (n.qt + n.mtt)) k flags c next

  level : (at : ℕ) → read_node k flags n at ≡ enter k n below (decide (rights_of k n) flags at)
  unfolding walk
  level at = ap (λ i. walk i k flags n at) (let e : 256 - (n.qt + n.mtt) ≡ suc (255 - (n.qt + n.mtt)) = omega arith in e)

  pub reading_refused : (at : ℕ) {a p : ℕ} → decide (rights_of k n) flags at ≡ Refused a p → read_node k flags n at ≡ refuse a p
  unfolding enter
  reading_refused at e = level at ∙ rw e

  pub reading_leaf : (at : ℕ) {next : ℕ} → decide (rights_of k n) flags at ≡ Chosen Leaf next → read_node k flags n at ≡ gives (row_of n ∷ []) next
  unfolding enter before own_rows children children_from shares over_all
  reading_leaf at e = level at ∙ rw e

  own_none : (d : Decision) → is_split d ≡ true → (r : Run Row ℕ) → before (own_rows n d) r ≡ r
  unfolding before own_rows
  own_none Leaf s r = never (cc)
  own_none Quad s r = refl
  own_none (Binary d) s r = refl
  own_none (Ternary d) s r = refl

  pub reading_split : (at : ℕ) {next : ℕ} {d : Decision} → decide (rights_of k n) flags at ≡ Chosen d next → allows (rights_of k n) d ≡ true → is_split d ≡ true
      → read_node k flags n at ≡ over_all k.limits (read_node k flags) (children k.limits n d) next
  unfolding enter
  reading_split at {next} {d} e ok s =
      level at
      ∙ rw e (own_none d s _ ∙ over_same k below (read_node k flags) (every_child k n d (λ p piece at. ap (λ i. walk i k flags (child k.limits n d p) at) (let q = kid_depth k n d s ok p in omega arith))) next)

-- what is decided at a good node in the picture is allowed
pub split_allowed : {k : Kind} → Proper k → {n : Node} → Good k.limits n → corner_inside k.limits n ≡ true → (flags : List ℕ) (at : ℕ) {next : ℕ} {d : Decision}
    → decide (rights_of k n) flags at ≡ Chosen d next → allows (rights_of k n) d ≡ true
split_allowed {k} v {n} g here flags at e = (decide_sound flags (rights_of k n) (no_dead_end v g here) e).ok

-- and as many flags are read as say it
pub split_reads : {k : Kind} → Proper k → {n : Node} → Good k.limits n → corner_inside k.limits n ≡ true → (flags : List ℕ) (at : ℕ) {next : ℕ} {d : Decision}
    → decide (rights_of k n) flags at ≡ Chosen d next → at + length (flags_for (rights_of k n) d) ≡ next
split_reads {k} v {n} g here flags at e = reads_length (decide_sound flags (rights_of k n) (no_dead_end v g here) e).reads
