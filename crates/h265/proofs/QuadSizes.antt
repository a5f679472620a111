-- The rows and flags of an H.265 unit by its samples: a row has those of a block of the smallest side at least, and a flag those of three such blocks, beside
-- the one that each node has.
use Prim.Native.Nat.{ℕ, ◌+◌, ◌*◌, ◌≤◌, ◌<◌}
use mathlib.Core.Path.{◌≡◌, refl, ap}
use mathlib.Core.Bool.{Bool, true, false}
use mathlib.Core.List.{List}
use native.Mathlib.Omega.{arith}
use native.Mathlib.Nat.{mul-le-mul, mul-le-mul_left}
use borrow.Author.Tests.{ltb-true}
use lib.ListN.{length}
use lib.Dec.{ltb}
use Rattle.sides.proofs.Bools.{clash}
use Rattle.tree.specs.declared.Limits.{Limits}
use Rattle.tree.specs.declared.Node.{Node}
use Rattle.tree.specs.declared.Direction.TheVariants.{Vertical}
use Rattle.tree.specs.declared.Decision.{Decision}
use Rattle.tree.specs.declared.Decision.TheVariants.{Leaf, Quad, Binary, Ternary}
use Rattle.tree.specs.Kind.{luma}
use Rattle.tree.specs.Splits.{inside, Rights, rights_of, allows}
use Rattle.tree.specs.Children.{children, children_from, shares}
use Rattle.tree.specs.Tree.{Tree, Trees, none, skip, node, rows_of}
use Rattle.laws.specs.Areas.{areas_of}
use Rattle.laws.specs.Counts.{flags_at, flag_count}
use Rattle.laws.specs.Every.{Every, every_none, every_more}
use Rattle.laws.specs.Good.{Good}
use Rattle.laws.specs.Proper.{Proper}
use Rattle.laws.proofs.Areas.{kids_areas}
use Rattle.laws.proofs.Every.{every_both}
use Rattle.laws.proofs.Edge.{good_kids}
use Rattle.laws.proofs.EveryRow.{every_row_lem}
use Rattle.laws.proofs.Leaves.{leaf_side}
use Rattle.laws.proofs.Multiples.{fold_least, fold_multiple, same_multiple, apart}
use Rattle.laws.proofs.Sizes.{rows_of_sides}
use Rattle.h265.proofs.QuadNodes.{quad_rights, quad_rights_lem, Flat, flat_kids}

-- a node that a walk reaches, above all cuts
abbrev pub Whole : Limits → Node → Type 0
Whole l n = Good l n × Flat n

module _ (l : Limits) (flat : l.maxmtt ≡ 0) (v : Proper (luma l)) where
  -- the samples of a block of the smallest side
  abbrev block : ℕ
  block = l.minqt * l.minqt

  module _ {n : Node} (g : Whole l n) where
    across : l.minqt ≤ n.w
    across = fold_least ((g.0.top g.1.0).side Vertical)

    square : n.w ≡ n.h
    square = g.0.shape.square g.1.0

    one_block : block ≤ n.w * n.h
    one_block = let a = across in let s = square in mul-le-mul a (omega arith)

    four_blocks : l.minqt < n.w → 4 * block ≤ n.w * n.h
    four_blocks h =
        let a = apart (same_multiple l.minqt) (fold_multiple ((g.0.top g.1.0).side Vertical)) h in
        let s = square in
        let b : l.minqt + l.minqt ≤ n.h = omega arith in
        let p = mul-le-mul a b in
        omega arith

    rights : rights_of (luma l) n ≡ quad_rights (inside l n) (ltb l.minqt n.w)
    rights = quad_rights_lem l flat n g.1.0 g.1.1

    leaf_flags_lem : (within larger : Bool) → ltb l.minqt n.w ≡ larger → block * (3 * flags_at (quad_rights within larger) Leaf + 1) ≤ n.w * n.h
    leaf_flags_lem true true e = let f = four_blocks (ltb-true _ _ e) in omega arith
    leaf_flags_lem true false e = let o = one_block in omega arith
    leaf_flags_lem false larger e = let o = one_block in omega arith

    quad_flags : (within larger : Bool) → flags_at (quad_rights within larger) Quad ≤ 1
    quad_flags true true = omega arith
    quad_flags true false = omega arith
    quad_flags false true = omega arith
    quad_flags false false = omega arith

    -- three blocks for each flag of a decision, and one for the node, have room beside the children
    decision_flags : (d : Decision) → allows (rights_of (luma l) n) d ≡ true
        → block * (3 * flags_at (rights_of (luma l) n) d + 1) + areas_of (children l n d) ≤ n.w * n.h + block * length (children l n d)
    unfolding children children_from shares areas_of
    decision_flags Leaf ok = let f = leaf_flags_lem (inside l n) (ltb l.minqt n.w) refl in rw rights (omega arith)
    decision_flags Quad ok =
        let a = kids_areas l g.0.shape Quad refl in
        let f = mul-le-mul_left block (quad_flags (inside l n) (ltb l.minqt n.w)) in
        rw rights (omega arith)
    decision_flags (Binary d) ok = clash ok (ap (λ (r : Rights). r.binary d) rights)
    decision_flags (Ternary d) ok = clash ok (ap (λ (r : Rights). r.ternary d) rights)

    whole_kids : (d : Decision) → allows (rights_of (luma l) n) d ≡ true → Every (Whole l) (children l n d)
    whole_kids d ok = every_both (good_kids v g.0 d ok) (flat_kids l flat n g.1 d ok)

  -- no row is smaller than a block of the smallest side
  pub tree_rows : {n : Node} → Whole l n → (t : Tree (luma l) n) → block * length (rows_of t) ≤ n.w * n.h
  tree_rows g t =
      rows_of_sides v g.0.shape t l.minqt
      (every_row_lem (luma l) (λ n w d ok. whole_kids w d ok) (λ n w i e. rw (leaf_side w.0.shape e) (fold_least ((w.0.top w.1.0).side e))) t (every_more g every_none))

  pub tree_flags : {ns : List Node} (t : Trees (luma l) ns) → Every (Whole l) ns → block * (3 * flag_count t + length ns) ≤ areas_of ns
  unfolding flag_count areas_of
  tree_flags none gs = omega arith
  tree_flags (skip out rest) (every_more g gs) = let a = tree_flags rest gs in let b = one_block g in omega arith
  tree_flags (node {n = n} d here ok kids rest) (every_more g gs) =
      let a = tree_flags kids (whole_kids g d ok) in
      let b = tree_flags rest gs in
      let c = decision_flags g d ok in
      omega arith
