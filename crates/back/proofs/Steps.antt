-- The way back of one node, in the terms of the code of a walk.
use Prim.Native.Nat.{ℕ, ◌+◌, ◌*◌, ◌/◌, ◌%◌, ◌<◌, ◌≤◌}
use mathlib.Core.Path.{◌≡◌, refl, sym, ap, ap₂, subst, ◌∙◌}
use mathlib.Core.Bool.{Bool, true, false, not, ◌&&◌, cond}
use mathlib.Core.List.{List, [], ◌∷◌}
use native.Mathlib.Omega.{arith}
use lib.Dec.{ltb, eqb}
use lib.ListN.{length, take}
use borrow.Author.Tests.{lt-ltb, ltb-true, eqb-true, eq-eqb}
use Rattle.sides.proofs.Bools.{clash, and_left, and_right}
use Rattle.tree.specs.declared.Node.{Node}
use Rattle.tree.specs.declared.Decision.{Decision}
use Rattle.tree.specs.declared.Direction.TheVariants.{Horizontal, Vertical}
use Rattle.tree.specs.declared.Decision.TheVariants.{Leaf, Quad, Binary}
use Rattle.tree.specs.Kind.{Kind}
use Rattle.tree.specs.Splits.{has, is_split, right_out, bottom_out, is_out, Rights, rights_of, rights_in, allows}
use Rattle.tree.specs.Flags.{flags_for}
use Rattle.tree.specs.Children.{corner_inside}
use Rattle.laws.specs.Areas.{areas_of, flag_room}
use Rattle.laws.proofs.Areas.{least_area}
use Rattle.laws.proofs.Counts.{flags_four}
use Rattle.nodes.specs.State.{refusal, place_of, given_of}
use Rattle.nodes.specs.Tables.{limits_in}
use Rattle.nodes.specs.RowNodes.{node_in, out_in}
use Rattle.walks.specs.Stands.{Word, word, Placed, Inside, Outer}
use Rattle.walks.specs.Kids.{inner_kids, outer_kids}
use Rattle.walks.specs.Walks.{Asked, Walked}
use Rattle.walks.proofs.Apart.{tested_not}
use Rattle.walks.proofs.AtEdge.{corner_is, right_is, bottom_is, out_is}
use Rattle.walks.proofs.Children.{inside_placed, outer_placed}
use Rattle.walks.proofs.MaskLaws.{splits_small}
use Rattle.walks.proofs.One.{Stored, some_case}
use Rattle.walks.proofs.Open.{out_one_cut}
use Rattle.walks.proofs.Split.{Split, inner_split, outer_split}
use Rattle.marks.specs.Table.{word_at, Eight, Same}
use Rattle.marks.specs.Marks.{Divided, Read}
use Rattle.flags.specs.Puts.{Follows}
use Rattle.back.specs.Walking.{back_way, own_next}
use Rattle.marks.proofs.NextRows.{rows_cells}
use Rattle.back.proofs.Turned.{Sees, walked_none, walked_closed, walked_leaf, turned}
use Rattle.back.proofs.Decided.{own_sees, split_sees, split_shut, out_sees}

-- ---- numbers of a state

-- what is stored after what was given so far
pub as_stored : (bytes : List ℕ) {c : ℕ} {b fs z : List ℕ} {m : ℕ} → Follows b (given_of c) fs z m → Stored (back_way bytes) c b fs z
as_stored bytes {c} {b} {fs} {z} p = record { long = p.long; first = ap (λ (i : ℕ). take i z) (sym p.count) ∙ p.given }

module _ {bytes : List ℕ} {stands : Kind → Node → Word → Type 0} {u : List ℕ} {c : ℕ} {w : Word} (placed : (k : Kind) (n : Node) (v : Word) → stands k n v → Placed k.limits n) (asked : Asked (back_way bytes) stands u c (w ∷ [])) where
  -- the state is at the first byte of a row, and there is room for the flags of the node
  pub in_room : (place_of c % 8 ≡ 0) × (place_of c ≤ 8192) × (given_of c + 4 ≤ 2048)
  unfolding areas_of flag_room
  in_room = some_case (back_way bytes) stands u c w asked (λ k n rows at.
      let a = least_area (placed k n w at.stands_for).good.shape in
      let q = at.room.for_rows in
      let t = at.room.for_flags in
      let i = at.placed.first in
      let j = at.placed.within in
      let r = rows_cells bytes (place_of c / 8) (omega arith) in
      (i, omega arith, omega arith))

  -- the state of its children, once its flags are put
  put_on : (rights : Rights) (d : Decision) {at i m r : ℕ} {b z : List ℕ} → at ≡ place_of c → i ≡ given_of c → Follows b i (flags_for rights d) z m → r ≡ at % 4294967296 + m % 4294967296 * 4294967296
      → (place_of r ≡ place_of c) × (given_of r ≡ given_of c + length (flags_for rights d)) × Stored (back_way bytes) c b (flags_for rights d) z
  put_on rights d {m = m} {b = b} {z = z} place count put e =
      let room = in_room.2 in
      let four = flags_four rights d in
      let n = put.count in
      (omega arith, omega arith, as_stored bytes (subst (λ (j : ℕ). Follows b j (flags_for rights d) z m) count put))

-- ---- nodes inside the picture

module _ {bytes u marks : List ℕ} {c row bound splits at : ℕ} (asked : Asked (back_way bytes) (Inside bound) u c (word row splits ∷ [])) (read : Read u bytes marks) (place : at ≡ place_of c) where
  room : (place_of c % 8 ≡ 0) × (place_of c ≤ 8192) × (given_of c + 4 ≤ 2048)
  room = in_room (λ k n v s. s.placed) asked

  pub at_row : (length bytes % 8 ≡ 0) × (at % 8 ≡ 0)
  at_row = (read.whole, let r = room.0 in omega arith)

  pub row_there : at < length bytes → at + 8 ≤ length bytes
  row_there h = let r = room.0 in let v = read.whole in omega arith

  few_splits : splits < 32
  few_splits = some_case (back_way bytes) (Inside bound) u c (word row splits) asked (λ k n rows at. let s = splits_small (rights_of k n) in let e = at.stands_for.splits in omega arith)

  pub leaf_room : (given_of c < 2048) × (place_of c ≤ 8192) × (splits < 32)
  leaf_room = let r = room.2 in (omega arith, room.1, few_splits)

  module _ {same : Bool} (tests : Same bytes at row same) where
    -- the own row is next
    pub walked_own : same ≡ true → {b z : List ℕ} {r : ℕ} → Follows b (given_of c) (flags_for (rights_in false splits) Leaf) z (given_of r) × (place_of r ≡ place_of c + 8)
        → Walked (back_way bytes) (Inside bound) u c (word row splits ∷ []) b r z
    walked_own yes-own {b} {z} {r} put =
        let both = sym tests.tests ∙ yes-own in
        let there = ltb-true at (length bytes) (and_left _ (eqb (word_at bytes at) row) both) in
        let own = eqb-true (word_at bytes at) row (and_right (ltb at (length bytes)) _ both) in
        let more = subst (λ (i : ℕ). i + 8 ≤ length bytes) place (row_there there) in
        let eight = subst (λ (i : ℕ). Eight bytes i) place (tests.eight there) in
        walked_leaf bytes (Inside bound) u c (word row splits) more (own_sees more eight (subst (λ (i : ℕ). word_at bytes i ≡ row) place own)) refl
        (as_stored bytes put.0) put.0.count refl put.1

    pub not_own : same ≡ false → own_next bytes c row ≡ false
    not_own other = subst (λ (i : ℕ). (ltb i (length bytes) && eqb (word_at bytes i) row) ≡ false) place (sym tests.tests ∙ other)

  -- no row is left
  pub walked_nothing : length bytes ≤ at → {b : List ℕ} → Walked (back_way bytes) (Inside bound) u c (word row splits ∷ []) b (refusal 16 0) b
  walked_nothing h = walked_none bytes (Inside bound) u c (word row splits) (λ k n rows at. (at.stands_for.here, at.stands_for.placed)) (omega arith)

  -- a row that is not the node's own, and what the marks say
  module _ (other : own_next bytes c row ≡ false) (there : at < length bytes) {next : ℕ} (word_is : (next ≡ word_at bytes at) × Eight bytes at) {d : Decision} (divides : Divided marks row next at d) where
    more : place_of c + 8 ≤ length bytes
    more = subst (λ (i : ℕ). i + 8 ≤ length bytes) place (row_there there)

    eight : Eight bytes (place_of c)
    eight = subst (λ (i : ℕ). Eight bytes i) place word_is.1

    differs : ¬ (word_at bytes (place_of c) ≡ row)
    differs e = clash (eq-eqb _ _ e) (rw (lt-ltb (place_of c) (length bytes) (omega arith)) at other)

    divides_here : Divided marks row (word_at bytes (place_of c)) (place_of c) d
    divides_here = subst (λ (i : ℕ). Divided marks row (word_at bytes i) i d) place (subst (λ (x : ℕ). Divided marks row x at d) word_is.0 divides)

    pub walked_shut : {ok : Bool} → ok ≡ allows (rights_in false splits) d → not ok ≡ true → {b : List ℕ} → Walked (back_way bytes) (Inside bound) u c (word row splits ∷ []) b (refusal 16 0) b
    walked_shut e h = walked_closed bytes (Inside bound) u c (word row splits) more (split_shut more eight read differs divides_here (tested_not e h))

    -- its flags are put, and its children are walked
    pub splits_inside : allows (rights_in false splits) d ≡ true → {b z : List ℕ} {i m r : ℕ} → i ≡ given_of c → Follows b i (flags_for (rights_in false splits) d) z m → r ≡ at % 4294967296 + m % 4294967296 * 4294967296
        → Split (back_way bytes) c d b r z (Inside bound) u (word row splits) (inner_kids u row bound d)
    splits_inside ok count put e =
        let on = put_on (inside_placed bound) asked (rights_in false splits) d place count put e in
        inner_split divides.split (turned bytes (Inside bound) u c (word row splits) more (split_sees more eight read differs divides_here ok) ok on.2 on.1 on.0 divides.split)

-- ---- nodes that are out

module _ {bytes u marks : List ℕ} {c row depths at : ℕ} (asked : Asked (back_way bytes) Outer u c (word row depths ∷ [])) (read : Read u bytes marks) (place : at ≡ place_of c) where
  pub out_row_there : at < length bytes → at + 8 ≤ length bytes
  out_row_there h = let r = (in_room outer_placed asked).0 in let v = read.whole in omega arith

  module _ (begins : corner_inside (limits_in u) (node_in row) ≡ true) (out : is_out (limits_in u) (node_in row) ≡ true) where
    -- no row is left
    pub out_nothing : length bytes ≤ at → {b : List ℕ} → Walked (back_way bytes) Outer u c (word row depths ∷ []) b (refusal 16 0) b
    out_nothing h = walked_none bytes Outer u c (word row depths) (λ k n rows i. (sym (corner_is i.table i.stands_for) ∙ begins, i.stands_for.placed)) (omega arith)

    module _ {splits : ℕ} (e : splits ≡ out_in u row depths (right_out (limits_in u) (node_in row)) (bottom_out (limits_in u) (node_in row))) where
      -- no ternary cut is open there, and one binary cut at most
      pub one_cut : (has splits 8 ≡ false) × (has splits 16 ≡ false) × ((has splits 2 && has splits 4) ≡ false)
      one_cut = some_case (back_way bytes) Outer u c (word row depths) asked (λ k n rows i.
          let o = i.stands_for in
          subst (λ (s : ℕ). (has s 8 ≡ false) × (has s 16 ≡ false) × ((has s 2 && has s 4) ≡ false))
          (sym (e ∙ ap₂ (λ x y. out_in u row depths x y) (right_is i.table o) (bottom_is i.table o) ∙ ap (λ t. out_in t row depths (right_out k.limits n) (bottom_out k.limits n)) i.table))
          (out_one_cut i.proper o (sym (corner_is i.table o) ∙ begins) (ap not (sym (out_is i.table o) ∙ out))))

      module _ (there : at < length bytes) {next : ℕ} (word_is : (next ≡ word_at bytes at) × Eight bytes at) {bottom : Bool} (b-is : bottom ≡ bottom_out (limits_in u) (node_in row))
          {d : Decision} (d-is : d ≡ cond (ltb (node_in row).qt (node_in next).qt) Quad (cond bottom (Binary Horizontal) (Binary Vertical))) where
        out_more : place_of c + 8 ≤ length bytes
        out_more = subst (λ (i : ℕ). i + 8 ≤ length bytes) place (out_row_there there)

        edge_sees : Sees bytes Outer u c (word row depths) (rights_in true splits) d
        edge_sees = subst (λ (s : ℕ). Sees bytes Outer u c (word row depths) (rights_in true s) d) (sym e)
            (out_sees out_more (subst (λ (i : ℕ). Eight bytes i) place word_is.1) begins out
            (d-is ∙ ap₂ (λ x y. cond (ltb (node_in row).qt (node_in x).qt) Quad (cond y (Binary Horizontal) (Binary Vertical))) (word_is.0 ∙ ap (word_at bytes) place) b-is))

        edge_split : is_split d ≡ true
        edge_split = rw d-is (go (ltb (node_in row).qt (node_in next).qt) bottom)
          where
            go : (a b : Bool) → is_split (cond a Quad (cond b (Binary Horizontal) (Binary Vertical))) ≡ true
            go true b = refl
            go false true = refl
            go false false = refl

        pub edge_shut : {ok : Bool} → ok ≡ allows (rights_in true splits) d → not ok ≡ true → {b : List ℕ} → Walked (back_way bytes) Outer u c (word row depths ∷ []) b (refusal 16 0) b
        edge_shut f h = walked_closed bytes Outer u c (word row depths) out_more (λ k n rows i. (d, edge_sees.seen i, ap (λ r. allows r d) (edge_sees.rights_of_lem i) ∙ tested_not f h))

        -- its flags are put, and its children are walked
        pub splits_out : allows (rights_in true splits) d ≡ true → {b z : List ℕ} {i m r : ℕ} → i ≡ given_of c → Follows b i (flags_for (rights_in true splits) d) z m → r ≡ at % 4294967296 + m % 4294967296 * 4294967296
            → Split (back_way bytes) c d b r z Outer u (word row depths) (outer_kids u row depths d)
        splits_out ok count put f =
            let on = put_on outer_placed asked (rights_in true splits) d place count put f in
            outer_split edge_split out (turned bytes Outer u c (word row depths) out_more edge_sees ok on.2 on.1 on.0 edge_split)
