-- The parts of a node whose open splits are known: the numbers that the search has for them, and that each is smaller than the node.
use Prim.Native.Nat.{ℕ, zero, suc, ◌+◌, ◌-◌, ◌*◌, ◌≤◌, ◌<◌}
use mathlib.Core.Path.{◌≡◌, refl, sym, ap, ◌∙◌}
use mathlib.Core.Bool.{Bool, true, false, not}
use mathlib.Core.List.{List, [], ◌∷◌}
use native.Mathlib.Omega.{arith}
use native.Mathlib.Decide.{ℕ_discrete}
use lib.ListN.{length}
use Rattle.sides.proofs.Bools.{or_none_left, or_none_right}
use Rattle.tree.specs.declared.Node.{Node}
use Rattle.tree.specs.declared.Direction.{Direction}
use Rattle.tree.specs.declared.Direction.TheVariants.{Horizontal, Vertical}
use Rattle.tree.specs.declared.Decision.{Decision}
use Rattle.tree.specs.declared.Decision.TheVariants.{Leaf, Quad, Binary, Ternary}
use Rattle.tree.specs.Kind.{Kind}
use Rattle.tree.specs.Splits.{is_split, is_out, right_out, bottom_out, out_along, rights_of, allows, open_splits}
use Rattle.tree.specs.Children.{shares, child_mtt, child_offset, child, children_from, children}
use Rattle.blocks.specs.Table.{share_at}
use Rattle.laws.specs.Proper.{Proper}
use Rattle.laws.proofs.Areas.{kids_areas}
use Rattle.laws.proofs.Opens.{binary_open_lem}
use Rattle.laws.proofs.Parts.{Piece, pieces}
use Rattle.laws.proofs.Picture.{cut_out}
use Rattle.laws.proofs.Tests.{never}
use Rattle.nodes.specs.Tables.{table_of}
use Rattle.nodes.specs.RowNodes.{child_row}
use Rattle.walks.specs.Stands.{word, area_in, keeps, Outer, AllStand, no_more, one_more}
use Rattle.walks.proofs.Below.{above_depths, below_depths, beside_binary, beside_ternary}
use Rattle.walks.proofs.Children.{kid_outer}
use Rattle.walks.proofs.Measure.{areas_in, some_area, each_area, same_areas}
use Rattle.walks.proofs.RowFields.{area_says}
use Rattle.search.specs.Walking.{Known, left_to, words_from, Falls}

-- ---- the numbers of the parts

-- the first of those that are left, and the others
pub words_next : (u : List ℕ) (row depths : ℕ) (out : Bool) (d : Decision) (i : ℕ) → i < length (shares d)
    → words_from u row depths out d i (length (shares d) - i) ≡ word (child_row row d i) (left_to u row depths out d i) ∷ words_from u row depths out d (i + 1) (length (shares d) - (i + 1))
unfolding words_from
words_next u row depths out d i h =
    let e : length (shares d) - i ≡ suc (length (shares d) - (i + 1)) = omega arith in
    ap (words_from u row depths out d i) e

pub words_end : (u : List ℕ) (row depths : ℕ) (out : Bool) (d : Decision) (i : ℕ) → length (shares d) ≤ i → words_from u row depths out d i (length (shares d) - i) ≡ []
unfolding words_from
words_end u row depths out d i h =
    let e : length (shares d) - i ≡ 0 = omega arith in
    ap (words_from u row depths out d i) e

-- ---- they stand for the children

module _ {k : Kind} (v : Proper k) {out : Bool} {splits : ℕ} {n : Node} {row depths : ℕ} (s : Known out splits k n (word row depths)) where
  module _ (d : Decision) (ok : allows (rights_of k n) d ≡ true) where
    part : (i : ℕ) (piece : Piece d (share_at d i)) {m : ℕ}
        → m ≡ (child k.limits n d (share_at d i)).offset * 64 + open_splits (keeps k.limits (child k.limits n d (share_at d i)))
        → Outer k (child k.limits n d (share_at d i)) (word (child_row row d i) m)
    part i piece e = kid_outer v s.placed s.row d ok i piece e

  -- inside the picture no cut divides what is out
  within : is_out k.limits n ≡ false → (e : Direction) → out_along e k.limits n ≡ false
  within h Horizontal = or_none_right (right_out k.limits n) _ h
  within h Vertical = or_none_left _ (bottom_out k.limits n) h

  binary_left : (d : Direction) → allows (rights_of k n) (Binary d) ≡ true → (o : Bool) → is_out k.limits n ≡ o → (i : ℕ)
      → let c = child k.limits n (Binary d) (share_at (Binary d) i) in left_to (table_of k) row depths o (Binary d) i ≡ c.offset * 64 + open_splits (keeps k.limits c)
  unfolding left_to
  binary_left d ok true e i = below_depths k n s.placed s.row s.depths d (cut_out k.limits n d (binary_open_lem k n d ok).across (ap not e)) i
  binary_left d ok false e i = beside_binary k n s.placed s.row s.depths d (within e d) i

  pub known_kids : (d : Decision) → allows (rights_of k n) d ≡ true → AllStand (Outer k) (children k.limits n d) (words_from (table_of k) row depths out d 0 (length (shares d) - 0))
  unfolding children children_from shares share_at words_from left_to child child_mtt child_offset
  known_kids Leaf ok = no_more
  known_kids Quad ok =
      let p = pieces Quad in
      let a : (i : ℕ) → _ = λ i. above_depths k (child k.limits n Quad (share_at Quad i)) refl refl in
      one_more (part Quad ok 0 p.0 (a 0)) (one_more (part Quad ok 1 p.1.0 (a 1)) (one_more (part Quad ok 2 p.1.1.0 (a 2)) (one_more (part Quad ok 3 p.1.1.1.0 (a 3)) no_more)))
  known_kids (Binary Horizontal) ok =
      let p = pieces (Binary Horizontal) in
      let b = binary_left Horizontal ok out s.edge in
      one_more (part (Binary Horizontal) ok 0 p.0 (b 0)) (one_more (part (Binary Horizontal) ok 1 p.1.0 (b 1)) no_more)
  known_kids (Binary Vertical) ok =
      let p = pieces (Binary Vertical) in
      let b = binary_left Vertical ok out s.edge in
      one_more (part (Binary Vertical) ok 0 p.0 (b 0)) (one_more (part (Binary Vertical) ok 1 p.1.0 (b 1)) no_more)
  known_kids (Ternary Horizontal) ok =
      let p = pieces (Ternary Horizontal) in
      let b = beside_ternary k n s.placed s.row s.depths Horizontal in
      one_more (part (Ternary Horizontal) ok 0 p.0 (b 0 refl)) (one_more (part (Ternary Horizontal) ok 1 p.1.0 (b 1 refl)) (one_more (part (Ternary Horizontal) ok 2 p.1.1.0 (b 2 refl)) no_more))
  known_kids (Ternary Vertical) ok =
      let p = pieces (Ternary Vertical) in
      let b = beside_ternary k n s.placed s.row s.depths Vertical in
      one_more (part (Ternary Vertical) ok 0 p.0 (b 0 refl)) (one_more (part (Ternary Vertical) ok 1 p.1.0 (b 1 refl)) (one_more (part (Ternary Vertical) ok 2 p.1.1.0 (b 2 refl)) no_more))

-- ---- each part is smaller than the node

module _ (u : List ℕ) (row depths : ℕ) (out : Bool) (d : Decision) where
  words_long : (many i : ℕ) → length (words_from u row depths out d i many) ≡ many
  unfolding words_from
  words_long zero i = refl
  words_long (suc many) i = ap suc (words_long many (i + 1))

  -- one of several areas, each 1 at least
  one_area : (many i j : ℕ) → i ≤ j → j < i + many → area_in (child_row row d j) + many ≤ areas_in (words_from u row depths out d i many) + 1
  unfolding areas_in words_from
  one_area zero i j l h = absurd (omega arith)
  one_area (suc many) i j l h = go (ℕ_discrete i j) (one_area many (i + 1) j)
    where
      go : Dec (i ≡ j) → (i + 1 ≤ j → j < i + 1 + many → area_in (child_row row d j) + many ≤ areas_in (words_from u row depths out d (i + 1) many) + 1)
          → area_in (child_row row d j) + suc many ≤ area_in (child_row row d i) + areas_in (words_from u row depths out d (i + 1) many) + 1
      go (yes e) later =
          let a = each_area (words_from u row depths out d (i + 1) many) in
          let b = words_long many (i + 1) in
          let same : area_in (child_row row d j) ≡ area_in (child_row row d i) = ap (λ (x : ℕ). area_in (child_row row d x)) (sym e) in
          omega arith
      go (no e) later =
          let a = some_area (child_row row d i) in
          let b = later (omega arith) (omega arith) in
          omega arith

-- a decision has four parts at most, a split two at least
pub four_parts : (d : Decision) → length (shares d) ≤ 4
unfolding shares
four_parts Leaf = omega arith
four_parts Quad = omega arith
four_parts (Binary d) = omega arith
four_parts (Ternary d) = omega arith

two_parts : (d : Decision) → is_split d ≡ true → 2 ≤ length (shares d)
unfolding shares
two_parts Leaf e = never (sym e)
two_parts Quad e = omega arith
two_parts (Binary d) e = omega arith
two_parts (Ternary d) e = omega arith

module _ {k : Kind} (v : Proper k) {out : Bool} {splits : ℕ} {n : Node} {row depths : ℕ} (s : Known out splits k n (word row depths)) where
  pub known_falls : (d : Decision) → is_split d ≡ true → allows (rights_of k n) d ≡ true → Falls row d
  known_falls d split ok = record {
    each = λ i h.
        let ws = words_from (table_of k) row depths out d 0 (length (shares d) - 0) in
        let all : areas_in ws ≡ area_in row =
        same_areas (λ n w o. area_says o.placed o.row) (known_kids v s d ok) ∙ kids_areas k.limits s.placed.good.shape d split ∙ sym (area_says s.placed s.row) in
        let two = two_parts d split in
        let one = one_area (table_of k) row depths out d (length (shares d) - 0) 0 i (omega arith) (omega arith) in
        omega arith;
  }
