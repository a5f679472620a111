-- The open splits of a node, by the numbers that the code has: inside the picture by the masks of its sides and of its area, out of it by these and the edge.
use Prim.Native.Nat.{ℕ, ◌+◌, ◌*◌, ◌/◌, ◌%◌, ◌<◌}
use mathlib.Core.Path.{◌≡◌, refl, sym, ap, ◌∙◌}
use mathlib.Core.Bool.{Bool, true, false, not, ◌&&◌, ◌||◌, cond}
use lib.Dec.{ltb}
use native.Mathlib.Omega.{arith}
use Rattle.sides.proofs.Bools.{clash, and_no, or_none_left}
use Rattle.sides.specs.Side.{exponent}
use Rattle.tree.specs.declared.Node.{Node}
use Rattle.tree.specs.declared.Direction.{Direction}
use Rattle.tree.specs.declared.Direction.TheVariants.{Horizontal, Vertical}
use Rattle.tree.specs.declared.Decision.TheVariants.{Quad, Binary, Ternary}
use Rattle.tree.specs.Kind.{Kind, closes}
use Rattle.tree.specs.Splits.{bit, has, right_out, bottom_out, inside, ternary_needs, ternary_open, Rights, rights_of, open_splits, rights_in}
use Rattle.tree.specs.Children.{corner_inside}
use Rattle.tree.specs.Rows.{row_of}
use Rattle.tree.proofs.Masks.{rights_back}
use Rattle.blocks.specs.RowNumbers.{row_word}
use Rattle.laws.specs.Proper.{Proper}
use Rattle.laws.proofs.Edge.{out_sixteen}
use Rattle.laws.proofs.Opens.{binary_open_lem}
use Rattle.laws.proofs.Picture.{cut_out}
use Rattle.nodes.specs.Tables.{side_rights, leaving, both, width_rights, height_rights, table_of}
use Rattle.nodes.specs.RowNodes.{inner_in, edge_cut, out_in, bound_in}
use Rattle.walks.specs.Stands.{word, keeps, Placed, Outer, Inside}
use Rattle.walks.proofs.Sides.{width_mask_lem, height_mask_lem, area_mask_lem}
use Rattle.walks.proofs.MaskLaws.{splits_and, and_splits}
use Rattle.walks.proofs.RowFields.{Fits, fits, row_says, offset_says}
use Rattle.walks.proofs.SideRules.{by_sides, quad_side, binary_side, ternary_side}
use Rattle.walks.proofs.EdgeRules.{edge_open, binary_edge, ternary_edge}

-- rights that leave the same splits open
same_splits : (a b : Rights) → a.quad ≡ b.quad → ((d : Direction) → a.binary d ≡ b.binary d) → ((d : Direction) → a.ternary d ≡ b.ternary d) → open_splits a ≡ open_splits b
unfolding open_splits
same_splits a b q s t = rw (q, s Horizontal, s Vertical, t Horizontal, t Vertical)

-- what a kind closes by the width and by the area, taken out of what the sides leave
apart : (kept by_width by_height width area : Bool) → (((kept && (not width && by_width)) && by_height) && not area) ≡ (not (width || area) && ((kept && by_width) && by_height))
apart true w true true area = refl
apart true w false true area = refl
apart false w h true area = refl
apart true true true false true = refl
apart true true true false false = refl
apart true true false false true = refl
apart true true false false false = refl
apart true false h false true = refl
apart true false h false false = refl
apart false w h false true = refl
apart false w h false false = refl

and_true : (a : Bool) → (a && true) ≡ a
and_true true = refl
and_true false = refl

and_after : (a b c : Bool) → ((a && b) && c) ≡ (a && (b && c))
and_after true b c = refl
and_after false b c = refl

-- ---- the masks of a node

-- what its depths leave, as far as its masks do
abbrev by_masks : Kind → Node → Rights
by_masks k n = both (both (both (keeps k.limits n) (width_rights k n.w)) (height_rights k n.h)) (leaving (k.by_area (n.w / 2 * (n.h / 2))))

-- that is what its depths and its sides leave, less what the kind closes
module _ (k : Kind) (n : Node) where
  masks_quad : (by_masks k n).quad ≡ (not (closes k n Quad) && (by_sides k.limits n).quad)
  masks_quad = apart (keeps k.limits n).quad (side_rights Vertical k.limits n.w).quad (side_rights Horizontal k.limits n.h).quad (k.by_width (n.w / 2) Quad) (k.by_area (n.w / 2 * (n.h / 2)) Quad)

  masks_binary : (d : Direction) → (by_masks k n).binary d ≡ (not (closes k n (Binary d)) && (by_sides k.limits n).binary d)
  masks_binary d =
      apart ((keeps k.limits n).binary d) ((side_rights Vertical k.limits n.w).binary d) ((side_rights Horizontal k.limits n.h).binary d) (k.by_width (n.w / 2) (Binary d)) (k.by_area (n.w / 2 * (n.h / 2)) (Binary d))

  masks_ternary : (d : Direction) → (by_masks k n).ternary d ≡ (not (closes k n (Ternary d)) && (by_sides k.limits n).ternary d)
  masks_ternary d =
      apart ((keeps k.limits n).ternary d) ((side_rights Vertical k.limits n.w).ternary d) ((side_rights Horizontal k.limits n.h).ternary d) (k.by_width (n.w / 2) (Ternary d)) (k.by_area (n.w / 2 * (n.h / 2)) (Ternary d))

-- for any row with its exponents, and with anything above the five digits of what its depths leave
pub masked : (k : Kind) {n : Node} → Fits n → (row : ℕ) → row / 4294967296 % 8 ≡ exponent n.w → row / 1099511627776 % 8 ≡ exponent n.h → (m : ℕ)
    → inner_in (table_of k) row (m * 32 + open_splits (keeps k.limits n)) ≡ open_splits (by_masks k n)
masked k {n} f row at_w at_h m =
    rw (
      at_w,
      at_h,
      width_mask_lem k f.wide,
      height_mask_lem k f.high,
      area_mask_lem k f.wide f.high,
      and_splits m (keeps k.limits n) (width_rights k n.w),
      splits_and (both (keeps k.limits n) (width_rights k n.w)) (height_rights k n.h),
    )
    (splits_and (both (both (keeps k.limits n) (width_rights k n.w)) (height_rights k n.h)) (leaving (k.by_area (n.w / 2 * (n.h / 2)))))

module _ (k : Kind) {n : Node} (f : Fits n) where
  -- inside the picture
  pub inner_open : n.w + n.h < 256 → inside k.limits n ≡ true → open_splits (by_masks k n) ≡ open_splits (rights_of k n)
  unfolding rights_of
  inner_open small within =
      same_splits (by_masks k n) (rights_of k n)
      (masks_quad k n ∙ ap (λ b. not (closes k n Quad) && b) (quad_side k.limits n))
      (λ d. masks_binary k n d ∙ ap (λ b. not (closes k n (Binary d)) && b) (binary_side k.limits n f.wide f.high small within d))
      (λ d. masks_ternary k n d ∙ ap (λ b. not (closes k n (Ternary d)) && b) (ternary_side k.limits n f.wide f.high small within d))

-- out of the picture
module _ (k : Kind) {n : Node} {row : ℕ} (p : Placed k.limits n) (is : row ≡ row_word (row_of n)) where
  module _ (v : Proper k) (here : corner_inside k.limits n ≡ true) (out : inside k.limits n ≡ false) where
    abbrev right : Bool
    right = right_out k.limits n

    abbrev bottom : Bool
    bottom = bottom_out k.limits n

    -- QT and the cut of the edge
    abbrev edge_rights : Bool → Rights
    edge_rights quad = record { within = true; quad = true; binary = edge_open right bottom quad; ternary = λ d. false }

    edge_number : (r b q : Bool) → 1 + cond b (cond (r && q) 0 2) 4 ≡ bit true 1 + bit (b && not (r && q)) 2 + bit (not b) 4 + 0 + 0
    edge_number true true true = refl
    edge_number true true false = refl
    edge_number false true q = refl
    edge_number r false q = refl

    -- in the picture's corner both sides are 16 at least, and the kind closes no QT there
    edge_quad : (r b : Bool) → right ≡ r → bottom ≡ b → (d : Direction) → edge_open r b (width_rights k n.w).quad d ≡ edge_open r b (ltb k.limits.minqt n.w) d
    edge_quad true true er eb Horizontal =
        let w = out_sixteen v p.good here out Vertical er in
        let h = out_sixteen v p.good here out Horizontal eb in
        rw (or_none_left (k.by_width (n.w / 2) Quad) (k.by_area (n.w / 2 * (n.h / 2)) Quad) (v.quad n w h))
    edge_quad true false er eb Horizontal = refl
    edge_quad false b er eb Horizontal = refl
    edge_quad r b er eb Vertical = refl

    abbrev edge : Rights
    edge = edge_rights (width_rights k n.w).quad

    edge_is : 1 + edge_cut (table_of k) row right bottom ≡ open_splits edge
    unfolding open_splits
    edge_is =
        rw ((row_says p is).at_w, width_mask_lem k (fits p).wide, ap (λ r. r.quad) (rights_back (width_rights k n.w)))
        (edge_number right bottom (width_rights k n.w).quad)

    out_masks : open_splits (both (by_masks k n) edge) ≡ open_splits (rights_of k n)
    unfolding rights_of
    out_masks =
        same_splits (both (by_masks k n) edge) (rights_of k n)
        (and_true (by_masks k n).quad ∙ masks_quad k n ∙ ap (λ b. not (closes k n Quad) && b) (quad_side k.limits n))
        (λ d. ap (λ b. b && edge.binary d) (masks_binary k n d) ∙ and_after (not (closes k n (Binary d))) _ _
        ∙ ap (λ b. not (closes k n (Binary d)) && b) (ap (λ e. (by_sides k.limits n).binary d && e) (edge_quad right bottom refl refl d) ∙ binary_edge k.limits n out d))
        (λ d. ap (λ b. b && false) (masks_ternary k n d) ∙ and_after (not (closes k n (Ternary d))) _ _
        ∙ ap (λ b. not (closes k n (Ternary d)) && b) (ternary_edge k.limits n out d))

    pub out_open : (m : ℕ) → out_in (table_of k) row (m * 32 + open_splits (keeps k.limits n)) right bottom ≡ open_splits (rights_of k n)
    out_open m = rw (masked k (fits p) row (row_says p is).at_w (row_says p is).at_h m, edge_is) (splits_and (by_masks k n) edge ∙ out_masks)

-- ---- the numbers that stand for a node

-- a number of open splits says the rights
pub rights_of_lem : (k : Kind) (n : Node) (within : Bool) → inside k.limits n ≡ within → rights_of k n ≡ rights_in (not within) (open_splits (rights_of k n))
unfolding rights_of
rights_of_lem k n within e = sym (rights_back (rights_of k n)) ∙ ap (λ b. rights_in (not b) (open_splits (rights_of k n))) e

pub inside_rights : {bound : ℕ} {k : Kind} {n : Node} {row splits : ℕ} → Inside bound k n (word row splits) → rights_of k n ≡ rights_in false splits
inside_rights {k = k} {n = n} s = rights_of_lem k n true s.within ∙ ap (λ m. rights_in false m) (sym s.splits)

module _ {k : Kind} (v : Proper k) {n : Node} {row depths : ℕ} (s : Outer k n (word row depths)) where
  -- what its depths leave, with its offset above
  depths_is : depths ≡ n.offset * 2 * 32 + open_splits (keeps k.limits n)
  depths_is = let e = s.depths in omega arith

  module _ (here : corner_inside k.limits n ≡ true) (out : inside k.limits n ≡ false) where
    abbrev pub out_splits : ℕ
    out_splits = out_in (table_of k) row depths (right_out k.limits n) (bottom_out k.limits n)

    out_splits_lem : out_splits ≡ open_splits (rights_of k n)
    out_splits_lem = rw depths_is (out_open k s.placed s.row v here out (n.offset * 2))

    pub out_rights : rights_of k n ≡ rights_in true out_splits
    out_rights = rights_of_lem k n false out ∙ ap (λ m. rights_in true m) (sym out_splits_lem)

    -- no ternary cut is open, and one binary cut at most
    no_ternary : (d : Direction) → (rights_of k n).ternary d ≡ false
    unfolding rights_of ternary_open
    no_ternary d = and_no (not (closes k n (Ternary d))) _ (and_no (ternary_needs k.limits n d) (inside k.limits n) out)

    one_binary : (h v : Bool) → (rights_of k n).binary Horizontal ≡ h → (rights_of k n).binary Vertical ≡ v → (h && v) ≡ false
    one_binary true true eh ev =
        clash (cut_out k.limits n Horizontal (binary_open_lem k n Horizontal eh).across out) (sym (and_true (bottom_out k.limits n)) ∙ (binary_open_lem k n Vertical ev).across)
    one_binary true false eh ev = refl
    one_binary false v eh ev = refl

    pub out_one_cut : (has out_splits 8 ≡ false) × (has out_splits 16 ≡ false) × ((has out_splits 2 && has out_splits 4) ≡ false)
    out_one_cut =
        let is = sym out_rights in
        (ap (λ r. r.ternary Horizontal) is ∙ no_ternary Horizontal, ap (λ r. r.ternary Vertical) is ∙ no_ternary Vertical, ap (λ r. r.binary Horizontal && r.binary Vertical) is ∙ one_binary _ _ refl refl)

  -- inside the picture its numbers are those of an inner node
  pub handed_over : corner_inside k.limits n ≡ true → inside k.limits n ≡ true → Inside (bound_in (table_of k) depths) k n (word row (inner_in (table_of k) row depths))
  unfolding table_of
  handed_over here within = record {
    placed = s.placed;
    here = here;
    within = within;
    row = s.row;
    splits = rw depths_is (masked k (fits s.placed) row (row_says s.placed s.row).at_w (row_says s.placed s.row).at_h (n.offset * 2) ∙ inner_open k (fits s.placed) (s.small within) within);
    bounded = rw (offset_says k.limits n s.depths);
  }
