-- The depths of a row: a split adds at most 1 to their sum and takes at least 1 from the sum of the sides' powers.
use Prim.Native.Nat.{ℕ, ◌+◌, ◌*◌, ◌^◌, ◌≤◌, ◌<◌}
use mathlib.Core.Path.{◌≡◌, sym, ap, ◌∙◌}
use mathlib.Core.Bool.{true}
use native.Mathlib.Omega.{arith}
use native.Mathlib.Decide.{dec_lt}
use lib.Pow.{pow-lt}
use Rattle.tree.specs.declared.Node.{Node}
use Rattle.tree.specs.declared.Share.{Share}
use Rattle.tree.specs.declared.Direction.TheVariants.{Horizontal, Vertical}
use Rattle.tree.specs.declared.Decision.{Decision}
use Rattle.tree.specs.Kind.{Kind}
use Rattle.tree.specs.Splits.{rights_of, allows}
use Rattle.tree.specs.Children.{child, children}
use Rattle.tree.specs.Rows.{row_of}
use Rattle.tree.specs.Tree.{Tree, rows_of}
use Rattle.laws.specs.Every.{Every, every_none, every_more}
use Rattle.laws.specs.Proper.{Proper}
use Rattle.laws.specs.Shape.{Side, Shape}
use Rattle.laws.proofs.EveryRow.{every_row_lem}
use Rattle.laws.proofs.Parts.{Piece, every_child, child_under}
use Rattle.laws.proofs.Shape.{side_four, shape_child}
use Rattle.laws.proofs.Levels.{child_shorter}
use Rattle.laws.proofs.Depths.{one_deeper}

-- ---- the powers of sides

power_grows : {a b : ℕ} (s : Side a) (t : Side b) → a ≤ b → s.fold.power ≤ t.fold.power
power_grows s t h = go (dec_lt t.fold.power s.fold.power)
  where
    go : Dec (t.fold.power < s.fold.power) → s.fold.power ≤ t.fold.power
    go (yes k) = let p = pow-lt k in let e = s.fold.is in let f = t.fold.is in absurd (omega arith)
    go (no k) = omega arith

same_side : {a b : ℕ} (s : Side a) (t : Side b) → s.fold.power ≡ t.fold.power → a ≡ b
same_side s t e = s.fold.is ∙ ap (λ p. 4 * 2 ^ p) e ∙ sym t.fold.is

abbrev powers : {n : Node} → Shape n → ℕ
powers sh = (sh.side Vertical).fold.power + (sh.side Horizontal).fold.power

-- where no side grows and their sum falls, the sum of the powers falls
powers_fall : {m n : Node} (sh : Shape m) (sn : Shape n) → m.w ≤ n.w → m.h ≤ n.h → m.w + m.h < n.w + n.h → powers sh < powers sn
powers_fall sh sn w h less = go (dec_lt (powers sh) (powers sn))
  where
    go : Dec (powers sh < powers sn) → powers sh < powers sn
    go (yes k) = k
    go (no k) =
        let pw = power_grows (sh.side Vertical) (sn.side Vertical) w in
        let ph = power_grows (sh.side Horizontal) (sn.side Horizontal) h in
        let ew = same_side (sh.side Vertical) (sn.side Vertical) (omega arith) in
        let eh = same_side (sh.side Horizontal) (sn.side Horizontal) (omega arith) in
        absurd (omega arith)

-- ---- the rows of a tree

-- powers and depths together
record Bounded (c : ℕ) (n : Node) : Type 0 where
  shape : Shape n
  sum : powers shape + n.qt + n.mtt ≤ c

module _ {k : Kind} (v : Proper k) (c : ℕ) where
  bounded_child : (n : Node) → Bounded c n → (d : Decision) → allows (rights_of k n) d ≡ true → (p : Share) → Piece d p → Bounded c (child k.limits n d p)
  bounded_child n b d ok p piece =
      let sh = shape_child v b.shape d ok p piece in
      let w = child_under k.limits n piece Vertical (side_four (b.shape.side Vertical)) in
      let h = child_under k.limits n piece Horizontal (side_four (b.shape.side Horizontal)) in
      let falls = powers_fall sh b.shape w h (child_shorter k.limits n b.shape piece) in
      record { shape = sh; sum = let deeper = one_deeper k.limits n d p in let s = b.sum in omega arith }

  bounded_kids : (n : Node) → Bounded c n → (d : Decision) → allows (rights_of k n) d ≡ true → Every (Bounded c) (children k.limits n d)
  bounded_kids n b d ok = every_child k n d (bounded_child n b d ok)

  rows_bounded : {n : Node} → Bounded c n → (t : Tree k n) → Every (λ r. r.qt + r.mtt ≤ c) (rows_of t)
  unfolding row_of
  rows_bounded b t = every_row_lem k bounded_kids (λ n here inside. let s = here.sum in omega arith) t (every_more b every_none)

pub rows_deep : {k : Kind} → Proper k → {n : Node} (sh : Shape n)
    → (sh.side Vertical).fold.power + (sh.side Horizontal).fold.power + n.qt + n.mtt ≤ 10 → (t : Tree k n) → Every (λ r. r.qt + r.mtt ≤ 10) (rows_of t)
rows_deep v sh sum t = rows_bounded v _ (record { shape = sh; sum = sum }) t
