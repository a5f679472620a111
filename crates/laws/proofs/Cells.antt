-- Cells are squares of side c, laid side by side from (0, 0). The rows of a node that lies inside one cell lie inside it, whatever c is.
use Prim.Native.Nat.{ℕ, ◌+◌, ◌-◌, ◌*◌, ◌/◌, ◌^◌, ◌≤◌, ◌<◌}
use mathlib.Core.Path.{◌≡◌, sym, ap, ◌∙◌}
use mathlib.Core.Bool.{true}
use lib.Pow.{pow-add}
use native.Mathlib.Omega.{arith}
use native.Mathlib.Nat.{le-div_iff_mul-le, div-mul-le_self, div-eq_of_lt-le, mul-div_right, div-div-eq-div-mul}
use Rattle.tree.specs.declared.Node.{Node}
use Rattle.tree.specs.declared.Direction.{Direction}
use Rattle.tree.specs.declared.Direction.TheVariants.{Horizontal, Vertical}
use Rattle.tree.specs.declared.Decision.{Decision}
use Rattle.tree.specs.Kind.{Kind}
use Rattle.tree.specs.Splits.{along, rights_of, allows}
use Rattle.tree.specs.Children.{child, children}
use Rattle.tree.specs.Rows.{row_of}
use Rattle.tree.specs.Tree.{Tree, rows_of}
use Rattle.laws.specs.Geometry.{InOneCell}
use Rattle.laws.specs.Every.{Every, every_none, every_more}
use Rattle.laws.specs.Proper.{Proper}
use Rattle.laws.specs.Directions.{corner}
use Rattle.laws.specs.Multiples.{Multiple, Fold}
use Rattle.laws.specs.Shape.{Shape}
use Rattle.laws.proofs.Leaves.{leaf_start, leaf_side}
use Rattle.laws.proofs.EveryRow.{every_row_lem}
use Rattle.laws.proofs.Multiples.{fold_least, power_fold}
use Rattle.laws.proofs.Parts.{every_child, child_corner, child_end}
use Rattle.laws.proofs.Shape.{side_four, shape_child}

-- ---- a length inside one cell

-- the samples from a on, l of them: the first and the last lie in the same cell
abbrev pub InCell : ℕ → ℕ → ℕ → Type 0
InCell c a l = a / c ≡ (a + l - 1) / c

div_mono : (c : ℕ) {a b : ℕ} → 0 < c → a ≤ b → a / c ≤ b / c
div_mono c {a} {b} pos h = let u = div-mul-le_self a c in (le-div_iff_mul-le pos).1 (omega arith)

part_cell : (c a l b m : ℕ) → 0 < c → a ≤ b → 0 < m → b + m ≤ a + l → InCell c a l → InCell c b m
part_cell c a l b m pos h k e i =
    let x = div_mono c pos h in
    let y : b / c ≤ (b + m - 1) / c = div_mono c pos (omega arith) in
    let z : (b + m - 1) / c ≤ (a + l - 1) / c = div_mono c pos (omega arith) in
    omega arith

-- a length at a multiple of itself, in cells of a multiple of it
same_cell : (s q t : ℕ) → 0 < s → InCell (s * q) (s * t) s
same_cell s q t pos =
    let first : s * t / s ≡ t = mul-div_right t pos in
    let last : (s * t + s - 1) / s ≡ t = div-eq_of_lt-le s (omega arith) (omega arith) in
    sym (div-div-eq-div-mul (s * t) s q) ∙ ap (λ i. i / q) (first ∙ sym last) ∙ div-div-eq-div-mul (s * t + s - 1) s q

-- ---- nodes and rows

pub record InOne (c : ℕ) (n : Node) : Type 0 where
  pub shape : Shape n
  pub cell : (e : Direction) → InCell c (corner e n) (along e n)

-- of two powers of two from 4 on the larger is a fold of the smaller
pub larger_fold : {a b : ℕ} → Fold 4 a → Fold 4 b → a ≤ b → Fold a b
larger_fold f g = power_fold (2 + f.power) (2 + g.power) (power f) (power g)
  where
    power : {m : ℕ} (h : Fold 4 m) → m ≡ 2 ^ (2 + h.power)
    power h = h.is ∙ sym (pow-add 2 2 h.power)

-- a node at a multiple of its sides, which are c at most
pub small_in_one : {c : ℕ} {n : Node} → Fold 4 c → Shape n → ((e : Direction) → Multiple (along e n) (corner e n)) → ((e : Direction) → along e n ≤ c) → InOne c n
small_in_one {c} {n} f sh at le = record { shape = sh; cell = λ e. go (larger_fold (sh.side e).fold f (le e)) (fold_least (sh.side e).fold) (at e) }
  where
    go : {a s : ℕ} → Fold s c → 4 ≤ s → Multiple s a → InCell c a s
    go {s = s} g h m = rw (g.is, m.is) (same_cell s (2 ^ g.power) m.times (omega arith))

module _ {k : Kind} (v : Proper k) (c : ℕ) (pos : 0 < c) where
  pub one_kids : (n : Node) → InOne c n → (d : Decision) → allows (rights_of k n) d ≡ true → Every (InOne c) (children k.limits n d)
  one_kids n i d ok = every_child k n d (λ p piece. let sh = shape_child v i.shape d ok p piece in record {
    shape = sh;
    cell = λ e.
        let a = child_corner k.limits n d p e in
        let b = child_end k.limits n piece e (side_four (i.shape.side e)) in
        let z = fold_least (sh.side e).fold in
        part_cell c (corner e n) (along e n) (corner e (child k.limits n d p)) (along e (child k.limits n d p)) pos (omega arith) (omega arith) b (i.cell e);
  })

  pub one_leaf : (n : Node) → InOne c n → InOneCell c (row_of n)
  one_leaf n i = record {
    across = rw (leaf_start n Vertical, leaf_side i.shape Vertical) (i.cell Vertical);
    down = rw (leaf_start n Horizontal, leaf_side i.shape Horizontal) (i.cell Horizontal);
  }

  pub in_one_cell : {n : Node} → InOne c n → (t : Tree k n) → Every (InOneCell c) (rows_of t)
  in_one_cell i t = every_row_lem k one_kids (λ n i h. one_leaf n i) t (every_more i every_none)
