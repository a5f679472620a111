-- The parts of a split, by direction: where a part starts, how long it is, and the child that it makes.
use Prim.Native.Nat.{ℕ, ◌+◌, ◌*◌, ◌/◌, ◌%◌, ◌≤◌, ◌<◌}
use mathlib.Core.Path.{◌≡◌, refl, ap, ◌∙◌}
use mathlib.Core.List.{List, [], ◌∷◌}
use native.Mathlib.Omega.{arith}
use native.Mathlib.Nat.{mul-le-mul_left}
use Rattle.tree.specs.declared.Limits.{Limits}
use Rattle.tree.specs.declared.Node.{Node}
use Rattle.tree.specs.declared.Share.{Share}
use Rattle.tree.specs.declared.Direction.{Direction}
use Rattle.tree.specs.declared.Direction.TheVariants.{Horizontal, Vertical}
use Rattle.tree.specs.declared.Decision.{Decision}
use Rattle.tree.specs.declared.Decision.TheVariants.{Leaf, Quad, Binary, Ternary}
use Rattle.tree.specs.Kind.{Kind}
use Rattle.tree.specs.Splits.{pick, along}
use Rattle.tree.specs.Children.{shares, child, children_from, children}
use Rattle.laws.specs.Every.{Every, every_none, every_more}
use Rattle.laws.specs.Directions.{corner}
use Rattle.laws.specs.Multiples.{Multiple, Fold}
use Rattle.laws.proofs.Multiples.{fold_multiple, add_multiple, multiple_times, mod_multiple, trans_multiple, four_quarters, quarters, fold_share}

-- a share's start and length, in the dimension that a cut of direction e divides
abbrev pub from : Direction → Share → ℕ
from e p = pick e p.top p.left

abbrev pub size : Direction → Share → ℕ
size e p = pick e p.high p.wide

module _ (l : Limits) (n : Node) (d : Decision) (p : Share) where
  pub child_along : (e : Direction) → along e (child l n d p) ≡ along e n / 4 * size e p
  unfolding child
  child_along Horizontal = refl
  child_along Vertical = refl

  pub child_corner : (e : Direction) → corner e (child l n d p) ≡ corner e n + along e n / 4 * from e p
  unfolding child
  child_corner Horizontal = refl
  child_corner Vertical = refl

-- ---- the quarters of the five splits

-- the least length of a decision's parts: 2 quarters where it halves, 1 where it cuts in three, all 4 across a cut
abbrev pub cut_least : ℕ → Direction → Direction → ℕ
cut_least q d e = pick d (pick e q 4) (pick e 4 q)

abbrev pub least : Decision → Direction → ℕ
least Leaf e = 4
least Quad e = 2
least (Binary d) e = cut_least 2 d e
least (Ternary d) e = cut_least 1 d e

-- a part in one dimension, beside the least length: both lengths are 1, 2 or 4 quarters, and the start is a multiple of the least one
pub record Slice (small start long : ℕ) : Type 0 where
  some : 0 < small
  small_not : ¬ (small ≡ 3)
  pub long_not : ¬ (long ≡ 3)
  step : start % small ≡ 0
  pub enough : small ≤ long
  pub fits : start + long ≤ 4

-- a part in both dimensions: it does not take all quarters of both, and where both are divided alike it is as wide as high
pub record Piece (d : Decision) (p : Share) : Type 0 where
  down : Slice (least d Horizontal) (from Horizontal p) (size Horizontal p)
  right : Slice (least d Vertical) (from Vertical p) (size Vertical p)
  pub falls : p.wide + p.high < 8
  pub even : least d Horizontal ≡ least d Vertical → p.wide ≡ p.high

-- a leaf has no parts
pub no_piece : {A : Type 0} {p : Share} → Piece Leaf p → A
no_piece piece = absurd (omega arith)

-- every share of a decision is such a part
abbrev pub Pieces : Decision → List Share → Type 0
Pieces d [] = Unit {0}
Pieces d (p ∷ ps) = Piece d p × Pieces d ps

pub pieces : (d : Decision) → Pieces d (shares d)
unfolding shares
pieces Leaf = tt
pieces Quad = (omega arith, omega arith)
pieces (Binary Horizontal) = omega arith
pieces (Binary Vertical) = omega arith
pieces (Ternary Horizontal) = omega arith
pieces (Ternary Vertical) = omega arith

-- so what holds of the child of any such part holds of all children
pub every_child : {P : Node → Type 0} (k : Kind) (n : Node) (d : Decision) → ((p : Share) → Piece d p → P (child k.limits n d p)) → Every P (children k.limits n d)
unfolding children children_from
every_child {P} k n d h = go (shares d) (pieces d)
  where
    go : (ps : List Share) → Pieces d ps → Every P (children_from k.limits n d ps)
    go [] t = every_none
    go (p ∷ ps) t = every_more (h p t.0) (go ps t.1)

-- ---- a part in one dimension

module _ {small start long : ℕ} (s : Slice small start long) {n : ℕ} (by-four : Multiple 4 n) where
  pub part_end : (x : ℕ) → x + n / 4 * start + n / 4 * long ≤ x + n
  part_end x = let q = four_quarters by-four in let u = mul-le-mul_left (n / 4) s.fits in omega arith

  module _ {m : ℕ} (f : Fold m n) (room : m * 2 < n * small) where
    -- the length of a part is a fold, and its start a multiple
    pub part_fold : Fold m (n / 4 * long)
    part_fold =
        let u = mul-le-mul_left n s.enough in
        let a = s.some in
        let b = s.enough in
        let c = s.fits in
        fold_share by-four f (quarters long (omega arith) (omega arith) s.long_not) (omega arith)

    pub part_start : Multiple m (n / 4 * start)
    part_start =
        let b = s.enough in
        let c = s.fits in
        let f = fold_share by-four f (quarters small s.some (omega arith) s.small_not) room in
        let q = mod_multiple small start s.step in
        let a : n / 4 * start ≡ n / 4 * small * q.times = ap (λ i. n / 4 * i) q.is ∙ omega arith in
        rw a (multiple_times (fold_multiple f) q.times)

-- ---- a child in one dimension

pub slice : {d : Decision} {p : Share} → Piece d p → (e : Direction) → Slice (least d e) (from e p) (size e p)
slice piece Horizontal = piece.down
slice piece Vertical = piece.right

module _ (l : Limits) (n : Node) {d : Decision} {p : Share} (piece : Piece d p) (e : Direction) where
  pub child_end : Multiple 4 (along e n) → corner e (child l n d p) + along e (child l n d p) ≤ corner e n + along e n
  child_end b = rw (child_along l n d p e, child_corner l n d p e) (part_end (slice piece e) b (corner e n))

  pub child_under : Multiple 4 (along e n) → along e (child l n d p) ≤ along e n
  child_under b = rw (child_along l n d p e) (let h = part_end (slice piece e) b 0 in omega arith)

  pub child_fold : {m : ℕ} → Multiple 4 m → Fold m (along e n) → m * 2 < along e n * least d e → Fold m (along e (child l n d p))
  child_fold b f room = rw (child_along l n d p e) (part_fold (slice piece e) (trans_multiple b (fold_multiple f)) f room)

  pub child_start : {m : ℕ} → Multiple 4 m → Fold m (along e n) → m * 2 < along e n * least d e → Multiple m (corner e n) → Multiple m (corner e (child l n d p))
  child_start b f room at = rw (child_corner l n d p e) (add_multiple at (part_start (slice piece e) (trans_multiple b (fold_multiple f)) f room))
