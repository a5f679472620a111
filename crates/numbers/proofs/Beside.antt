-- Beside each flag of a coding tree stands one context number, 8 at most.
use Prim.Native.Nat.{ℕ, ◌-◌, ◌/◌, ◌^◌, ◌≤◌}
use mathlib.Core.Path.{◌≡◌, refl}
use mathlib.Core.Bool.{Bool, true, false, cond}
use mathlib.Core.List.{List, ◌++◌}
use lib.ListN.{length}
use lib.Dec.{leb, ltb, eqb}
use borrow.Author.Tests.{leb-true}
use native.Mathlib.Omega.{arith}
use Rattle.tree.specs.declared.Node.{Node}
use Rattle.tree.specs.declared.Direction.{Direction}
use Rattle.tree.specs.declared.Direction.TheVariants.{Horizontal, Vertical}
use Rattle.tree.specs.declared.Decision.{Decision}
use Rattle.tree.specs.declared.Decision.TheVariants.{Leaf, Quad, Binary, Ternary}
use Rattle.tree.specs.Kind.{Kind}
use Rattle.tree.specs.Splits.{pick, Rights, rights_of}
use Rattle.tree.specs.Flags.{split_there, quad_there, vertical_there, binary_there, flag_byte, cut_flags, flags_for}
use Rattle.tree.specs.Rows.{own_rows}
use Rattle.tree.specs.Tree.{Trees, none, skip, node, flags_of, rows_of}
use Rattle.laws.specs.Every.{Every, every_none, every_more}
use Rattle.laws.proofs.Rights.{at_rights}
use Rattle.laws.proofs.Tests.{bit_most}
use Rattle.numbers.specs.Numbers.{Seen, unavailable, block, shorter, deeper, open_cuts, open_twice, split_number, quad_number, even_number, vertical_number, binary_number, number_of, cut_numbers, numbers_for}
use Rattle.numbers.specs.Walk.{Finder, put_all, contexts_of}
use Rattle.numbers.specs.Beside.{Beside, no_flag, a_flag}

beside_join : {a b c d : List ℕ} → Beside a b → Beside c d → Beside (a ++ c) (b ++ d)
beside_join no_flag q = q
beside_join (a_flag h p) q = a_flag h (beside_join p q)

pub beside_length : {flags numbers : List ℕ} → Beside flags numbers → length numbers ≡ length flags
beside_length no_flag = refl
beside_length (a_flag h p) = let e = beside_length p in omega arith

pub beside_small : {flags numbers : List ℕ} → Beside flags numbers → Every (λ number. number ≤ 8) numbers
beside_small no_flag = every_none
beside_small (a_flag h p) = every_more h (beside_small p)

-- ---- the numbers are small

cond_most : (b : Bool) {x y : ℕ} → x ≤ 8 → y ≤ 8 → cond b x y ≤ 8
cond_most true p q = p
cond_most false p q = q

module _ (r : Rights) (n : Node) (above left : Seen) where
  split_most : split_number r n above left ≤ 8
  split_most =
      let a = bit_most (shorter above n.w) 1 in
      let b = bit_most (shorter left n.h) 1 in
      let set = leb-true ((open_twice r - 1) / 2) 2 (at_rights (λ r. leb ((open_twice r - 1) / 2) 2) refl r) in
      omega arith

  quad_most : quad_number n above left ≤ 8
  quad_most = let a = bit_most (deeper above n.qt) 1 in let b = bit_most (deeper left n.qt) 1 in let c = bit_most (leb 2 n.qt) 3 in omega arith

even_most : (n : Node) (above left : Seen) → even_number n above left ≤ 8
unfolding even_number
even_most n unavailable left = omega arith
even_most n (block e q) unavailable = omega arith
even_most n (block e q) (block f p) =
    cond_most (eqb (n.w / 2 ^ e) (n.h / 2 ^ f)) (omega arith) (cond_most (ltb (n.w / 2 ^ e) (n.h / 2 ^ f)) (omega arith) (omega arith))

vertical_most : (r : Rights) (n : Node) (above left : Seen) → vertical_number r n above left ≤ 8
vertical_most r n above left =
    cond_most (ltb (open_cuts r Horizontal) (open_cuts r Vertical)) (omega arith)
    (cond_most (ltb (open_cuts r Vertical) (open_cuts r Horizontal)) (omega arith) (even_most n above left))

binary_most : (n : Node) (d : Direction) → binary_number n d ≤ 8
binary_most n Horizontal = let a = bit_most (leb n.mtt 1) 1 in omega arith
binary_most n Vertical = let a = bit_most (leb n.mtt 1) 1 in omega arith

-- ---- one beside each flag

beside_one : (there v : Bool) {number : ℕ} → number ≤ 8 → Beside (flag_byte there v) (number_of there number)
beside_one true v h = a_flag h no_flag
beside_one false v h = no_flag

module _ (r : Rights) (n : Node) (above left : Seen) where
  beside_cut : (d : Direction) (binary : Bool) → Beside (cut_flags r d binary) (cut_numbers r n above left d)
  beside_cut d binary =
      beside_join (beside_one (split_there r) true (split_most r n above left))
      (beside_join (beside_one (quad_there r) false (quad_most r n above left))
      (beside_join (beside_one (vertical_there r) (pick d false true) (vertical_most r n above left)) (beside_one (binary_there r d) binary (binary_most n d))))

  pub beside_node : (d : Decision) → Beside (flags_for r d) (numbers_for r n above left d)
  unfolding numbers_for flags_for
  beside_node Leaf = beside_one (split_there r) false (split_most r n above left)
  beside_node Quad = beside_join (beside_one (split_there r) true (split_most r n above left)) (beside_one (quad_there r) true (quad_most r n above left))
  beside_node (Binary d) = beside_cut d true
  beside_node (Ternary d) = beside_cut d false

module _ {S : Type 0} (f : Finder S) {k : Kind} where
  pub beside : {ns : List Node} (t : Trees k ns) (s : S) → Beside (flags_of t) (contexts_of f t s)
  unfolding contexts_of flags_of
  beside none s = no_flag
  beside (skip out rest) s = beside rest s
  beside (node {n = n} d here ok kids rest) s =
      beside_join (beside_node (rights_of k n) n (f.above s n.x n.y) (f.left s n.x n.y) d)
      (beside_join (beside kids s) (beside rest (put_all f (own_rows n d ++ rows_of kids) s)))
