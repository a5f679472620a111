-- The number of a coding tree's flags, and how it grows with the open splits.
use Prim.Native.Nat.{ℕ, ◌+◌, ◌≤◌}
use mathlib.Core.Path.{◌≡◌, refl, ap, ◌∙◌}
use mathlib.Core.Bool.{Bool, true, false, ◌&&◌, ◌||◌}
use mathlib.Core.List.{List, ◌++◌}
use lib.ListN.{length, length-append}
use native.Mathlib.Omega.{arith}
use Rattle.sides.proofs.Bools.{and_left, and_right, and_intro, or_right}
use Rattle.tree.specs.declared.Node.{Node}
use Rattle.tree.specs.declared.Direction.{Direction}
use Rattle.tree.specs.declared.Direction.TheVariants.{Horizontal, Vertical}
use Rattle.tree.specs.declared.Decision.{Decision}
use Rattle.tree.specs.declared.Decision.TheVariants.{Leaf, Quad, Binary, Ternary}
use Rattle.tree.specs.Kind.{Kind}
use Rattle.tree.specs.Splits.{pick, bit, Rights, rights_of, allows}
use Rattle.tree.specs.Flags.{cut_open, some_cut, split_there, quad_there, vertical_there, binary_there, flag_byte, cut_flags, flags_for}
use Rattle.tree.specs.Tree.{Trees, none, skip, node, flags_of}
use Rattle.laws.specs.Counts.{flags_at, flag_count}
use Rattle.laws.proofs.Tests.{bit_most}

-- ---- it is the length of its flags

byte_count : (there v : Bool) → length (flag_byte there v) ≡ bit there 1
byte_count true v = refl
byte_count false v = refl

then_count : (there v : Bool) (flags : List ℕ) → length (flag_byte there v ++ flags) ≡ bit there 1 + length flags
then_count there v flags = length-append (flag_byte there v) flags ∙ ap (λ n. n + length flags) (byte_count there v)

module _ (r : Rights) where
  cut_flags_lem : (d : Direction) (binary : Bool) → length (cut_flags r d binary) ≡ flags_at r (Binary d)
  cut_flags_lem d binary =
      rw (then_count (split_there r) true, then_count (quad_there r) false, then_count (vertical_there r) (pick d false true), byte_count (binary_there r d) binary)
      (omega arith)

  cut_four : (d : Direction) → flags_at r (Binary d) ≤ 4
  cut_four d =
      let s = bit_most (split_there r) 1 in
      let q = bit_most (quad_there r) 1 in
      let v = bit_most (vertical_there r) 1 in
      let b = bit_most (binary_there r d) 1 in
      omega arith

  pub for_count : (d : Decision) → length (flags_for r d) ≡ flags_at r d
  unfolding flags_for
  for_count Leaf = byte_count (split_there r) false
  for_count Quad = rw (then_count (split_there r) true, byte_count (quad_there r) true)
  for_count (Binary d) = cut_flags_lem d true
  for_count (Ternary d) = cut_flags_lem d false

-- a decision has four at most
pub flags_four : (r : Rights) (d : Decision) → length (flags_for r d) ≤ 4
flags_four r d = rw (for_count r d) (go d)
  where
    go : (d : Decision) → flags_at r d ≤ 4
    go Leaf = let s = bit_most (split_there r) 1 in omega arith
    go Quad = let s = bit_most (split_there r) 1 in let q = bit_most (quad_there r) 1 in omega arith
    go (Binary d) = cut_four r d
    go (Ternary d) = cut_four r d

pub flag_count_lem : {k : Kind} {ns : List Node} (t : Trees k ns) → length (flags_of t) ≡ flag_count t
unfolding flags_of flag_count
flag_count_lem none = refl
flag_count_lem (skip out rest) = flag_count_lem rest
flag_count_lem {k} (node {n = n} d here ok kids rest) =
    rw (length-append (flags_for (rights_of k n) d) (flags_of kids ++ flags_of rest), length-append (flags_of kids) (flags_of rest))
    (rw (for_count (rights_of k n) d, flag_count_lem kids, flag_count_lem rest))

-- ---- the more splits are open, the more flags are present

abbrev pub Entails : Bool → Bool → Type 0
Entails a b = a ≡ true → b ≡ true

bit_least : (a b : Bool) → Entails a b → bit a 1 ≤ bit b 1
bit_least false b h = omega arith
bit_least true b h = rw (h refl) (omega arith)

both_entail : (a b c d : Bool) → Entails a c → Entails b d → Entails (a && b) (c && d)
both_entail a b c d f g h = and_intro c d (f (and_left a b h)) (g (and_right a b h))

either_entails : (a b c d : Bool) → Entails a c → Entails b d → Entails (a || b) (c || d)
either_entails true b c d f g h = rw (f refl)
either_entails false b c d f g h = or_right c d (g h)

module _ (r s : Rights) (more : (d : Decision) → Entails (allows r d) (allows s d)) where
  more_cut : (d : Direction) → Entails (cut_open r d) (cut_open s d)
  more_cut d = either_entails _ _ _ _ (more (Binary d)) (more (Ternary d))

  more_cuts : Entails (some_cut r) (some_cut s)
  more_cuts = either_entails _ _ _ _ (more_cut Horizontal) (more_cut Vertical)

  more_split : bit (split_there r) 1 ≤ bit (split_there s) 1
  more_split = bit_least _ _ (both_entail _ _ _ _ (more Leaf) (either_entails _ _ _ _ (more Quad) more_cuts))

  more_quad : bit (quad_there r) 1 ≤ bit (quad_there s) 1
  more_quad = bit_least _ _ (both_entail _ _ _ _ (more Quad) more_cuts)

  more_count : (d : Direction) → flags_at r (Binary d) ≤ flags_at s (Binary d)
  more_count d =
      let a = more_split in
      let b = more_quad in
      let c = bit_least _ _ (both_entail _ _ _ _ (more_cut Horizontal) (more_cut Vertical)) in
      let e = bit_least _ _ (both_entail _ _ _ _ (more (Binary d)) (more (Ternary d))) in
      omega arith

  pub flags_grow : (d : Decision) → flags_at r d ≤ flags_at s d
  flags_grow Leaf = more_split
  flags_grow Quad = let a = more_split in let b = more_quad in omega arith
  flags_grow (Binary d) = more_count d
  flags_grow (Ternary d) = more_count d
