-- Bytes beside the flags of coding trees: how far they agree with those of a tree, and that this is the same for every
-- tree that they meet so.
use Prim.Native.Nat.{ℕ, suc, ◌+◌, ◌≤◌, ◌<◌}
use mathlib.Core.Path.{◌≡◌, refl, sym, ap, subst, ◌∙◌}
use mathlib.Core.Bool.{Bool, true, false}
use mathlib.Core.List.{List, [], ◌∷◌, ◌++◌, append_assoc, append-nil}
use lib.ListN.{length, length-append}
use native.Mathlib.Omega.{arith}
use Rattle.tree.specs.declared.Node.{Node}
use Rattle.tree.specs.declared.Decision.{Decision}
use Rattle.tree.specs.declared.Decision.TheVariants.{Leaf, Quad, Binary, Ternary}
use Rattle.tree.specs.declared.Direction.{Direction}
use Rattle.tree.specs.Kind.{Kind}
use Rattle.tree.specs.Splits.{pick, Rights, rights_of}
use Rattle.tree.specs.Flags.{split_there, quad_there, vertical_there, binary_there, flag_byte, cut_flags, flags_for}
use Rattle.tree.specs.Tree.{Trees, none, skip, node, flags_of}
use Rattle.laws.specs.Every.{Every, every_none, every_more}
use Rattle.laws.proofs.Every.{every_join}
use Rattle.laws.proofs.Bytes.{Reads, reads_from, reads_all}
use Rattle.laws.proofs.Unique.{alone}

-- ---- every flag is 0 or 1

abbrev Flag01 : ℕ → Type 0
Flag01 b = b ≤ 1

flag_bit : (there v : Bool) → Every Flag01 (flag_byte there v)
flag_bit true true = every_more {a = 1} (omega arith) every_none
flag_bit true false = every_more {a = 0} (omega arith) every_none
flag_bit false v = every_none

cut_bits : (r : Rights) (d : Direction) (v : Bool) → Every Flag01 (cut_flags r d v)
cut_bits r d v =
    every_join (flag_bit (split_there r) true)
    (every_join (flag_bit (quad_there r) false)
    (every_join (flag_bit (vertical_there r) (pick d false true)) (flag_bit (binary_there r d) v)))

decision_bits : (r : Rights) (d : Decision) → Every Flag01 (flags_for r d)
unfolding flags_for
decision_bits r Leaf = flag_bit (split_there r) false
decision_bits r Quad = every_join (flag_bit (split_there r) true) (flag_bit (quad_there r) true)
decision_bits r (Binary d) = cut_bits r d true
decision_bits r (Ternary d) = cut_bits r d false

flags_bits : {k : Kind} {ns : List Node} (t : Trees k ns) → Every Flag01 (flags_of t)
unfolding flags_of
flags_bits none = every_none
flags_bits (skip out rest) = flags_bits rest
flags_bits {k} (node {n = n} d here ok kids rest) =
    every_join (decision_bits (rights_of k n) d) (every_join (flags_bits kids) (flags_bits rest))

bit_in : (front : List ℕ) (b : ℕ) (more : List ℕ) → Every Flag01 (front ++ (b ∷ more)) → b ≤ 1
bit_in [] b more (every_more p ps) = p
bit_in (x ∷ front) b more (every_more p ps) = bit_in front b more ps

-- ---- bytes beside a tree's flags

-- what is left of bytes and of a tree's flags after the part in which they agree: where both go on, the byte is no flag
abbrev pub Parted : List ℕ → List ℕ → Type 0
Parted [] others = Unit {0}
Parted (b ∷ rest) [] = Unit {0}
Parted (b ∷ rest) (f ∷ others) = 1 < b

module _ (k : Kind) (ns : List Node) (bytes : List ℕ) where
  pub record Meeting (rest others : List ℕ) : Type 0 where
    pub trees : Trees k ns
    pub front : List ℕ
    pub bytes_are : bytes ≡ front ++ rest
    pub flags_are : flags_of trees ≡ front ++ others
    pub parted : Parted rest others

-- the refusal: 0 where both end together, 11 where the flags go on, 13 where the bytes do, 12 where both do
abbrev pub meets : List ℕ → List ℕ → ℕ
meets [] [] = 0
meets [] (f ∷ others) = 11
meets (b ∷ rest) [] = 13
meets (b ∷ rest) (f ∷ others) = 12

-- ---- bytes meet trees in one way

-- two beginnings of the same bytes: the same, or one goes on where the other ends
data Beside (front rest front' rest' : List ℕ) : Type 0 where
  same : front ≡ front' → rest ≡ rest' → Beside front rest front' rest'
  shorter : (b : ℕ) (more after : List ℕ) → front' ≡ front ++ (b ∷ more) → rest ≡ b ∷ after
      → Beside front rest front' rest'
  longer : (b : ℕ) (more after : List ℕ) → front ≡ front' ++ (b ∷ more) → rest' ≡ b ∷ after
      → Beside front rest front' rest'

beside : (front rest front' rest' : List ℕ) → front ++ rest ≡ front' ++ rest' → Beside front rest front' rest'
beside [] rest [] rest' e = same refl e
beside [] rest (b ∷ front') rest' e = shorter b front' (front' ++ rest') refl e
beside (b ∷ front) rest [] rest' e = longer b front (front ++ rest) refl (sym e)
beside (b ∷ front) rest (c ∷ front') rest' e = go (beside front rest front' rest' cc)
  where
    head : b ≡ c
    head = cc

    go : Beside front rest front' rest' → Beside (b ∷ front) rest (c ∷ front') rest'
    go (same p q) = same (rw (head, p)) q
    go (shorter x more after p q) = shorter x more after (rw (head, p)) q
    go (longer x more after p q) = longer x more after (rw (head, p)) q

module _ {k : Kind} {ns : List Node} where
  -- where a tree's flags end, no other tree's go on
  ends_once : (t u : Trees k ns) (front : List ℕ) (c : ℕ) (more : List ℕ) → flags_of t ≡ front
      → flags_of u ≡ front ++ (c ∷ more) → ⊥
  ends_once t u front c more e f =
      let whole = front ++ (c ∷ more) in
      let r = reads_from [] front (c ∷ more) 0 refl in
      let s = reads_all whole in
      let h = (alone whole t u 0 _ _ (subst (λ b. Reads whole 0 b (0 + length front)) (sym e) r) (subst (λ b. Reads whole 0 b (length whole)) (sym f) s)).1 in
      let l : length whole ≡ length front + suc (length more) = length-append front (c ∷ more) in
      omega arith

  -- where bytes part from a tree, no tree's flags go on as they do
  parts_once : (t u : Trees k ns) (front : List ℕ) (b : ℕ) (rest more others : List ℕ) → flags_of t ≡ front ++ others
      → Parted (b ∷ rest) others → flags_of u ≡ front ++ (b ∷ more) → ⊥
  parts_once t u front b rest more [] e p f = ends_once t u front b more (e ∙ append-nil front) f
  parts_once t u front b rest more (x ∷ others) e p f = let h = bit_in front b more (subst (Every Flag01) f (flags_bits u)) in omega arith

  same_meets : (t u : Trees k ns) (front rest others others' : List ℕ) → flags_of t ≡ front ++ others
      → flags_of u ≡ front ++ others' → meets rest others ≡ meets rest others'
  same_meets t u front [] [] [] e f = refl
  same_meets t u front [] [] (y ∷ others') e f = absurd (ends_once t u front y others' (e ∙ append-nil front) f)
  same_meets t u front [] (x ∷ others) [] e f = absurd (ends_once u t front x others (f ∙ append-nil front) e)
  same_meets t u front [] (x ∷ others) (y ∷ others') e f = refl
  same_meets t u front (b ∷ rest) [] [] e f = refl
  same_meets t u front (b ∷ rest) [] (y ∷ others') e f = absurd (ends_once t u front y others' (e ∙ append-nil front) f)
  same_meets t u front (b ∷ rest) (x ∷ others) [] e f = absurd (ends_once u t front x others (f ∙ append-nil front) e)
  same_meets t u front (b ∷ rest) (x ∷ others) (y ∷ others') e f = refl

  pub meets_once : {bytes rest others rest' others' : List ℕ} (x : Meeting k ns bytes rest others) (y : Meeting k ns bytes rest' others')
      → (meets rest others ≡ meets rest' others') × (length x.front ≡ length y.front)
  meets_once {bytes} {rest} {others} {rest'} {others'} x y = go (beside x.front rest y.front rest' (sym x.bytes_are ∙ y.bytes_are))
    where
      go : Beside x.front rest y.front rest'
          → (meets rest others ≡ meets rest' others') × (length x.front ≡ length y.front)
      go (same p q) = (ap (λ r. meets r others) q ∙ same_meets x.trees y.trees x.front rest' others others' x.flags_are (y.flags_are ∙ ap (λ f. f ++ others') (sym p)), ap length p)
      go (shorter b more after p q) =
          absurd
          (parts_once x.trees y.trees x.front b after (more ++ others') others x.flags_are (subst (λ r. Parted r others) q x.parted)
          (y.flags_are ∙ ap (λ f. f ++ others') p ∙ append_assoc x.front (b ∷ more) others'))
      go (longer b more after p q) =
          absurd
          (parts_once y.trees x.trees y.front b after (more ++ others) others' y.flags_are (subst (λ r. Parted r others') q y.parted)
          (x.flags_are ∙ ap (λ f. f ++ others) p ∙ append_assoc y.front (b ∷ more) others))
