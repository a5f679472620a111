-- Flags after flags in a buffer, and which of them a split has whose own mask is open.
use Prim.Native.Nat.{ℕ, zero, suc, ◌+◌, ◌*◌, ◌/◌, ◌%◌, ◌≤◌, ◌<◌}
use mathlib.Core.Path.{◌≡◌, refl, sym, ap, ◌∙◌}
use mathlib.Core.Bool.{Bool, true, false, not, ◌&&◌, ◌||◌}
use mathlib.Core.List.{List, [], ◌∷◌, ◌++◌, append-nil, append_assoc}
use borrow.Author.Tests.{ne_eqb}
use native.Mathlib.Decide.{dec_lt}
use native.Mathlib.Numerals.{add-one}
use native.Mathlib.Omega.{arith}
use lib.Bits.{bit_and, and_block, and_zero_r}
use lib.Dec.{eqb}
use lib.ListN.{length, set, take, length-append, length-set}
use lib.Seq.{take-set-le, take-suc-set}
use mir.Val.{bool_byte}
use Rattle.sides.proofs.Bools.{clash, and_left, and_right, and_no, or_right, same, same_eq, or_left}
use Rattle.tree.specs.declared.Direction.{Direction}
use Rattle.tree.specs.declared.Direction.TheVariants.{Horizontal, Vertical}
use Rattle.tree.specs.declared.Decision.{Decision}
use Rattle.tree.specs.declared.Decision.TheVariants.{Leaf, Quad, Binary, Ternary}
use Rattle.tree.specs.Splits.{pick, bit, has, binary_mask, ternary_mask, rights_in, allows}
use Rattle.tree.specs.Flags.{flag_byte, flags_for}
use Rattle.flags.specs.Puts.{Follows, is_quad}

-- ---- stores

pub byte_bit : (v : Bool) → bool_byte v ≡ bit v 1
byte_bit true = refl
byte_bit false = refl

pub byte_small : (v : Bool) → bool_byte v ≤ 1
byte_small true = omega arith
byte_small false = omega arith

-- one flag
pub put_one : (b : List ℕ) (n : ℕ) (value : ℕ) → n < length b → Follows b n (value ∷ []) (set b n value) (n + 1)
put_one b n value h = record { long = length-set b n value; count = refl; given = rw (add-one n) (take-suc-set b n value h) }

-- none, whatever is stored in its place
pub put_none : (b : List ℕ) (n : ℕ) (value : ℕ) → Follows b n [] (set b n value) n
put_none b n value = record { long = length-set b n value; count = omega arith; given = take-set-le n b n value (omega arith) ∙ sym (append-nil (take n b)) }

pub put_same : (b : List ℕ) (n : ℕ) → Follows b n [] b n
put_same b n = record { long = refl; count = omega arith; given = sym (append-nil (take n b)) }

-- a flag, where it is present
pub put_flag : (b : List ℕ) (n : ℕ) (there value : Bool) → n < length b → Follows b n (flag_byte there value) (set b n (bool_byte value)) (n + bool_byte there) × (n + bool_byte there ≤ n + 1)
put_flag b n true value h = (rw (byte_bit value) (put_one b n (bit value 1) h), omega arith)
put_flag b n false value h = (let z : n + 0 ≡ n = omega arith in rw z (put_none b n (bool_byte value)), omega arith)

-- two lists, one after the other
pub put_two : {b : List ℕ} {n : ℕ} {xs ys : List ℕ} {b₁ b₂ : List ℕ} {n₁ n₂ : ℕ} → Follows b n xs b₁ n₁ → Follows b₁ n₁ ys b₂ n₂ → Follows b n (xs ++ ys) b₂ n₂
put_two {b} {n} {xs} {ys} p q =
    let e = p.count in
    let f = q.count in
    record {
      long = q.long ∙ p.long;
      count = rw (length-append xs ys) (omega arith);
      given = q.given ∙ ap (λ first. first ++ ys) p.given ∙ append_assoc (take n b) xs ys;
    }

-- ---- masks of several splits: a test of the 32 numbers

abbrev all_below : ℕ → (ℕ → Bool) → Bool
all_below zero f = true
all_below (suc k) f = f k && all_below k f

at_below : (f : ℕ → Bool) (k : ℕ) → all_below k f ≡ true → (n : ℕ) → n < k → f n ≡ true
at_below f zero h n l = absurd (omega arith)
at_below f (suc k) h n l = go (dec_lt n k) (at_below f k (and_right (f k) _ h) n)
  where
    go : Dec (n < k) → (n < k → f n ≡ true) → f n ≡ true
    go (yes g) less = less g
    go (no g) less = let e : n ≡ k = omega arith in rw e (and_left (f k) _ h)

-- bits above the five say nothing
low : (splits mask : ℕ) → mask < 32 → has splits mask ≡ has (splits % 32) mask
low splits mask h =
    let e : splits ≡ splits / 32 * 32 + splits % 32 = omega arith in
    let f : mask ≡ 0 * 32 + mask = omega arith in
    let z = and_zero_r (splits / 32) in
    ap (λ n. not (eqb n 0))
    (ap (λ n. bit_and n mask) e ∙ ap (λ n. bit_and (splits / 32 * 32 + splits % 32) n) f ∙ and_block 5 (splits / 32) 0 (splits % 32) mask (omega arith) h
    ∙ (let g : bit_and (splits / 32) 0 * 32 + bit_and (splits % 32) mask ≡ bit_and (splits % 32) mask = omega arith in g))

abbrev joins : ℕ → ℕ → ℕ → ℕ → Bool
joins a b c n = same (has n c) (has n a || has n b)

join : (a b c : ℕ) → a < 32 → b < 32 → c < 32 → all_below 32 (joins a b c) ≡ true → (splits : ℕ) → has splits c ≡ (has splits a || has splits b)
join a b c ha hb hc t splits =
    rw (low splits a ha, low splits b hb, low splits c hc) (same_eq _ _ (at_below (joins a b c) 32 t (splits % 32) (omega arith)))

pub has_vertical : (splits : ℕ) → has splits 20 ≡ (has splits 4 || has splits 16)
has_vertical = join 4 16 20 (omega arith) (omega arith) (omega arith) refl

pub has_horizontal : (splits : ℕ) → has splits 10 ≡ (has splits 2 || has splits 8)
has_horizontal = join 2 8 10 (omega arith) (omega arith) (omega arith) refl

pub has_binary : (splits : ℕ) → has splits 6 ≡ (has splits 2 || has splits 4)
has_binary = join 2 4 6 (omega arith) (omega arith) (omega arith) refl

-- some split is open where the number is not 0
abbrev zero_or : ℕ → Bool
zero_or n = same (not (eqb n 0)) (has n 1 || ((has n 2 || has n 8) || (has n 4 || has n 16)))

pub some_is : (splits : ℕ) → splits < 32 → not (eqb splits 0) ≡ (has splits 1 || ((has splits 2 || has splits 8) || (has splits 4 || has splits 16)))
some_is splits h = same_eq _ _ (at_below zero_or 32 refl splits h)

-- ---- the flags of a node inside the picture

pub leaf_flags_lem : (splits : ℕ) → splits < 32 → flags_for (rights_in false splits) Leaf ≡ flag_byte (not (eqb splits 0)) false
unfolding flags_for
leaf_flags_lem splits h = rw (some_is splits h)

pub quad_flags : (splits : ℕ) → has splits 1 ≡ true → flags_for (rights_in false splits) Quad ≡ (1 ∷ []) ++ flag_byte ((has splits 2 || has splits 8) || (has splits 4 || has splits 16)) true
unfolding flags_for
quad_flags splits e = rw e

-- the flags of a cut after the split flag, by the mask of the other cut of its direction
abbrev pub cut_rest : ℕ → Direction → ℕ → Bool → List ℕ
cut_rest splits d other binary = flag_byte (has splits 1) false ++ (flag_byte (has splits (pick d 20 10)) (pick d false true) ++ flag_byte (has splits other) binary)

or_none : (a : Bool) → (a || false) ≡ a
or_none true = refl
or_none false = refl

and_true : (a b : Bool) → b ≡ true → (a && b) ≡ a
and_true true b e = e
and_true false b e = refl

true_and : (a b : Bool) → a ≡ true → (a && b) ≡ b
true_and true b e = refl
true_and false b e = clash e refl

module _ (splits : ℕ) where
  abbrev flat : Bool
  flat = has splits 2 || has splits 8

  abbrev steep : Bool
  steep = has splits 4 || has splits 16

  -- which flags are there, where a cut of the direction is open
  there : (d : Direction) (binary own : Bool) → pick d flat steep ≡ true
      → flag_byte (has splits 1 || (flat || steep)) true ++ (flag_byte (has splits 1 && (flat || steep)) false ++ (flag_byte (flat && steep) (pick d false true) ++ flag_byte own binary))
      ≡ (1 ∷ []) ++ (flag_byte (has splits 1) false ++ (flag_byte (has splits (pick d 20 10)) (pick d false true) ++ flag_byte own binary))
  there Horizontal binary own e =
      let some = or_left flat steep e in
      rw (has_vertical splits, some, or_right (has splits 1) true refl, and_true (has splits 1) true refl, true_and flat steep e)
  there Vertical binary own e =
      let some = or_right flat steep e in
      rw (has_horizontal splits, some, or_right (has splits 1) true refl, and_true (has splits 1) true refl, and_true flat steep e)

  pub binary_flags : (d : Direction) → has splits (binary_mask d) ≡ true → flags_for (rights_in false splits) (Binary d) ≡ (1 ∷ []) ++ cut_rest splits d (ternary_mask d) true
  unfolding flags_for
  binary_flags Horizontal e = there Horizontal true (has splits 2 && has splits 8) (or_left (has splits 2) (has splits 8) e) ∙ rw (true_and (has splits 2) (has splits 8) e)
  binary_flags Vertical e = there Vertical true (has splits 4 && has splits 16) (or_left (has splits 4) (has splits 16) e) ∙ rw (true_and (has splits 4) (has splits 16) e)

  pub ternary_flags : (d : Direction) → has splits (ternary_mask d) ≡ true → flags_for (rights_in false splits) (Ternary d) ≡ (1 ∷ []) ++ cut_rest splits d (binary_mask d) false
  unfolding flags_for
  ternary_flags Horizontal e = there Horizontal false (has splits 2 && has splits 8) (or_right (has splits 2) (has splits 8) e) ∙ rw (and_true (has splits 2) (has splits 8) e)
  ternary_flags Vertical e = there Vertical false (has splits 4 && has splits 16) (or_right (has splits 4) (has splits 16) e) ∙ rw (and_true (has splits 4) (has splits 16) e)

  -- ---- and of one that is out: no ternary cut is open, and not both binary ones

  pub out_flags : (d : Decision) → allows (rights_in true splits) d ≡ true → has splits 8 ≡ false → has splits 16 ≡ false → (has splits 2 && has splits 4) ≡ false
      → flags_for (rights_in true splits) d ≡ flag_byte (has splits 1 && has splits 6) (is_quad d)
  unfolding flags_for
  out_flags Leaf ok th tv one = clash ok refl
  out_flags Quad ok th tv one = rw (has_binary splits, th, tv, or_none (has splits 2), or_none (has splits 4))
  out_flags (Binary Horizontal) ok th tv one = rw (has_binary splits, th, tv, or_none (has splits 2), or_none (has splits 4), one, and_no (has splits 2) false refl, append-nil)
  out_flags (Binary Vertical) ok th tv one = rw (has_binary splits, th, tv, or_none (has splits 2), or_none (has splits 4), one, and_no (has splits 4) false refl, append-nil)
  out_flags (Ternary Horizontal) ok th tv one = clash ok th
  out_flags (Ternary Vertical) ok th tv one = clash ok tv

-- ---- the flags of a node that the code has stored

module _ (splits : ℕ) {b : List ℕ} {n : ℕ} (room : n < length b) where
  pub stored_quad : has splits 1 ≡ true → {cut : Bool} → cut ≡ ((has splits 2 || has splits 8) || (has splits 4 || has splits 16)) → {after : List ℕ} {m : ℕ}
      → Follows (set b n 1) (n + 1) (flag_byte cut true) after m → Follows b n (flags_for (rights_in false splits) Quad) after m
  stored_quad ok e p = rw (quad_flags splits ok, ← e) (put_two (put_one b n 1 room) p)

  pub stored_binary : (d : Direction) → has splits (binary_mask d) ≡ true → {other : ℕ} → other ≡ ternary_mask d → {after : List ℕ} {m : ℕ}
      → Follows (set b n 1) (n + 1) (cut_rest splits d other true) after m → Follows b n (flags_for (rights_in false splits) (Binary d)) after m
  stored_binary d ok o p = rw (binary_flags splits d ok, ← o) (put_two (put_one b n 1 room) p)

  pub stored_ternary : (d : Direction) → has splits (ternary_mask d) ≡ true → {other : ℕ} → other ≡ binary_mask d → {after : List ℕ} {m : ℕ}
      → Follows (set b n 1) (n + 1) (cut_rest splits d other false) after m → Follows b n (flags_for (rights_in false splits) (Ternary d)) after m
  stored_ternary d ok o p = rw (ternary_flags splits d ok, ← o) (put_two (put_one b n 1 room) p)

  pub stored_leaf : splits < 32 → ¬ (splits ≡ 0) → Follows b n (flags_for (rights_in false splits) Leaf) (set b n 0) (n + 1)
  stored_leaf small some = rw (leaf_flags_lem splits small, ne_eqb splits 0 some) (put_one b n 0 room)

pub no_leaf : {splits : ℕ} (b : List ℕ) (n : ℕ) → splits ≡ 0 → Follows b n (flags_for (rights_in false splits) Leaf) b n
no_leaf {splits} b n e = rw (e, leaf_flags_lem 0 (omega arith)) (put_same b n)
