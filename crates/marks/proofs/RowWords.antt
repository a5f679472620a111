-- The number of a table's row: its corner, its cells, and that it is a leaf's own, or another table's row, where the numbers are equal.
use Rattle.std.proofs.Common.{◌≡◌, ℕ, ◌+◌, ◌*◌, ◌/◌, ◌%◌, ◌^◌, ◌<◌, Bool, true, false, eqb, List, [], ◌∷◌, get_or, sym, refl, ap, ◌∙◌, arith, eq-eqb, eqb-true}
use Rattle.std.specs.Int.{w64, from_le_bytes}
use Rattle.sides.proofs.Bools.{clash}
use Rattle.tree.specs.declared.Node.{Node}
use Rattle.tree.specs.Rows.{Row, row_of, row_at, row_bytes}
use Rattle.tree.specs.Back.{cells_of, is_same_row}
use Rattle.blocks.specs.RowNumbers.{word_of, row_word, word_bytes}
use Rattle.blocks.proofs.RowNumbers.{word_bytes_lem}
use Rattle.laws.proofs.SameRow.{same_row}
use Rattle.walks.proofs.Sides.{exponent_of}
use Rattle.walks.proofs.RowFields.{Fits}
use Rattle.marks.specs.Table.{word_at, Eight}

-- ---- rows of small numbers

pub record Small (r : Row) : Type 0 where
  pub at_x : r.x < 65536
  pub at_y : r.y < 65536
  pub at_ew : r.ew < 256
  pub at_eh : r.eh < 256
  pub at_qt : r.qt < 256
  pub at_mtt : r.mtt < 256

of_node_lem : {n : Node} → Fits n → Small (row_of n)
unfolding row_of
of_node_lem f =
    let w = (exponent_of f.wide).small in
    let h = (exponent_of f.high).small in
    record { at_x = f.x_fits_lem; at_y = f.y_fits_lem; at_ew = omega arith; at_eh = omega arith; at_qt = f.qt_fits_lem; at_mtt = f.mtt_fits_lem }

pub of_bytes : {bytes : List ℕ} {i : ℕ} → Eight bytes i → Small (row_at bytes i)
unfolding row_at
of_bytes b =
    let b₀ = b.at_0 in
    let b₁ = b.at_1 in
    let b₂ = b.at_2 in
    let b₃ = b.at_3 in
    record { at_x = omega arith; at_y = omega arith; at_ew = b.at_4; at_eh = b.at_5; at_qt = b.at_6; at_mtt = b.at_7 }

two : (a b : ℕ) → a < 65536 → b < 65536 → a % 256 ≡ b % 256 → a / 256 % 256 ≡ b / 256 % 256 → a ≡ b
two a b h k e f = omega arith

one : (a b : ℕ) → a < 256 → b < 256 → a % 256 ≡ b % 256 → a ≡ b
one a b h k e = omega arith

-- they are the same where their bytes are
same_small : (r s : Row) → Small r → Small s → row_bytes r ≡ row_bytes s → is_same_row r s ≡ true
unfolding is_same_row row_bytes
same_small r s a b e =
    let byte : (k : ℕ) → get_or (row_bytes r) k 0 ≡ get_or (row_bytes s) k 0 = λ k. ap (λ bs. get_or bs k 0) e in
    rw (
      eq-eqb r.x s.x (two r.x s.x a.at_x b.at_x (byte 0) (byte 1)),
      eq-eqb r.y s.y (two r.y s.y a.at_y b.at_y (byte 2) (byte 3)),
      eq-eqb r.ew s.ew (one r.ew s.ew a.at_ew b.at_ew (byte 4)),
      eq-eqb r.eh s.eh (one r.eh s.eh a.at_eh b.at_eh (byte 5)),
      eq-eqb r.qt s.qt (one r.qt s.qt a.at_qt b.at_qt (byte 6)),
      eq-eqb r.mtt s.mtt (one r.mtt s.mtt a.at_mtt b.at_mtt (byte 7)),
    )

-- ---- the number of eight bytes

-- read from a slice of bytes
pub sum_word : (bytes : List ℕ) (i : ℕ) → ((k : ℕ) → get_or bytes k 0 < 256) → {word : ℕ}
    → word ≡ from_le_bytes w64 (get_or bytes i 0 ∷ get_or bytes (i + 1) 0 ∷ get_or bytes (i + 2) 0 ∷ get_or bytes (i + 3) 0 ∷ get_or bytes (i + 4) 0 ∷ get_or bytes (i + 5) 0 ∷ get_or bytes (i + 6) 0 ∷ get_or bytes (i + 7) 0 ∷ [])
    → (word ≡ word_at bytes i) × Eight bytes i
unfolding word_at word_of
sum_word bytes i small e = (
  e ∙ omega arith,
  record {
    at_0 = small i;
    at_1 = small (i + 1);
    at_2 = small (i + 2);
    at_3 = small (i + 3);
    at_4 = small (i + 4);
    at_5 = small (i + 5);
    at_6 = small (i + 6);
    at_7 = small (i + 7);
  },
)

low : (a b : ℕ) → a < 256 → b < 256 → (a + 256 * b) % 256 ≡ a
low a b h k = omega arith

high : (a b : ℕ) → a < 256 → b < 256 → (a + 256 * b) / 256 % 256 ≡ b
high a b h k = omega arith

own : (a : ℕ) → a < 256 → a % 256 ≡ a
own a h = omega arith

module _ {bytes : List ℕ} {i : ℕ} (b : Eight bytes i) where
  pub at_word : row_word (row_at bytes i) ≡ word_at bytes i
  unfolding word_at word_of row_bytes row_at
  at_word =
      rw (
        low _ _ b.at_0 b.at_1,
        high _ _ b.at_0 b.at_1,
        low _ _ b.at_2 b.at_3,
        high _ _ b.at_2 b.at_3,
        own _ b.at_4,
        own _ b.at_5,
        own _ b.at_6,
        own _ b.at_7,
      )

  -- the low half is the corner, and the exponents give the cells
  pub word_corner : word_at bytes i % 4294967296 ≡ (row_at bytes i).x + 65536 * (row_at bytes i).y
  unfolding word_at word_of row_at
  word_corner = let b₀ = b.at_0 in let b₁ = b.at_1 in let b₂ = b.at_2 in let b₃ = b.at_3 in omega arith

  pub word_cells : 2 ^ ((word_at bytes i / 4294967296 + word_at bytes i / 1099511627776 + 12) % 16) ≡ cells_of (row_at bytes i)
  unfolding word_at word_of row_at
  word_cells = ap (λ e. 2 ^ e) exponents
    where
      exponents : (word_at bytes i / 4294967296 + word_at bytes i / 1099511627776 + 12) % 16 ≡ (get_or bytes (i + 4) 0 + get_or bytes (i + 5) 0 + 12) % 16
      exponents =
          let b₀ = b.at_0 in
          let b₁ = b.at_1 in
          let b₂ = b.at_2 in
          let b₃ = b.at_3 in
          let b₄ = b.at_4 in
          let high : word_at bytes i / 4294967296 ≡ get_or bytes (i + 4) 0 + 256 * (get_or bytes (i + 5) 0 + 256 * (get_or bytes (i + 6) 0 + 256 * get_or bytes (i + 7) 0)) = omega arith in
          let higher : word_at bytes i / 1099511627776 ≡ get_or bytes (i + 5) 0 + 256 * (get_or bytes (i + 6) 0 + 256 * get_or bytes (i + 7) 0) = omega arith in
          rw (high, higher) (omega arith)

  word_depths : (word_at bytes i / 281474976710656 % 256 ≡ (row_at bytes i).qt) × (word_at bytes i / 72057594037927936 % 256 ≡ (row_at bytes i).mtt)
  unfolding word_at word_of row_at
  word_depths =
      let b₀ = b.at_0 in
      let b₁ = b.at_1 in
      let b₂ = b.at_2 in
      let b₃ = b.at_3 in
      let b₄ = b.at_4 in
      let b₅ = b.at_5 in
      let b₆ = b.at_6 in
      let b₇ = b.at_7 in
      (omega arith, omega arith)

  pub word_qt : word_at bytes i / 281474976710656 % 256 ≡ (row_at bytes i).qt
  word_qt = word_depths.0

  pub word_mtt : word_at bytes i / 72057594037927936 % 256 ≡ (row_at bytes i).mtt
  word_mtt = word_depths.1

  module _ {n : Node} (f : Fits n) where
    pub same_word : word_at bytes i ≡ row_word (row_of n) → is_same_row (row_at bytes i) (row_of n) ≡ true
    same_word e =
        same_small (row_at bytes i) (row_of n) (of_bytes b) (of_node_lem f)
        (sym (word_bytes_lem (row_at bytes i)) ∙ ap word_bytes (at_word ∙ e) ∙ word_bytes_lem (row_of n))

    pub other_word : ¬ (word_at bytes i ≡ row_word (row_of n)) → is_same_row (row_at bytes i) (row_of n) ≡ false
    other_word differs = go (is_same_row (row_at bytes i) (row_of n)) refl
      where
        go : (s : Bool) → is_same_row (row_at bytes i) (row_of n) ≡ s → s ≡ false
        go true e = absurd (differs (sym at_word ∙ ap row_word (same_row (row_at bytes i) (row_of n) e)))
        go false e = refl

    -- and as one test
    pub word_tests : eqb (word_at bytes i) (row_word (row_of n)) ≡ is_same_row (row_at bytes i) (row_of n)
    word_tests = go (eqb (word_at bytes i) (row_word (row_of n))) refl
      where
        go : (t : Bool) → eqb (word_at bytes i) (row_word (row_of n)) ≡ t → t ≡ is_same_row (row_at bytes i) (row_of n)
        go true e = sym (same_word (eqb-true _ _ e))
        go false e = sym (other_word (λ k. clash (eq-eqb _ _ k) e))

-- two rows of tables are the same where their numbers are
pub same_words : {bytes others : List ℕ} {i : ℕ} → Eight bytes i → Eight others i → word_at bytes i ≡ word_at others i → row_at bytes i ≡ row_at others i
same_words {bytes} {others} {i} a b e =
    let r = row_at bytes i in
    let s = row_at others i in
    same_row r s (same_small r s (of_bytes a) (of_bytes b) (sym (word_bytes_lem r) ∙ ap word_bytes (at_word a ∙ e ∙ sym (at_word b)) ∙ word_bytes_lem s))
