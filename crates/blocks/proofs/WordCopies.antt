-- A copy of numbers as their bytes, one number a turn.
use Prim.Native.Nat.{ℕ, suc, ◌+◌, ◌-◌, ◌*◌, ◌≤◌, ◌<◌}
use mathlib.Core.Path.{◌≡◌, refl, sym, ap, ap₂, ◌∙◌}
use mathlib.Core.List.{List, [], ◌∷◌, ◌++◌, append_assoc, append-nil}
use native.Mathlib.Omega.{arith}
use lib.ListN.{length, take, drop, get_or, length-append, length-drop}
use borrow.Rule.Slice.PartMut.{put_mid}
use lib.Seq.{sets, sets-eq, take_at, drop_at, drop-drop, take-suc, length-take-le}
use Rattle.blocks.specs.RowNumbers.{word_bytes, words_bytes}
use Rattle.blocks.proofs.Pastes.{part_stored}

word-length : (w : ℕ) → length (word_bytes w) ≡ 8
unfolding word_bytes
word-length w = refl

words_length : (ws : List ℕ) → length (words_bytes ws) ≡ length ws * 8
unfolding words_bytes
words_length [] = refl
words_length (w ∷ ws) =
    let e = length-append (word_bytes w) (words_bytes ws) in
    let f = word-length w in
    let g = words_length ws in
    omega arith

words_append : (xs ys : List ℕ) → words_bytes (xs ++ ys) ≡ words_bytes xs ++ words_bytes ys
unfolding words_bytes
words_append [] ys = refl
words_append (w ∷ xs) ys = ap (λ (b : List ℕ). word_bytes w ++ b) (words_append xs ys) ∙ sym (append_assoc (word_bytes w) (words_bytes xs) (words_bytes ys))

-- the bytes of the first i numbers, and after them what was there
abbrev pub fronted : List ℕ → List ℕ → ℕ → List ℕ
fronted d ws i = words_bytes (take i ws) ++ drop (i * 8) d

front_length : (ws : List ℕ) (i : ℕ) → i ≤ length ws → length (words_bytes (take i ws)) ≡ i * 8
front_length ws i h = words_length (take i ws) ∙ ap (λ (n : ℕ). n * 8) (length-take-le i ws h)

pub fronted_long : (d ws : List ℕ) (i : ℕ) → i ≤ length ws → i * 8 ≤ length d → length (fronted d ws i) ≡ length d
fronted_long d ws i some room =
    let a = length-append (words_bytes (take i ws)) (drop (i * 8) d) in
    let b = length-drop (i * 8) d in
    let l = front_length ws i some in
    omega arith

module _ (d ws : List ℕ) (i : ℕ) (some : i < length ws) (room : i * 8 + 8 ≤ length d) where
  abbrev w : ℕ
  w = get_or ws i 0

  one_more : words_bytes (take (i + 1) ws) ≡ words_bytes (take i ws) ++ word_bytes w
  unfolding words_bytes
  one_more =
      let e : i + 1 ≡ suc i = omega arith in
      ap (λ (n : ℕ). words_bytes (take n ws)) e ∙ ap words_bytes (take-suc ws i 0 some) ∙ words_append (take i ws) (w ∷ [])
      ∙ ap (λ (b : List ℕ). words_bytes (take i ws) ++ b) (append-nil (word_bytes w))

  stored : sets (fronted d ws i) (i * 8) (word_bytes w) ≡ fronted d ws (i + 1)
  stored =
      let p = words_bytes (take i ws) in
      let q = drop (i * 8) d in
      let a = fronted_long d ws i (omega arith) (omega arith) in
      let l = front_length ws i (omega arith) in
      let v = word-length w in
      let e : i * 8 + length (word_bytes w) ≡ i * 8 + 8 = omega arith in
      let n : i * 8 + 8 ≡ (i + 1) * 8 = omega arith in
      sets-eq (word_bytes w) (fronted d ws i) (i * 8) (omega arith)
      ∙ ap₂ (λ (x y : List ℕ). x ++ word_bytes w ++ y) (take_at p q (i * 8) l)
      (ap (λ (m : ℕ). drop m (p ++ q)) e ∙ sym (drop-drop 8 (i * 8) (p ++ q)) ∙ ap (drop 8) (drop_at p q (i * 8) l) ∙ drop-drop 8 (i * 8) d ∙ ap (λ (m : ℕ). drop m d) n)
      ∙ ap (λ (x : List ℕ). x ++ drop ((i + 1) * 8) d) (sym one_more)

-- a turn of the copy
pub copy_step : (d ws r : List ℕ) (i : ℕ) → r ≡ fronted d ws i → i < length ws → i * 8 + 8 ≤ length d → sets r (i * 8) (word_bytes (get_or ws i 0)) ≡ fronted d ws (i + 1)
copy_step d ws r i e some room = ap (λ (x : List ℕ). sets x (i * 8) (word_bytes (get_or ws i 0))) e ∙ stored d ws i some room

pub copy_none : (d ws : List ℕ) → d ≡ fronted d ws 0
unfolding words_bytes
copy_none d ws = refl

-- the store of one number at a place
pub word_stored : (b : List ℕ) (at w : ℕ) → at + 8 ≤ length b → {bytes : List ℕ} → bytes ≡ word_bytes w → put_mid at (at + 8 - at) b bytes ≡ sets b at (word_bytes w)
word_stored b at w = part_stored b (word_bytes w) at 8 (sym (word-length w))
