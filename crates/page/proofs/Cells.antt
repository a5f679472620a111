-- A number in a column, by the place of each digit.
use Prim.Native.Nat.{ℕ, zero, suc, ◌+◌, ◌-◌, ◌*◌, ◌/◌, ◌%◌, ◌^◌, ◌≤◌, ◌<◌}
use mathlib.Core.Path.{◌≡◌, refl, sym, ap, ap₂, ◌∙◌}
use mathlib.Core.List.{List, [], ◌∷◌, ◌++◌, append_assoc}
use native.Mathlib.Omega.{arith}
use native.Mathlib.Nat.{pow-suc, one-le-pow, div-div-eq-div-mul}
use native.Mathlib.Decide.{dec_lt}
use lib.ListN.{length, length-append, replicate, length-replicate}
use borrow.Author.Tests.{lt-ltb, le-ltb}
use Rattle.page.specs.Lines.{digits, column}
use Rattle.page.specs.Text.{cell, first_two, last_four}
use Rattle.page.proofs.Digits.{digits_one, digits_more, tenth}

-- ---- the length of a column

pub column_long : {wide : ℕ} (n : ℕ) → length (digits n) ≤ wide → length (column wide n) ≡ wide
unfolding column
column_long n h = simp (length-append, length-replicate) (omega arith)

-- ---- a column's characters

pub column_one : (w n : ℕ) → n < 10 → column (suc w) n ≡ replicate w 32 ++ ((48 + n) ∷ [])
unfolding column
column_one w n h = let e : suc w - 1 ≡ w = omega arith in rw (digits_one n h, e)

column_more : (w n : ℕ) → 10 ≤ n → column (suc w) n ≡ column w (n / 10) ++ ((48 + n % 10) ∷ [])
unfolding column
column_more w n h =
    let e : suc w - (length (digits (n / 10)) + 1) ≡ w - length (digits (n / 10)) = omega arith in
    rw (digits_more n h, length-append, e, append_assoc)

-- the places above the last
cells : ℕ → ℕ → List ℕ
cells zero n = []
cells (suc w) n = cell n (10 ^ suc w) ∷ cells w n

cell_small : (n unit : ℕ) → n < unit → cell n unit ≡ 32
cell_small n unit h = rw (lt-ltb n unit h)

cell_large : (n unit : ℕ) → unit ≤ n → cell n unit ≡ 48 + n / unit % 10
cell_large n unit h = rw (le-ltb n unit h)

cells_blank : (w n : ℕ) → n < 10 → cells w n ≡ replicate w 32
unfolding cells
cells_blank zero n h = refl
cells_blank (suc w) n h =
    let e = pow-suc 10 w in
    let p = one-le-pow w 10 (omega arith) in
    ap₂ (λ a rest. a ∷ rest) (cell_small n (10 ^ suc w) (omega arith)) (cells_blank w n h)

-- a place of a tenth is the place before
cell_tenth : (w n : ℕ) → cell (n / 10) (10 ^ w) ≡ cell n (10 ^ suc w)
cell_tenth w n = go (dec_lt n (10 ^ suc w))
  where
    power : 10 ^ suc w ≡ 10 * 10 ^ w
    power = pow-suc 10 w ∙ omega arith

    go : Dec (n < 10 ^ suc w) → cell (n / 10) (10 ^ w) ≡ cell n (10 ^ suc w)
    go (yes small) = cell_small (n / 10) (10 ^ w) (tenth w n small) ∙ sym (cell_small n (10 ^ suc w) small)
    go (no large) =
        let e = power in
        cell_large (n / 10) (10 ^ w) (omega arith)
        ∙ ap (λ m. 48 + m % 10) (div-div-eq-div-mul n 10 (10 ^ w) ∙ ap (λ m. n / m) (sym power))
        ∙ sym (cell_large n (10 ^ suc w) (omega arith))

cells_tenth : (w n : ℕ) → cells w (n / 10) ++ (cell n 10 ∷ []) ≡ cells (suc w) n
unfolding cells
cells_tenth zero n = refl
cells_tenth (suc w) n = ap₂ (λ a rest. a ∷ rest) (cell_tenth (suc w) n) (cells_tenth w n)

-- a number of one digit, and one of more
one_digit : (w n : ℕ) → n < 10 → column (suc w) n ≡ cells w n ++ ((48 + n % 10) ∷ [])
one_digit w n small = let e : n % 10 ≡ n = omega arith in column_one w n small ∙ rw (cells_blank w n small, e)

more_digits : (w n : ℕ) → 10 ≤ n → column (suc w) (n / 10) ≡ cells w (n / 10) ++ ((48 + n / 10 % 10) ∷ [])
    → column (suc (suc w)) n ≡ cells (suc w) n ++ ((48 + n % 10) ∷ [])
more_digits w n large front = column_more (suc w) n large ∙ rw (front, ← cell_large n 10 large, cells_tenth w n)

column_cells : (w n : ℕ) → n < 10 ^ suc w → column (suc w) n ≡ cells w n ++ ((48 + n % 10) ∷ [])
column_cells zero n h = one_digit zero n h
column_cells (suc w) n h = go (dec_lt n 10) (column_cells w (n / 10) (tenth (suc w) n h))
  where
    go : Dec (n < 10) → column (suc w) (n / 10) ≡ cells w (n / 10) ++ ((48 + n / 10 % 10) ∷ []) → column (suc (suc w)) n ≡ cells (suc w) n ++ ((48 + n % 10) ∷ [])
    go (yes small) front = one_digit (suc w) n small
    go (no large) front = more_digits w n (omega arith) front

pub column_six : (n : ℕ) → n < 1000000 → column 6 n ≡ first_two n ++ last_four n
unfolding cells
column_six n h = column_cells 5 n h

pub column_three : (n : ℕ) → n < 1000 → column 3 n ≡ cell n 100 ∷ cell n 10 ∷ (48 + n % 10) ∷ []
unfolding cells
column_three n h = column_cells 2 n h
