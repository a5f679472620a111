-- Numbers of places in rows of m: which place and which row a number says, and lengths side by side.
use Prim.Native.Nat.{ℕ, ◌+◌, ◌-◌, ◌*◌, ◌/◌, ◌%◌, ◌≤◌, ◌<◌, min}
use mathlib.Core.Path.{◌≡◌, ap, ◌∙◌}
use native.Mathlib.Omega.{arith}
use native.Mathlib.Decide.{ℕ_discrete, dec_lt}
use native.Mathlib.Nat.{div-add-mod', mod-lt, mul-le-mul_right}
use Rattle.laws.specs.Multiples.{Multiple}

-- of lengths c side by side only one holds p
pub one_length : (c i j p : ℕ) → i * c ≤ p → p < i * c + c → j * c ≤ p → p < j * c + c → i ≡ j
one_length c i j p a b e f = go (dec_lt i j) (dec_lt j i)
  where
    go : Dec (i < j) → Dec (j < i) → i ≡ j
    go (yes h) _ = let u = mul-le-mul_right c h in absurd (omega arith)
    go (no h) (yes g) = let u = mul-le-mul_right c g in absurd (omega arith)
    go (no h) (no g) = omega arith

-- the length before one that does not start at 0
pub some_of : (c i : ℕ) → 0 < i * c → 0 < i
some_of c i h = go (ℕ_discrete i 0)
  where
    go : Dec (i ≡ 0) → 0 < i
    go (yes z) = let e : i * c ≡ 0 = rw z (omega arith) in absurd (omega arith)
    go (no z) = omega arith

pub length_before : (c i : ℕ) → 0 < i → i * c ≡ (i - 1) * c + c
length_before c i h = let e : i ≡ i - 1 + 1 = omega arith in ap (λ j. j * c) e ∙ omega arith

module _ (m : ℕ) where
  -- a number says one row and one place
  pub one_row : (i j x y : ℕ) → i < m → x < m → j * m + i ≡ y * m + x → j ≡ y
  one_row i j x y h k e = go (dec_lt j y) (dec_lt y j)
    where
      go : Dec (j < y) → Dec (y < j) → j ≡ y
      go (yes a) _ = let u = mul-le-mul_right m a in absurd (omega arith)
      go (no a) (yes b) = let u = mul-le-mul_right m b in absurd (omega arith)
      go (no a) (no b) = omega arith

  pub one_place : (i j x y : ℕ) → i < m → x < m → j * m + i ≡ y * m + x → i ≡ x
  one_place i j x y h k e = let r = one_row i j x y h k e in let f : j * m ≡ y * m = rw r in omega arith

  -- the next number in the same place stands in the next row
  pub next_row : (i j y : ℕ) → y * m + i + 1 ≤ j * m + i → j * m + i < y * m + i + 1 + m → j ≡ y + 1
  next_row i j y a b = go (dec_lt j (y + 1)) (dec_lt (y + 1) j)
    where
      go : Dec (j < y + 1) → Dec (y + 1 < j) → j ≡ y + 1
      go (yes h) _ = let l : j ≤ y = omega arith in let u = mul-le-mul_right m l in absurd (omega arith)
      go (no h) (yes g) = let u = mul-le-mul_right m g in absurd (omega arith)
      go (no h) (no g) = omega arith

  -- one number on, not at the start of a row: one place on
  module _ (pos : 0 < m) (a : ℕ) (some : 0 < (a + 1) % m) where
    next_both : ((a + 1) % m ≡ a % m + 1) × ((a + 1) / m ≡ a / m)
    next_both = go (dec_lt (a % m + 1) m)
      where
        is : (a + 1) / m * m + (a + 1) % m ≡ a / m * m + (a % m + 1)
        is = let x = div-add-mod' (a + 1) m in let y = div-add-mod' a m in omega arith

        go : Dec (a % m + 1 < m) → ((a + 1) % m ≡ a % m + 1) × ((a + 1) / m ≡ a / m)
        go (yes h) =
            let l = mod-lt (a + 1) pos in
            (one_place ((a + 1) % m) ((a + 1) / m) (a % m + 1) (a / m) l h is, one_row ((a + 1) % m) ((a + 1) / m) (a % m + 1) (a / m) l h is)
        go (no h) =
            let l = mod-lt (a + 1) pos in
            let k = mod-lt a pos in
            let e : (a + 1) / m * m + (a + 1) % m ≡ (a / m + 1) * m + 0 = let i = is in omega arith in
            let z = one_place ((a + 1) % m) ((a + 1) / m) 0 (a / m + 1) l pos e in
            absurd (omega arith)

    pub next_place : (a + 1) % m ≡ a % m + 1
    next_place = next_both.0

    pub same_row : (a + 1) / m ≡ a / m
    same_row = next_both.1

one_less : (c : ℕ) → Multiple 4 c → c / 4 - 1 ≡ (c - 1) / 4
one_less c f = let m = f.is in omega arith

-- the last cell of a side of c samples from y on, inside a picture that ends at h
pub last_cell : (c y h : ℕ) → Multiple 4 c → Multiple 4 y → Multiple 4 h → y < h → min c (h - y) / 4 - 1 ≡ (min (y + c) h - 1 - y) / 4
last_cell c y h fc fy fh inside = go (dec_lt h (y + c))
  where
    go : Dec (h < y + c) → min c (h - y) / 4 - 1 ≡ (min (y + c) h - 1 - y) / 4
    go (yes k) =
        let a : min c (h - y) ≡ h - y = omega arith in
        let b : min (y + c) h ≡ h = omega arith in
        let m = fy.is in
        let n = fh.is in
        rw (a, b) (omega arith)
    go (no k) =
        let a : min c (h - y) ≡ c = omega arith in
        let b : min (y + c) h - 1 - y ≡ c - 1 = omega arith in
        rw (a, b) (one_less c fc)
