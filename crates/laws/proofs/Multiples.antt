-- Multiples of m, and folds of m: m times a power of two. Quarters of a fold are folds again.
use Prim.Native.Nat.{ℕ, zero, suc, ◌+◌, ◌-◌, ◌*◌, ◌/◌, ◌%◌, ◌^◌, ◌≤◌, ◌<◌}
use mathlib.Core.Path.{◌≡◌, refl, sym, ap, ◌∙◌}
use native.Mathlib.Omega.{arith}
use native.Mathlib.Nat.{mul-le-mul_left, pow-suc, add-sub_of_le, div-add-mod'}
use native.Mathlib.Decide.{dec_lt}
use lib.Pow.{pow_pos, pow-lt, pow-add}
use Rattle.laws.specs.Multiples.{Multiple, Fold}

pub fold_multiple : {m n : ℕ} → Fold m n → Multiple m n
fold_multiple f = record { times = 2 ^ f.power; is = f.is }

pub fold_least : {m n : ℕ} → Fold m n → m ≤ n
fold_least {m} f = let e = f.is in let u = mul-le-mul_left m (pow_pos f.power) in omega arith

pub add_multiple : {m a b : ℕ} → Multiple m a → Multiple m b → Multiple m (a + b)
add_multiple p q = record { times = p.times + q.times; is = let e = p.is in let f = q.is in omega arith }

pub multiple_times : {m a : ℕ} → Multiple m a → (b : ℕ) → Multiple m (a * b)
multiple_times p b = record { times = p.times * b; is = rw p.is (omega arith) }

pub mod_multiple : (m n : ℕ) → n % m ≡ 0 → Multiple m n
mod_multiple m n h = record { times = n / m; is = let e = div-add-mod' n m in omega arith }

-- two multiples of m, one above the other, are m apart
pub apart : {m a b : ℕ} → Multiple m a → Multiple m b → a < b → a + m ≤ b
apart {m} {a} {b} p q h = go (dec_lt p.times q.times)
  where
    go : Dec (p.times < q.times) → a + m ≤ b
    go (yes k) = let e = p.is in let f = q.is in let u = mul-le-mul_left m k in omega arith
    go (no k) = let e = p.is in let f = q.is in let l : q.times ≤ p.times = omega arith in let u = mul-le-mul_left m l in absurd (omega arith)

pub same_multiple : (m : ℕ) → Multiple m m
same_multiple m = record { times = 1; is = omega arith }

pub trans_multiple : {a b c : ℕ} → Multiple a b → Multiple b c → Multiple a c
trans_multiple p q = record { times = p.times * q.times; is = q.is ∙ rw p.is (omega arith) }

-- of two powers of two the larger is a fold of the smaller
pub power_fold : {m n : ℕ} (i j : ℕ) → m ≡ 2 ^ i → n ≡ 2 ^ j → m ≤ n → Fold m n
power_fold {m} {n} i j e f h = go (dec_lt j i)
  where
    go : Dec (j < i) → Fold m n
    go (yes k) = let u = pow-lt k in absurd (omega arith)
    go (no k) =
        let g : 2 ^ j ≡ 2 ^ i * 2 ^ (j - i) = ap (λ x. 2 ^ x) (sym (add-sub_of_le (omega arith))) ∙ pow-add 2 i (j - i) in
        record { power = j - i; is = f ∙ rw e g }

-- ---- quarters

pub four_quarters : {n : ℕ} → Multiple 4 n → n / 4 * 4 ≡ n
four_quarters p = let e = p.is in omega arith

-- 1, 2 and 4 are the powers of two among the quarters
pub quarters : (q : ℕ) → 0 < q → q ≤ 4 → ¬ (q ≡ 3) → Fold 1 q
quarters zero a b c = absurd (omega arith)
quarters (suc zero) a b c = record { power = 0; is = refl }
quarters (suc (suc zero)) a b c = record { power = 1; is = refl }
quarters (suc (suc (suc zero))) a b c = absurd (c refl)
quarters (suc (suc (suc (suc zero)))) a b c = record { power = 2; is = refl }
quarters (suc (suc (suc (suc (suc q))))) a b c = absurd (omega arith)

-- So many quarters of a fold of m are a fold of m, where they are longer than half of m.
pub fold_share : {m n q : ℕ} → Multiple 4 n → Fold m n → Fold 1 q → m * 2 < n * q → Fold m (n / 4 * q)
fold_share {m} {n} {q} by-four f g h =
    let s : n / 4 * 4 ≡ n = four_quarters by-four in
    let e : n * q ≡ m * 2 ^ (f.power + g.power) = rw (f.is, g.is, pow-add 2 f.power g.power) (omega arith) in
    let x : n * q ≡ n / 4 * q * 4 = ap (λ a. a * q) (sym s) ∙ omega arith in
    go (f.power + g.power) (sym x ∙ e) (rw x at h)
  where
    go : (p : ℕ) → n / 4 * q * 4 ≡ m * 2 ^ p → m * 2 < n / 4 * q * 4 → Fold m (n / 4 * q)
    go zero e k = absurd (omega arith)
    go (suc zero) e k = absurd (omega arith)
    go (suc (suc p)) e k =
        let c : m * 2 ^ suc (suc p) ≡ m * 2 ^ p * 4 = rw (pow-suc 2 (suc p), pow-suc 2 p) (omega arith) in
        record { power = p; is = omega arith }
