-- Sums over accounts: how a store at one place and a new period change them, and that the code finds what is left.
use Prim.Native.Nat.{ℕ, zero, suc, ◌+◌, ◌-◌, ◌≤◌, ◌<◌}
use mathlib.Core.Path.{◌≡◌, refl, sym, ap, ◌∙◌}
use mathlib.Core.Bool.{Bool, false, ◌||◌, or-false, or_assoc}
use mathlib.Core.List.{List, [], ◌∷◌}
use native.Mathlib.Nat.{not-suc-le-zero, le_of_suc-le-suc}
use native.Mathlib.Omega.{arith}
use native.Mathlib.Decide.{dec_lt}
use lib.Dec.{ltb}
use lib.ListN.{length, get_or, set}
use borrow.Author.Tests.{lt-ltb, le-ltb}
use Rattle.std.specs.List.{fold}
use Rattle.bank.specs.declared.accounts.Account.{Account}
use Rattle.bank.specs.Accounts.{Left, none, sum_of, shares, total_use, drawn, left_of, held}
use Rattle.bank.specs.Bank.{new_period}
use Rattle.bank.specs.Steps.{all, left_after}

-- ---- a list of accounts

-- a store at one place
pub sum_set : (f : Account → ℕ) (ys : List Account) (i : ℕ) (a : Account) → i < length ys → sum_of f (set ys i a) + f (get_or ys i none) ≡ sum_of f ys + f a
unfolding sum_of
sum_set f [] i a h = absurd (not-suc-le-zero h)
sum_set f (y ∷ ys) zero a h = omega arith
sum_set f (y ∷ ys) (suc i) a h = omega (arith, sum_set f ys i a (le_of_suc-le-suc h))

-- one of them
pub one_most : (f : Account → ℕ) (ys : List Account) (i : ℕ) → i < length ys → f (get_or ys i none) ≤ sum_of f ys
unfolding sum_of
one_most f [] i h = absurd (not-suc-le-zero h)
one_most f (y ∷ ys) zero h = omega arith
one_most f (y ∷ ys) (suc i) h = omega (arith, one_most f ys i (le_of_suc-le-suc h))

-- a new period
pub shares_cleared : (ys : List Account) → shares (new_period ys) ≡ shares ys
unfolding sum_of
shares_cleared [] = refl
shares_cleared (y ∷ ys) = ap (λ (m : ℕ). y.share + m) (shares_cleared ys)

pub use_cleared : (ys : List Account) → total_use (new_period ys) ≡ 0
unfolding sum_of
use_cleared [] = refl
use_cleared (y ∷ ys) = omega (arith, use_cleared ys)

pub drawn_cleared : (ys : List Account) → drawn (new_period ys) ≡ 0
unfolding sum_of
drawn_cleared [] = refl
drawn_cleared (y ∷ ys) = omega (arith, drawn_cleared ys)

-- no more is used than the shares and what is drawn
pub use_most : (ys : List Account) → total_use ys ≤ shares ys + drawn ys
unfolding sum_of
use_most [] = omega arith
use_most (y ∷ ys) = omega (arith, use_most ys)

-- what is held: the shares and what is drawn
pub held_is : (ys : List Account) → sum_of held ys ≡ shares ys + drawn ys
unfolding sum_of
held_is [] = refl
held_is (y ∷ ys) = omega (arith, held_is ys)

-- ---- what is left

-- two amounts exceed a limit where the first does, or the second exceeds what that leaves
over_both : (limit a b : ℕ) → (ltb limit a || ltb (limit - a) b) ≡ ltb limit (a + b)
over_both limit a b = go (dec_lt limit a) (dec_lt (limit - a) b)
  where
    go : Dec (limit < a) → Dec (limit - a < b) → (ltb limit a || ltb (limit - a) b) ≡ ltb limit (a + b)
    go (yes h) d = rw (lt-ltb limit a h, lt-ltb limit (a + b) (omega arith))
    go (no h) (yes l) = rw (le-ltb limit a (omega arith), lt-ltb (limit - a) b l, lt-ltb limit (a + b) (omega arith))
    go (no h) (no l) = rw (le-ltb limit a (omega arith), le-ltb (limit - a) b (omega arith), le-ltb limit (a + b) (omega arith))

-- the same where the rows and the test are
same_left : {m n : ℕ} {s t : Bool} → m ≡ n → s ≡ t → ◌≡◌ {A = Left} (record { rows = m; exceeded = s }) (record { rows = n; exceeded = t })
same_left e f = λ i. record { rows = e i; exceeded = f i }

left_sum : (rows : ℕ) (over : Bool) (ys : List Account)
    → fold left_after (record { rows = rows; exceeded = over }) ys ≡ record { rows = rows - sum_of held ys; exceeded = over || ltb rows (sum_of held ys) }
unfolding sum_of
left_sum rows over [] = same_left (omega arith) (sym (ap (λ (t : Bool). over || t) (le-ltb rows 0 (omega arith)) ∙ or-false over))
left_sum rows over (y ∷ ys) =
    left_sum (rows - held y) (over || ltb rows (held y)) ys
    ∙ same_left (omega arith) (or_assoc over (ltb rows (held y)) (ltb (rows - held y) (sum_of held ys)) ∙ ap (λ (t : Bool). over || t) (over_both rows (held y) (sum_of held ys)))

-- the code finds what is left
pub left_is : (limit : ℕ) (ys : List Account) → fold left_after (all limit) ys ≡ left_of limit ys
left_is limit ys =
    let e = held_is ys in
    left_sum limit false ys ∙ same_left (omega arith) (ap (ltb limit) e ∙ sym (over_both limit (shares ys) (drawn ys)))
