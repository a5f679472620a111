-- Tests of every row, of some row, and of every number below one.
use Prim.Native.Nat.{ℕ, zero, suc, ◌<◌}
use mathlib.Core.Path.{◌≡◌, refl, sym, subst}
use mathlib.Core.Bool.{Bool, true, false, ◌||◌}
use mathlib.Core.List.{List, [], ◌∷◌}
use mathlib.Core.Option.{some}
use native.Mathlib.Omega.{arith}
use native.Mathlib.Decide.{ℕ_discrete}
use lib.ListN.{get_elem?}
use Rattle.sides.proofs.Bools.{clash, and_left, and_right, and_intro, or_left, or_right}
use Rattle.tree.specs.Rows.{Row}
use Rattle.laws.specs.CellOrder.{RowAt}
use Rattle.laws.proofs.Tests.{never}
use Rattle.compare.specs.Finer.{every_row, some_row, every_below}

-- two tests of which each implies the other
pub same_tests : (a b : Bool) → (a ≡ true → b ≡ true) → (b ≡ true → a ≡ true) → a ≡ b
same_tests true b f g = sym (f refl)
same_tests false true f g = g refl
same_tests false false f g = refl

module _ (test : Row → Bool) where
  pub each_of : (rows : List Row) → every_row test rows ≡ true → {r : Row} (i : ℕ) → get_elem? rows i ≡ some r → test r ≡ true
  unfolding every_row
  each_of [] h i e = never (cc)
  each_of (s ∷ rows) h {r} zero e = let same : s ≡ r = cc in subst (λ q. test q ≡ true) same (and_left (test s) (every_row test rows) h)
  each_of (s ∷ rows) h (suc i) e = each_of rows (and_right (test s) (every_row test rows) h) i e

  pub each_from : (rows : List Row) → ((i : ℕ) (r : Row) → get_elem? rows i ≡ some r → test r ≡ true) → every_row test rows ≡ true
  unfolding every_row
  each_from [] f = refl
  each_from (r ∷ rows) f = and_intro (test r) (every_row test rows) (f 0 r refl) (each_from rows (λ i s e. f (suc i) s e))

  pub some_of : (rows : List Row) → some_row test rows ≡ true → (i : ℕ) × RowAt (λ r. test r ≡ true) rows i
  unfolding some_row
  some_of [] h = clash h refl
  some_of (r ∷ rows) h = go (test r) refl h (some_of rows)
    where
      go : (t : Bool) → test r ≡ t → (t || some_row test rows) ≡ true → (some_row test rows ≡ true → (i : ℕ) × RowAt (λ r. test r ≡ true) rows i)
          → (i : ℕ) × RowAt (λ r. test r ≡ true) (r ∷ rows) i
      go true e k rest = (0, record { row = r; is = refl; has = e })
      go false e k rest = let f = rest k in (suc f.0, record { row = f.1.row; is = f.1.is; has = f.1.has })

  pub some_from : (rows : List Row) {r : Row} (i : ℕ) → get_elem? rows i ≡ some r → test r ≡ true → some_row test rows ≡ true
  unfolding some_row
  some_from [] i e t = never (cc)
  some_from (s ∷ rows) {r} zero e t = let same : r ≡ s = cc in or_left (test s) (some_row test rows) (subst (λ q. test q ≡ true) same t)
  some_from (s ∷ rows) (suc i) e t = or_right (test s) (some_row test rows) (some_from rows i e t)

module _ (test : ℕ → Bool) where
  pub below_of : (n : ℕ) → every_below n test ≡ true → (i : ℕ) → i < n → test i ≡ true
  unfolding every_below
  below_of zero h i l = absurd (omega arith)
  below_of (suc n) h i l = go (ℕ_discrete i n) (below_of n (and_right (test n) (every_below n test) h) i)
    where
      go : Dec (i ≡ n) → (i < n → test i ≡ true) → test i ≡ true
      go (yes e) rest = subst (λ m. test m ≡ true) (sym e) (and_left (test n) (every_below n test) h)
      go (no e) rest = rest (omega arith)

  pub below_from : (n : ℕ) → ((i : ℕ) → i < n → test i ≡ true) → every_below n test ≡ true
  unfolding every_below
  below_from zero f = refl
  below_from (suc n) f = and_intro (test n) (every_below n test) (f n (omega arith)) (below_from n (λ i l. f i (omega arith)))
