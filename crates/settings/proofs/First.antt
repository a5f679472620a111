-- Laws of the first broken rule of a list.
use Prim.Native.Nat.{ℕ, ◌+◌, ◌<◌}
use mathlib.Core.Path.{◌≡◌, refl}
use mathlib.Core.Bool.{Bool, true, false}
use mathlib.Core.List.{List, [], ◌∷◌, ◌++◌}
use native.Mathlib.Nat.{add-zero}
use native.Mathlib.Omega.{arith}
use lib.ListN.{length}
use Rattle.refusals.specs.declared.Reason.{Reason}
use Rattle.refusals.specs.Numbers.{number}
use Rattle.refusals.proofs.Numbers.{not_0}
use Rattle.settings.specs.Checks.{first_hit}

-- no rule is broken
abbrev pub Kept : List Bool → Type 0
Kept [] = Unit
Kept (broken ∷ rules) = (broken ≡ false) × Kept rules

pub kept : (k : ℕ) (rules : List Bool) → 0 < k → first_hit k rules ≡ 0 → Kept rules
kept k [] l h = tt
kept k (true ∷ rules) l h = absurd (omega arith)
kept k (false ∷ rules) l h = (refl, kept (k + 1) rules (omega arith) h)

-- a hit in the first of two lists is the hit
pub in_first : (r : Reason) (k : ℕ) (xs ys : List Bool) → number r ≡ first_hit k xs → number r ≡ first_hit k (xs ++ ys)
in_first r k [] ys e = absurd (not_0 r e)
in_first r k (true ∷ xs) ys e = e
in_first r k (false ∷ xs) ys e = in_first r (k + 1) xs ys e

-- where the first has none, the second counts on
pub in_second : {r : ℕ} (k : ℕ) (xs ys : List Bool) → 0 < k → 0 ≡ first_hit k xs → r ≡ first_hit (k + length xs) ys → r ≡ first_hit k (xs ++ ys)
in_second k [] ys l e g = rw add-zero at g
in_second k (true ∷ xs) ys l e g = absurd (omega arith)
in_second k (false ∷ xs) ys l e g =
    let q : k + length (false ∷ xs) ≡ k + 1 + length xs = omega arith in
    in_second (k + 1) xs ys (omega arith) e (rw q at g)
