-- The number of what counting units and finding one answer is the refusal's.
use Prim.Native.Nat.{ℕ}
use mathlib.Core.Path.{◌≡◌, refl, sym, ap, ◌∙◌}
use mathlib.Core.Logic.{◌↔◌}
use mathlib.Core.Bool.{Bool, true, false, cond}
use lib.Dec.{eqb}
use borrow.Author.Tests.{eqb-true, eqb-false}
use Rattle.settings.specs.declared.Square.{Square}
use Rattle.settings.specs.Units.{counted_by, located_by, count_number, located_number}

-- an answer that is picked by whether a number is 0 has that number
module _ {A : Type 0} (number : A → ℕ) (yes no : A) (k : ℕ) where
  pub picked : (b : Bool) → eqb k 0 ≡ b → number yes ≡ 0 → number no ≡ k → number (cond b yes no) ≡ k
  picked true e y n = y ∙ sym (eqb-true k 0 e)
  picked false e y n = n

  -- it has the number 0 exactly where the first was picked
  pub zero_picked : number yes ≡ 0 → number no ≡ k → (number (cond (eqb k 0) yes no) ≡ 0) ↔ (cond (eqb k 0) yes no ≡ yes)
  zero_picked y n = go (eqb k 0) refl
    where
      go : (b : Bool) → eqb k 0 ≡ b → (number (cond b yes no) ≡ 0) ↔ (cond b yes no ≡ yes)
      go true e = (λ z. refl, λ z. y)
      go false e = (λ z. absurd (eqb-false k 0 e (sym n ∙ z)), λ z. ap number z ∙ y)

pub count_number_lem : (refusal count : ℕ) → count_number (counted_by refusal count) ≡ refusal
unfolding counted_by
count_number_lem refusal count = picked count_number _ _ refusal _ refl refl refl

pub located_number_lem : (refusal : ℕ) (square : Square) → located_number (located_by refusal square) ≡ refusal
unfolding located_by
located_number_lem refusal square = picked located_number _ _ refusal _ refl refl refl
