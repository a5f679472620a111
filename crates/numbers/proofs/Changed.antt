-- A list changed place by place: its length stays, and each element is the change of what stood there.
use Prim.Native.Nat.{ℕ, zero, suc, ◌+◌, ◌<◌}
use mathlib.Core.Path.{◌≡◌, refl, ap, ◌∙◌}
use mathlib.Core.List.{List, [], ◌∷◌}
use native.Mathlib.Omega.{arith}
use lib.ListN.{length, get_or}
use Rattle.numbers.specs.Map.{changed}

module _ {A : Type 0} (f : ℕ → A → A) where
  pub changed_length : (at : ℕ) (l : List A) → length (changed f at l) ≡ length l
  unfolding changed
  changed_length at [] = refl
  changed_length at (a ∷ rest) = ap suc (changed_length (at + 1) rest)

  pub changed_at : (at : ℕ) (l : List A) (i : ℕ) (d : A) → i < length l → get_or (changed f at l) i d ≡ f (at + i) (get_or l i d)
  unfolding changed
  changed_at at [] i d h = absurd (omega arith)
  changed_at at (a ∷ rest) zero d h = ap (λ j. f j a) (let e : at ≡ at + 0 = omega arith in e)
  changed_at at (a ∷ rest) (suc i) d h =
      changed_at (at + 1) rest i d (omega arith) ∙ ap (λ j. f j (get_or rest i d)) (let e : at + 1 + i ≡ at + suc i = omega arith in e)
