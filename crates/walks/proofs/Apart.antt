-- What the code has tested. A child's answer taken apart: it was walked, and the walk goes on from that number, or it was refused.
use Prim.Native.Nat.{ℕ, ◌≤◌, ◌<◌}
use mathlib.Core.Path.{◌≡◌, refl, sym, ap, ap₂, ◌∙◌}
use mathlib.Core.Bool.{Bool, true, false, not, ◌||◌, cond}
use lib.Dec.{ltb}
use borrow.Author.Tests.{ltb-true, ltb-false}
use Rattle.sides.proofs.Bools.{not-not}
use Rattle.laws.proofs.Tests.{never}
use Rattle.std.specs.Prelude.{Result, Ok, Err}

-- `if !found`, where what is found is said otherwise, and `if found | other`
pub tested_not : {found said b : Bool} → found ≡ said → not found ≡ b → said ≡ not b
tested_not {found} e h = sym e ∙ sym (not-not found) ∙ ap not h

pub tested_or : {found other said too b : Bool} → found ≡ said → other ≡ too → (found || other) ≡ b → (said || too) ≡ b
tested_or e f h = ap₂ (λ x y. x || y) (sym e) (sym f) ∙ h

module _ (a : ℕ) where
  abbrev apart : Bool → Result ℕ ℕ
  apart b = cond b (Ok a) (Err a)

  pub was_walked : {r : Result ℕ ℕ} {x : ℕ} → r ≡ apart (ltb a 9223372036854775808) → r ≡ Ok x → (x ≡ a) × (a < 9223372036854775808)
  was_walked {r} {x} e f = go (ltb a 9223372036854775808) refl (sym e ∙ f)
    where
      go : (b : Bool) → ltb a 9223372036854775808 ≡ b → apart b ≡ Ok x → (x ≡ a) × (a < 9223372036854775808)
      go true t h = (cc, ltb-true _ _ t)
      go false t h = never (cc)

  pub was_refused : {r : Result ℕ ℕ} {x : ℕ} → r ≡ apart (ltb a 9223372036854775808) → r ≡ Err x → 9223372036854775808 ≤ a
  was_refused {r} {x} e f = go (ltb a 9223372036854775808) refl (sym e ∙ f)
    where
      go : (b : Bool) → ltb a 9223372036854775808 ≡ b → apart b ≡ Err x → 9223372036854775808 ≤ a
      go true t h = never (cc)
      go false t h = ltb-false _ _ t
