-- A unit that was looked for and is there.
use Rattle.std.proofs.Common.{Ok, Err}
use Prim.Native.Nat.{ℕ}
use mathlib.Core.Path.{◌≡◌, refl}
use mathlib.Core.Bool.{Bool, true, false, cond}
use lib.Dec.{eqb}
use borrow.Author.Tests.{eqb-true, ne_eqb}
use Rattle.settings.specs.declared.Square.{Square}
use Rattle.settings.specs.Units.{Located}
use Rattle.settings.specs.Units.{refusal_at, located_by}
use Rattle.laws.proofs.Tests.{never}

pub found : (refusal : ℕ) (square : Square) {q : Square} → located_by refusal square ≡ Ok q → (refusal ≡ 0) × (q ≡ square)
unfolding located_by
found refusal square {q} = go (eqb refusal 0) refl
  where
    go : (b : Bool) → eqb refusal 0 ≡ b → cond b (Ok square) (Err refusal) ≡ Ok q → (refusal ≡ 0) × (q ≡ square)
    go true t h = (eqb-true _ _ t, cc)
    go false t h = never (cc)

-- by the refusal of the settings: it is answered first, and plays no part where it is 0
pub settings_refused : {refusal : ℕ} → ¬ (refusal ≡ 0) → (count a : ℕ) (q : Square) → Err refusal ≡ located_by (refusal_at refusal count a) q
unfolding located_by refusal_at
settings_refused {refusal} e count a q = let n = ne_eqb refusal 0 e in rw (n, n)

pub settings_passed : {refusal : ℕ} → refusal ≡ 0 → (count a : ℕ) (q : Square) {at : Located} → at ≡ located_by (refusal_at 0 count a) q
    → at ≡ located_by (refusal_at refusal count a) q
settings_passed e count a q h = rw e h
