-- What the proofs ask of the units of a picture: the laws of a root where a unit is there, and that the faults of the settings are exactly their refusals.
use Prim.Native.Nat.{ℕ, ◌<◌}
use mathlib.Core.Path.{◌≡◌, refl, subst}
use mathlib.Core.Bool.{Bool, true, false, cond}
use mathlib.Core.List.{List, [], ◌∷◌, ◌++◌}
use mathlib.Core.Logic.{inl, inr}
use lib.Dec.{leb, eqb}
use native.Mathlib.Omega.{arith}
use borrow.Author.Tests.{eq-eqb, ne_eqb, eqb-true, leb-true, le-leb}
use Rattle.settings.specs.Units.{refusal_at}
use Rattle.settings.proofs.Grid.{unit_taken}
use Rattle.unit.specs.Units.{Units, refusal_in, root_in}
use Rattle.unit.specs.Exactly.{OneOf}
use Rattle.unit.specs.Faults.{UnitFault, bad_settings, no_unit}
use Rattle.unit.proofs.Numbers.{one_of_more, one_of_later, apart, not_both}
use Rattle.unit.proofs.Roots.{Root}

pub record Sound (us : Units) : Type 0 where
  pub root : (a : ℕ) → us.refusal ≡ 0 → a < us.count → Root us.kind (root_in us a)
  pub fault : {number : ℕ} → us.refusal ≡ number → 0 < number → us.Fault number
  pub refused : {number : ℕ} → us.Fault number → (us.refusal ≡ number) × (0 < number)
  pub listed : {number : ℕ} → us.Fault number → OneOf number us.numbers
  -- none has the number of a delivery, or of no unit
  pub others : apart (10 ∷ 14 ∷ 17 ∷ []) us.numbers ≡ true

module _ {us : Units} (law : Sound us) (a : ℕ) where
  pub root_of_lem : refusal_in us a ≡ 0 → Root us.kind (root_in us a)
  root_of_lem h = let t = unit_taken us.refusal us.count a h in law.root a t.0 t.1

  -- ---- the faults of the settings and of the address are exactly the refusals

  pub unit_fault : (number : ℕ) → refusal_in us a ≡ number → 0 < number → UnitFault us a number
  unfolding refusal_at
  unit_fault number e l = go (eqb us.refusal 0) (leb us.count a) refl refl e
    where
      go : (b c : Bool) → eqb us.refusal 0 ≡ b → leb us.count a ≡ c → cond b (cond c 10 0) us.refusal ≡ number → UnitFault us a number
      go true true i j e = subst (UnitFault us a) e (no_unit (eqb-true us.refusal 0 i) (leb-true us.count a j))
      go true false i j e = absurd (omega arith)
      go false c i j e = bad_settings (law.fault e l)

  pub unit_refused : {number : ℕ} → UnitFault us a number → (refusal_in us a ≡ number) × (0 < number)
  unfolding refusal_at
  unit_refused (bad_settings f) =
      let r = law.refused f in
      let e = r.0 in
      let l = r.1 in
      (rw (ne_eqb us.refusal 0 (λ z. omega arith)) e, l)
  unit_refused (no_unit z l) = (rw (eq-eqb us.refusal 0 z, le-leb us.count a l), omega arith)

  -- a unit that is there has none
  pub unit_none : refusal_in us a ≡ 0 → {number : ℕ} → ¬ UnitFault us a number
  unit_none h f = let u = unit_refused f in let e = u.0 in let l = u.1 in omega arith

  -- their numbers
  pub unit_listed : (rest : List ℕ) {number : ℕ} → UnitFault us a number → OneOf number (us.numbers ++ (10 ∷ rest))
  unit_listed rest {number} (bad_settings f) = one_of_more number us.numbers (10 ∷ rest) (law.listed f)
  unit_listed rest (no_unit z l) = one_of_later 10 us.numbers (10 ∷ rest) (inl refl)

  pub later_listed : (rest : List ℕ) (number : ℕ) → OneOf number rest → OneOf number (us.numbers ++ (10 ∷ rest))
  later_listed rest number o = one_of_later number us.numbers (10 ∷ rest) (inr o)

  pub unit_other : {number : ℕ} → OneOf number (14 ∷ 17 ∷ []) → ¬ UnitFault us a number
  unit_other {number} o (bad_settings f) = not_both number (10 ∷ 14 ∷ 17 ∷ []) us.numbers law.others (inr o) (law.listed f)
  unit_other o (no_unit z l) = ten o
    where
      ten : ¬ OneOf 10 (14 ∷ 17 ∷ [])
      ten (inl e) = omega arith
      ten (inr (inl e)) = omega arith
      ten (inr (inr o)) = elim o [ ]
