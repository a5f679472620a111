-- The sessions of any settings: the opening, the session after an accepted unit, and the laws of a session over units with one coding tree.
use Rattle.std.proofs.Common.{Ok, Err}
use Prim.Native.Nat.{ℕ, ◌+◌}
use mathlib.Core.Path.{◌≡◌, refl}
use Rattle.laws.proofs.Tests.{never}
use Rattle.refusals.specs.Said.{Accepted}
use Rattle.unit.specs.Units.{Units}
use Rattle.unit.proofs.Sound.{Sound}
use Rattle.picture.specs.declared.Session.{Session}
use Rattle.picture.specs.State.{Call}
use Rattle.picture.specs.CallFaults.{Opens}
use Rattle.picture.specs.OneTree.{tree_units}
use Rattle.picture.specs.Session.{opening, unit_call, following}
use Rattle.picture.proofs.CallFaults.{opens, fresh_passed}
use Rattle.picture.proofs.OneTree.{SessionLaws}
use Rattle.picture.proofs.StateCalls.{state_laws}

abbrev pub at_due : {S : Type 0} → S → ℕ → Session S
at_due s a = record { settings = s; due = a }

module _ {S : Type 0} (units_of : S → Units) where
  pub moves : (t : Session S) (c : Call) (count : ℕ) → (unit_call units_of t c).answer ≡ Accepted count
      → following t (unit_call units_of t c).answer ≡ record { settings = t.settings; due = t.due + 1 }
  moves t c count e = rw e

  module _ (s : S) where
    pub session_opens : Sound (units_of s) → Opens (units_of s) (opening units_of s) (Ok (at_due s 0)) Err
    session_opens law = opens (units_of s) (Ok (at_due s 0)) Err (λ number e. never (cc)) (λ m n e. cc) law

    -- a fresh session has the settings given, which pass, and address 0 due
    pub fresh : (t : Session S) → opening units_of s ≡ Ok t → ((units_of s).refusal ≡ 0) × (t ≡ at_due s 0)
    fresh t e = let f = fresh_passed (units_of s) _ _ (λ number g. never (cc)) e in (f.0, let same = f.1 in cc)

    pub session_laws : (side : ℕ) → SessionLaws (tree_units (units_of s) side) (unit_call units_of) following (λ a. a + 1) (λ a t. t ≡ at_due s a)
    session_laws side = state_laws (units_of s) side (at_due s) (λ a c. refl) (λ a answer. refl)
