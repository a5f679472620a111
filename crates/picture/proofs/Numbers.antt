-- The number of an opening is the settings' refusal.
use mathlib.Core.Path.{◌≡◌, refl}
use Rattle.settings.proofs.Numbers.{picked}
use Rattle.unit.specs.Units.{Units}
use Rattle.picture.specs.State.{opened_by}
use Rattle.picture.specs.Session.{opened_number, opening}

pub opened_number_lem : {S : Type 0} (units_of : S → Units) (s : S) → opened_number (opening units_of s) ≡ (units_of s).refusal
unfolding opened_by
opened_number_lem units_of s = picked opened_number _ _ (units_of s).refusal _ refl refl refl
