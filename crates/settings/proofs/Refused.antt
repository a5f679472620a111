-- Where the settings are refused, so are their count of units and their units.
use Rattle.std.proofs.Common.{ℕ, ◌≡◌, Err}
use Rattle.refusals.specs.declared.Reason.{Reason}
use Rattle.refusals.specs.Numbers.{number}
use Rattle.refusals.proofs.Numbers.{not_0}
use borrow.Author.Tests.{ne_eqb}
use Rattle.settings.specs.declared.Square.{Square}
use Rattle.settings.specs.Units.{counted_by, located_by, refusal_at}

module _ (r : Reason) {refusal : ℕ} (e : number r ≡ refusal) where
  pub refused_count : (units : ℕ) → Err (number r) ≡ counted_by refusal units
  unfolding counted_by
  refused_count units = rw (← e, ne_eqb _ 0 (not_0 r))

  pub refused_unit : (units address : ℕ) (q : Square) → Err (number r) ≡ located_by (refusal_at refusal units address) q
  unfolding located_by refusal_at
  refused_unit units address q = let n = ne_eqb _ 0 (not_0 r) in rw (← e, n, n)
