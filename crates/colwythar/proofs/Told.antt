-- The first word of an answer is 0 exactly where the call is accepted.
use mathlib.Core.Path.{◌≡◌, refl}
use mathlib.Core.Bool.{true}
use Rattle.settings.specs.Checks.{settings_refusal}
use Rattle.settings.specs.Faults.{settings_numbers}
use Rattle.settings.specs.Units.{counted_by, count_number}
use Rattle.settings.proofs.Numbers.{zero_picked}
use Rattle.unit.specs.Units.{Units}
use Rattle.unit.specs.Faults.{read_numbers, rows_numbers, turn_numbers}
use Rattle.unit.proofs.Decided.{zero_accepts, reading_decides, turning_decides}
use Rattle.unit.proofs.Luma.{luma_sound}
use Rattle.unit.proofs.Numbers.{lacks}
use Rattle.unit.proofs.Sound.{Sound}
use Rattle.page.specs.PartitionPage.{page_numbers}
use Rattle.page.proofs.PartitionPage.{partition_page}
use Rattle.compare.proofs.PartitionsCompared.{partitions_compared}
use Rattle.picture.specs.State.{opened_by}
use Rattle.picture.specs.Session.{opened_number}
use Rattle.picture.specs.CallFaults.{call_numbers}
use Rattle.picture.proofs.CallFaults.{call_decides_lem}
use Rattle.bank.specs.GrantFaults.{grant_numbers}
use Rattle.bank.proofs.RowAllowance.{row_allowance}
use Rattle.h265settings.specs.Checks as h265s
use Rattle.h265settings.proofs.Sound.{h265_sound}
use Rattle.colwythar.specs.Words.{Tells, Told}

tells : {us : Units} → Sound us → lacks 0 (read_numbers us.numbers) ≡ true → lacks 0 (turn_numbers us.numbers) ≡ true → Tells us
unfolding counted_by
tells {us} law r t = record {
  reads = λ a flags buffer. zero_accepts (read_numbers us.numbers) r _ (reading_decides law a flags buffer).uses;
  turns = λ a bytes small buffer. zero_accepts (turn_numbers us.numbers) t _ (turning_decides law a bytes small buffer).uses;
  calls = λ due c. zero_accepts call_numbers refl _ (call_decides_lem law due c (λ d. d)).uses;
  counts = zero_picked count_number _ _ us.refusal refl refl;
}

pub told : Told
unfolding opened_by
told = record {
  units = λ s. tells (luma_sound s) refl refl;
  pages = λ s a bytes small page. zero_accepts page_numbers refl _ (partition_page.decided s a bytes small page).uses;
  comparisons = λ s a first second small. zero_accepts (rows_numbers settings_numbers) refl _ (partitions_compared.decided s a first second small).uses;
  grants = λ limit accounts t camera c. zero_accepts grant_numbers refl _ (row_allowance.decided limit accounts t camera c).uses;
  opens = λ s. zero_picked opened_number _ _ (settings_refusal s) refl refl;
  h265_units = λ s. tells (h265_sound s) refl refl;
  h265_opens = λ s. zero_picked opened_number _ _ (h265s.settings_refusal s) refl refl;
}
