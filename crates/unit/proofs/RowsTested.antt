-- The test of rows, for itself: `RowsTested`.
use Prim.Native.Nat.{ℕ}
use mathlib.Core.Path.{◌≡◌, refl, sym, ap, ◌∙◌}
use mathlib.Core.List.{List}
use Rattle.tree.specs.Run.{stops}
use Rattle.laws.proofs.Tests.{never}
use Rattle.refusals.specs.Said.{Refused}
use Rattle.unit.specs.Answers.{answer_of}
use Rattle.unit.specs.Units.{Units}
use Rattle.unit.specs.Writer.{test_in}
use Rattle.unit.specs.Exactly.{Bytes}
use Rattle.unit.specs.Faults.{RowsFault, rows_numbers}
use Rattle.unit.specs.RowsTested.{TestsExactly, RowsTested}
use Rattle.unit.proofs.Sound.{Sound}
use Rattle.unit.proofs.Luma.{luma_sound}
use Rattle.unit.proofs.Accepts.{answer_stops, answer_goes}
use Rattle.unit.proofs.Decided.{decides, same_fault, rows_listed}
use Rattle.unit.proofs.Tested.{Tested, faulty, passed, tree_tested, tested, passes, table_of, fault_stops}

module _ {us : Units} (law : Sound us) (a : ℕ) (bytes : List ℕ) where
  -- the fault of a refusal
  fault_of : (number place : ℕ) → answer_of (test_in us a bytes) ≡ Refused number place → RowsFault us a bytes number place
  fault_of number place e = go (tested law a bytes)
    where
      there : (test_in us a bytes).end ≡ stops number place
      there = answer_stops (test_in us a bytes) e

      go : Tested us a bytes → RowsFault us a bytes number place
      go (faulty {number = k} {place = p} f w) =
          let g : stops k p ≡ stops number place = sym w ∙ there in
          let x : k ≡ number = cc in
          let y : p ≡ place = cc in
          same_fault (RowsFault us a bytes) f x y
      go (passed p) = let g = ap (λ r. r.end) p.gives_flags in let h = there in never (cc)

  refused_for : (number place : ℕ) → RowsFault us a bytes number place
      → (answer_of (test_in us a bytes) ≡ Refused number place) × (◌≡◌ {A = Unit {0}} tt tt)
  refused_for number place f = (rw (fault_stops law a bytes f), refl)

pub tests_exactly : {us : Units} → Sound us → (a : ℕ) (bytes : List ℕ) → Bytes bytes → TestsExactly us a bytes
tests_exactly {us} law a bytes small = record {
  decided = decides (RowsFault us a bytes) (rows_numbers us.numbers) (fault_of law a bytes) (refused_for law a bytes) (λ number place f. rows_listed law a f);
  tests = λ h t e. rw (← e, tree_tested law a h t);
  counts = λ m e.
      let p = passes law a bytes e in
      let g = p.gives_flags in
      (p.tree, table_of law a bytes small p, rw g at (answer_goes (test_in us a bytes) e).0);
}

pub rows_tested : RowsTested
rows_tested s = tests_exactly (luma_sound s)
