-- R-11 for every unit: `LawsOfFiner`.
use Prim.Native.Nat.{ℕ, zero, suc}
use mathlib.Core.Path.{◌≡◌, refl, sym, ap, ◌∙◌}
use mathlib.Core.Bool.{Bool, true, false}
use mathlib.Core.List.{List}
use lib.Dec.{leb}
use Rattle.settings.specs.declared.Settings.{Settings}
use Rattle.tree.specs.Rows.{rows_in}
use Rattle.refusals.specs.Said.{Accepted}
use Rattle.unit.specs.Luma.{units_of}
use Rattle.unit.proofs.Luma.{luma_sound}
use Rattle.unit.proofs.Tested.{Passed}
use Rattle.compare.specs.declared.finer.Finer.{Finer}
use Rattle.compare.specs.declared.finer.Finer.TheVariants.{Equal, First, Second, Neither}
use Rattle.compare.specs.Finer.{finer_or_equal, finer_by, comparison, finer_number}
use Rattle.compare.specs.Blocks.{EqualBlocks}
use Rattle.compare.specs.LawsOfFiner.{Answers, AcceptedTable, as_first, as_second, FinerOrEqual, equal, finer, mirrored, LawsOfFiner}
use Rattle.compare.specs.Tests.{Comparable}
use Rattle.compare.proofs.Unions.{finer_self}
use Rattle.compare.proofs.Equal.{equal_blocks}
use Rattle.compare.proofs.Through.{finer_through}
use Rattle.compare.proofs.Calls.{passed_comparable}
use Rattle.compare.proofs.PartitionsCompared.{both_pass, both_passed, both_number}

-- ---- the four answers

-- whether the first is finer or equal, by the answer's number
first_number : (a b : Bool) → leb (finer_number (finer_by a b)) 1 ≡ a
first_number true true = refl
first_number true false = refl
first_number false true = refl
first_number false false = refl

by_mirrored : (a b : Bool) → finer_by b a ≡ mirrored (finer_by a b)
by_mirrored true true = refl
by_mirrored true false = refl
by_mirrored false true = refl
by_mirrored false false = refl

-- the answer of a number
abbrev answer_at : ℕ → Finer
answer_at zero = Equal
answer_at (suc zero) = First
answer_at (suc (suc zero)) = Second
answer_at (suc (suc (suc n))) = Neither

answer_back : (answer : Finer) → answer_at (finer_number answer) ≡ answer
answer_back Equal = refl
answer_back First = refl
answer_back Second = refl
answer_back Neither = refl

same_answer : (one other : Finer) → finer_number one ≡ finer_number other → one ≡ other
same_answer one other e = sym (answer_back one) ∙ ap answer_at e ∙ answer_back other

-- ---- tables that pass the way back's test

module _ (s : Settings) (a : ℕ) where
  abbrev Table : List ℕ → Type 0
  Table bytes = Passed (units_of s) a bytes

  accepted_table : {table : List ℕ} → AcceptedTable s a table → Table table
  accepted_table {table} (as_first second m e) = (both_passed s a table second e).0
  accepted_table {table} (as_second first m e) = (both_passed s a first table e).1

  both_tables : {first second : List ℕ} → FinerOrEqual s a first second → Table first × Table second
  both_tables {first} {second} (equal e) = both_passed s a first second e
  both_tables {first} {second} (finer e) = both_passed s a first second e

  samples : {first second : List ℕ} → Table first → Table second → Comparable (rows_in first) (rows_in second)
  samples p q = passed_comparable (luma_sound s) a p q

  module _ (first second : List ℕ) where
    abbrev test : Bool
    test = finer_or_equal (rows_in first) (rows_in second)

    abbrev test₁ : Bool
    test₁ = finer_or_equal (rows_in second) (rows_in first)

    test_of : FinerOrEqual s a first second → test ≡ true
    test_of f = sym (first_number test test₁) ∙ by f
      where
        by : FinerOrEqual s a first second → leb (finer_number (comparison (rows_in first) (rows_in second))) 1 ≡ true
        by (equal e) = ap (λ n. leb n 1) (both_number s a first second e)
        by (finer e) = ap (λ n. leb n 1) (both_number s a first second e)

    test_from : Table first → Table second → test ≡ true → FinerOrEqual s a first second
    test_from p q h = go test₁ refl
      where
        go : (b : Bool) → test₁ ≡ b → FinerOrEqual s a first second
        go true e = equal (both_pass s a first second p q ∙ rw (h, e))
        go false e = finer (both_pass s a first second p q ∙ rw (h, e))

  -- ---- the laws

  compared : (first second : List ℕ) → AcceptedTable s a first → AcceptedTable s a second → (answer : Finer) × Answers s a first second answer
  compared first second f g = (comparison (rows_in first) (rows_in second), both_pass s a first second (accepted_table f) (accepted_table g))

  reflexive : (table : List ℕ) → AcceptedTable s a table → Answers s a table table Equal
  reflexive table f =
      let p = accepted_table f in
      let e = finer_self (rows_in table) (samples p p).one.once in
      both_pass s a table table p p ∙ rw e

  transitive : (first second third : List ℕ) → FinerOrEqual s a first second → FinerOrEqual s a second third → FinerOrEqual s a first third
  transitive first second third f g =
      let p = both_tables f in
      let q = both_tables g in
      let through = finer_through (samples p.0 p.1) (samples q.0 q.1) (test_of first second f) (test_of second third g) in
      test_from first third p.0 q.1 through

  antisymmetric : (first second : List ℕ) → FinerOrEqual s a first second → FinerOrEqual s a second first
      → EqualBlocks (rows_in first) (rows_in second) × Answers s a first second Equal
  antisymmetric first second f g =
      let both = both_tables f in
      let x = test_of first second f in
      let y = test_of second first g in
      (equal_blocks (samples both.0 both.1) x y, both_pass s a first second both.0 both.1 ∙ rw (x, y))

  mirror : (first second : List ℕ) (answer : Finer) → Answers s a first second answer → Answers s a second first (mirrored answer)
  mirror first second answer e =
      let both = both_passed s a first second e in
      let same = same_answer (comparison (rows_in first) (rows_in second)) answer (both_number s a first second e) in
      let turn = by_mirrored (test first second) (test second first) ∙ ap mirrored same in
      both_pass s a second first both.1 both.0 ∙ ap (λ f. Accepted (finer_number f)) turn

pub laws_of_finer : LawsOfFiner
laws_of_finer = record { compared = compared; reflexive = reflexive; transitive = transitive; antisymmetric = antisymmetric; mirror = mirror }
