-- The call: the unit is looked for, both tables are tested, then compared.
use Rattle.std.proofs.Common.{Ok, Err}
use Prim.Native.Nat.{ℕ}
use mathlib.Core.Path.{◌≡◌, ap, ap₂, ◌∙◌}
use mathlib.Core.Bool.{true}
use mathlib.Core.List.{List}
use Rattle.std.specs.Str.{bytes_eq}
use Rattle.std.proofs.lemmas.Slice.Eq.{bytes_eq-Decides}
use Rattle.settings.specs.declared.Settings.{Settings}
use Rattle.settings.specs.declared.Square.{Square}
use Rattle.settings.specs.Units.{Located}
use Rattle.settings.proofs.Passed.{passed}
use Rattle.tree.specs.declared.Limits.{Limits}
use Rattle.tree.specs.declared.Node.{Node}
use Rattle.tree.specs.Kind.{Kind, luma}
use Rattle.tree.specs.Rows.{Row, rows_in}
use Rattle.tree.specs.Run.{goes, stops}
use Rattle.laws.proofs.Tests.{never}
use Rattle.unit.specs.Answers.{Answer}
use Rattle.refusals.specs.Said.{Accepted, Refused}
use Rattle.unit.specs.Answers.{answer_of}
use Rattle.unit.specs.Units.{Units, refusal_in, root_in, located_in, root_of}
use Rattle.unit.specs.Luma.{limits_of, units_of}
use Rattle.unit.specs.Writer.{test_rows, test_located}
use Rattle.unit.proofs.Accepts.{answer_stops, answer_goes}
use Rattle.unit.proofs.Located.{found}
use Rattle.unit.proofs.Luma.{luma_sound, usable}
use Rattle.unit.proofs.Sound.{Sound, root_of_lem}
use Rattle.unit.proofs.Tested.{Passed, unit_tested, passes}
use Rattle.walks.specs.Rooted.{UnitRoot}
use Rattle.walks.proofs.UnitRoots.{found_root}
use Rattle.compare.specs.declared.finer.Finer.TheVariants.{Equal}
use Rattle.compare.specs.Finer.{comparison, finer_number}
use Rattle.compare.specs.Compare.{after_both, compare_rows, compare_located, compare_unit}
use Rattle.compare.specs.Tests.{Passes, Tabled, Comparable}
use Rattle.compare.proofs.Unions.{finer_self}
use Rattle.compare.proofs.Trees.{trees_comparable}

-- ---- two tables of a root, by what their tests end with and by what they answer

module _ (k : Kind) (root : Node) (first second : List ℕ) where
  first_stopped : {number place : ℕ} → (test_rows k root first).end ≡ stops number place → compare_rows k root first second ≡ Refused number place
  unfolding compare_rows after_both
  first_stopped e = rw e

  second_stopped : {rest : List Row} {number place : ℕ} → (test_rows k root first).end ≡ goes rest → (test_rows k root second).end ≡ stops number place
      → compare_rows k root first second ≡ Refused number place
  unfolding compare_rows after_both
  second_stopped e f = rw (e, f)

  both_go : {rest rest₁ : List Row} → (test_rows k root first).end ≡ goes rest → (test_rows k root second).end ≡ goes rest₁
      → compare_rows k root first second ≡ Accepted (finer_number (comparison (rows_in first) (rows_in second)))
  unfolding compare_rows after_both
  both_go e f = rw (e, f)

  pub first_refused : {number place : ℕ} → answer_of (test_rows k root first) ≡ Refused number place → compare_rows k root first second ≡ Refused number place
  first_refused e = first_stopped (answer_stops (test_rows k root first) e)

  module _ {flags : ℕ} (p : answer_of (test_rows k root first) ≡ Accepted flags) where
    pub second_refused : {number place : ℕ} → answer_of (test_rows k root second) ≡ Refused number place → compare_rows k root first second ≡ Refused number place
    second_refused e = second_stopped (answer_goes (test_rows k root first) p).2 (answer_stops (test_rows k root second) e)

    pub both_accepted : {flags₁ : ℕ} → answer_of (test_rows k root second) ≡ Accepted flags₁
        → compare_rows k root first second ≡ Accepted (finer_number (comparison (rows_in first) (rows_in second)))
    both_accepted q = both_go (answer_goes (test_rows k root first) p).2 (answer_goes (test_rows k root second) q).2

-- ---- two tables of a unit that was looked for

module _ (k : Kind) (first second : List ℕ) where
  pub located_first : (at : Located) {number place : ℕ} → (test_located k at first).end ≡ stops number place → compare_located k at first second ≡ Refused number place
  unfolding test_located compare_located
  located_first (Ok q) e = first_stopped k (root_of q) first second e
  located_first (Err m) {number} {place} e = let x : m ≡ number = cc in let y : 0 ≡ place = cc in ap₂ Refused x y

  pub located_second : (at : Located) {rest : List Row} {number place : ℕ} → (test_located k at first).end ≡ goes rest
      → (test_located k at second).end ≡ stops number place → compare_located k at first second ≡ Refused number place
  unfolding test_located compare_located
  located_second (Ok q) e f = second_stopped k (root_of q) first second e f
  located_second (Err m) e f = never (cc)

  pub located_both : (at : Located) {rest rest₁ : List Row} → (test_located k at first).end ≡ goes rest → (test_located k at second).end ≡ goes rest₁
      → compare_located k at first second ≡ Accepted (finer_number (comparison (rows_in first) (rows_in second)))
  unfolding test_located compare_located
  located_both (Ok q) e f = both_go k (root_of q) first second e f
  located_both (Err m) e f = never (cc)

-- ---- tables that pass the test of a root

module _ (k : Kind) (root : Node) (tabled : Tabled k root) (first second : List ℕ) {flags : ℕ} (p : answer_of (test_rows k root first) ≡ Accepted flags) where
  passes_first : Passes k root first
  passes_first = record { flags = flags; answer = p }

  pub both_comparable : {flags₁ : ℕ} → answer_of (test_rows k root second) ≡ Accepted flags₁ → Comparable (rows_in first) (rows_in second)
  both_comparable {flags₁} q = tabled.comparable first second passes_first (record { flags = flags₁; answer = q })

  -- a table beside itself
  pub same_equal : bytes_eq first second ≡ true → compare_rows k root first second ≡ Accepted (finer_number Equal)
  same_equal same =
      let c = tabled.comparable first first passes_first passes_first in
      let e = finer_self (rows_in first) c.one.once in
      rw (← (bytes_eq-Decides first second).0 same) (both_accepted k root first first p p ∙ rw e)

-- ---- a unit that was looked for

module _ {us : Units} (law : Sound us) (a : ℕ) where
  -- tables that pass have the same samples, each once
  pub passed_comparable : {first second : List ℕ} → Passed us a first → Passed us a second → Comparable (rows_in first) (rows_in second)
  passed_comparable t u = rw (t.rows, u.rows) at (trees_comparable (root_of_lem law a t.there) t.tree u.tree)

  unit_comparable : refusal_in us a ≡ 0 → (first second : List ℕ) → Passes us.kind (root_in us a) first → Passes us.kind (root_in us a) second
      → Comparable (rows_in first) (rows_in second)
  unit_comparable h first second p q =
      passed_comparable (passes law a first (ap answer_of (unit_tested law a h first) ∙ p.answer)) (passes law a second (ap answer_of (unit_tested law a h second) ∙ q.answer))

module _ (s : Settings) (a : ℕ) {at : Located} (e : at ≡ located_in (units_of s) a) where
  pub none_compared : {number : ℕ} → at ≡ Err number → (first second : List ℕ) → Refused number 0 ≡ compare_unit s a first second
  unfolding compare_located
  none_compared h first second = rw (← e, h)

  pub found_unit : {q : Square} → at ≡ Ok q → UnitRoot (limits_of s) (root_of q)
  found_unit h = found_root (λ z. usable (passed s z)) a e h

  module _ {q : Square} (h : at ≡ Ok q) {l : Limits} {root : Node} (i : l ≡ limits_of s) (j : root ≡ root_of q) where
    pub found_tabled : Tabled (luma l) root
    found_tabled =
        let f = found (refusal_in (units_of s) a) ((units_of s).square a) (rw e at h) in
        record { comparable = rw (i, j, f.1) (unit_comparable (luma_sound s) a f.0) }

    pub there_compared : (first second : List ℕ) {said : Answer} → said ≡ compare_rows (luma l) root first second → said ≡ compare_unit s a first second
    unfolding compare_located
    there_compared first second t = rw (← e, h) (rw (i, j) at t)
