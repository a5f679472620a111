-- The test of a unit's rows: it stops with their fault, or some coding tree has them, and it gives the tree's flags.
use Prim.Native.Nat.{ℕ, ◌/◌, ◌%◌}
use mathlib.Core.Path.{◌≡◌, refl, ap, ◌∙◌}
use mathlib.Core.List.{List, []}
use mathlib.Core.Logic.{inl, inr}
use native.Mathlib.Omega.{arith}
use native.Mathlib.Decide.{ℕ_discrete}
use borrow.Author.Tests.{eq-eqb, ne_eqb}
use Rattle.settings.specs.Units.{located_by}
use lib.ListN.{length}
use Rattle.tree.specs.Rows.{table_bytes, rows_in}
use Rattle.tree.specs.Run.{stops, refuse}
use Rattle.tree.specs.Tree.{flags_of, rows_of}
use Rattle.laws.specs.Begins.{HasRows}
use Rattle.laws.proofs.Runs.{gives}
use Rattle.laws.proofs.Tests.{never}
use Rattle.laws.proofs.Turning.{TurningIsTree}
use Rattle.laws.proofs.Searching.{SearchIsTree}
use Rattle.refusals.specs.Said.{Accepted}
use Rattle.unit.specs.Answers.{answer_of}
use Rattle.unit.specs.Units.{Units, refusal_in, root_in}
use Rattle.unit.specs.Writer.{flags_from, test_rows, test_located, test_in}
use Rattle.unit.specs.Exactly.{UnitTree, Bytes}
use Rattle.unit.specs.Faults.{TableFault, RowsFault, rows_unit, rows_cut, rows_none}
use Rattle.unit.proofs.Sound.{Sound, root_of_lem, unit_fault, unit_refused}
use Rattle.unit.proofs.RootTree.{root_turning, root_search, root_tested}
use Rattle.unit.proofs.Parsed.{bytes_back}
use Rattle.unit.proofs.TreeTurning.{RowsTurned, tree_turned, fault_turned, turned_or_refused}

-- whole rows of a unit that is there, and the tree that has them
pub record Passed (us : Units) (a : ℕ) (bytes : List ℕ) : Type 0 where
  pub there : refusal_in us a ≡ 0
  pub whole : length bytes % 8 ≡ 0
  pub tree : UnitTree us a
  pub rows : rows_of tree ≡ rows_in bytes
  pub gives_flags : test_in us a bytes ≡ gives (flags_of tree) []

-- what the test finds
pub data Tested (us : Units) (a : ℕ) (bytes : List ℕ) : Type 0 where
  faulty : {number place : ℕ} → RowsFault us a bytes number place → (test_in us a bytes).end ≡ stops number place
      → Tested us a bytes
  passed : Passed us a bytes → Tested us a bytes

module _ {us : Units} (law : Sound us) (a : ℕ) where
  -- a unit that is not there
  untested : ¬ (refusal_in us a ≡ 0) → (bytes : List ℕ) → test_in us a bytes ≡ refuse (refusal_in us a) 0
  unfolding test_located located_by
  untested h bytes = rw (ne_eqb (refusal_in us a) 0 h)

  module _ (h : refusal_in us a ≡ 0) where
    turning : TurningIsTree us.kind (root_in us a)
    turning = root_turning (root_of_lem law a h)

    searching : SearchIsTree us.kind (root_in us a)
    searching = root_search (root_of_lem law a h)

    pub unit_tested : (bytes : List ℕ) → test_in us a bytes ≡ test_rows us.kind (root_in us a) bytes
    unfolding test_located located_by
    unit_tested bytes = rw (eq-eqb (refusal_in us a) 0 h)

    -- bytes that are no whole rows, whole rows, and those of a tree
    cut_tested : (bytes : List ℕ) → ¬ (length bytes % 8 ≡ 0) → test_in us a bytes ≡ refuse 15 (length bytes / 8)
    unfolding test_rows
    cut_tested bytes e = unit_tested bytes ∙ rw (ne_eqb (length bytes % 8) 0 e)

    whole_tested : (bytes : List ℕ) → length bytes % 8 ≡ 0
        → test_in us a bytes ≡ flags_from us.kind (root_in us a) (rows_in bytes)
    unfolding test_rows
    whole_tested bytes e = unit_tested bytes ∙ rw (eq-eqb (length bytes % 8) 0 e)

    pub tree_tested : (t : UnitTree us a) → test_in us a (table_bytes (rows_of t)) ≡ gives (flags_of t) []
    tree_tested t = unit_tested (table_bytes (rows_of t)) ∙ root_tested (root_of_lem law a h) t

  module _ (bytes : List ℕ) where
    -- rows that stop the test are those of no tree
    pub none_has : refusal_in us a ≡ 0 → {number place : ℕ} → (test_in us a bytes).end ≡ stops number place
        → (t : UnitTree us a) → ¬ (table_bytes (rows_of t) ≡ bytes)
    none_has h w t e =
        let g : (test_in us a bytes).end ≡ (gives (flags_of t) []).end = ap (λ r. r.end) (rw e at (tree_tested h t)) in
        never (cc)

    -- whole rows, of a tree and with a fault
    pub has_tested : refusal_in us a ≡ 0 → length bytes % 8 ≡ 0 → (t : HasRows us.kind (root_in us a) (rows_in bytes))
        → test_in us a bytes ≡ gives (flags_of t.0) []
    has_tested h w t = whole_tested h bytes w ∙ rw (← t.1) (tree_turned (turning h) (searching h) t.0)

    fault_tested : (h : refusal_in us a ≡ 0) → length bytes % 8 ≡ 0 → {number place : ℕ}
        → TableFault us.kind (root_in us a) (rows_in bytes) number place → (test_in us a bytes).end ≡ stops number place
    fault_tested h w f = ap (λ r. r.end) (whole_tested h bytes w) ∙ fault_turned (turning h) (searching h) (rows_in bytes) f

    whole_rows : refusal_in us a ≡ 0 → length bytes % 8 ≡ 0 → RowsTurned us.kind (root_in us a) (rows_in bytes)
        → Tested us a bytes
    whole_rows h w (inl t) = passed (record {
      there = h;
      whole = w;
      tree = t.0;
      rows = t.1;
      gives_flags = has_tested h w t;
    })
    whole_rows h w (inr f) = faulty (rows_none h w f.2) (fault_tested h w f.2)

    pub tested : Tested us a bytes
    tested = go (ℕ_discrete (refusal_in us a) 0)
      where
        there : refusal_in us a ≡ 0 → Dec (length bytes % 8 ≡ 0) → Tested us a bytes
        there h (yes w) = whole_rows h w (turned_or_refused (turning h) (searching h) (rows_in bytes))
        there h (no w) = faulty (rows_cut h w) (ap (λ r. r.end) (cut_tested h bytes w))

        go : Dec (refusal_in us a ≡ 0) → Tested us a bytes
        go (yes h) = there h (ℕ_discrete (length bytes % 8) 0)
        go (no h) =
            faulty (rows_unit (unit_fault law a (refusal_in us a) refl (omega arith))) (ap (λ r. r.end) (untested h bytes))

    -- rows that are accepted
    pub passes : {count : ℕ} → answer_of (test_in us a bytes) ≡ Accepted count → Passed us a bytes
    passes {count} e = go tested
      where
        go : Tested us a bytes → Passed us a bytes
        go (faulty f w) = let g = rw w at e in never (cc)
        go (passed p) = p

    -- a fault stops the test
    pub fault_stops : {number place : ℕ} → RowsFault us a bytes number place → (test_in us a bytes).end ≡ stops number place
    fault_stops (rows_unit f) =
        let u = unit_refused law a f in
        let e = u.0 in
        let l = u.1 in
        ap (λ r. r.end) (untested (λ z. omega arith) bytes) ∙ rw u.0
    fault_stops (rows_cut h w) = ap (λ r. r.end) (cut_tested h bytes w)
    fault_stops (rows_none h w f) = fault_tested h w f

    -- bytes say the table of the tree that has their rows
    pub table_of : Bytes bytes → (p : Passed us a bytes) → table_bytes (rows_of p.tree) ≡ bytes
    table_of small p = ap table_bytes p.rows ∙ bytes_back bytes small p.whole
