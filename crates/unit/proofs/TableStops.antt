-- R-5: whole rows are answered as the coding trees of the unit say, `TableStops`.
use Prim.Native.Nat.{ℕ, ◌%◌}
use mathlib.Core.Path.{◌≡◌, refl, sym, ap, ◌∙◌}
use mathlib.Core.Bool.{true}
use mathlib.Core.List.{List, [], ◌∷◌, ◌++◌, append-nil}
use mathlib.Core.Logic.{inl, inr}
use native.Mathlib.Omega.{arith}
use lib.ListN.{length}
use Rattle.tree.specs.declared.Node.{Node}
use Rattle.tree.specs.Kind.{Kind}
use Rattle.tree.specs.Rows.{Row, rows_in}
use Rattle.tree.specs.Run.{stops}
use Rattle.tree.specs.Tree.{rows_of}
use Rattle.laws.specs.Begins.{HasRows, GoesOn, GoesPast, LeavesAt}
use Rattle.laws.proofs.Tests.{never}
use Rattle.unit.specs.Answers.{Answer}
use Rattle.refusals.specs.Said.{Refused}
use Rattle.unit.specs.Answers.{answer_of}
use Rattle.unit.specs.Units.{Units, refusal_in, root_in}
use Rattle.unit.specs.Writer.{test_in, write_in}
use Rattle.unit.specs.Exactly.{OneOf, no_tree_numbers, AcceptedOr}
use Rattle.unit.specs.Faults.{TableFault, ends_early, goes_past, leaves_trees, rows_none}
use Rattle.unit.specs.TableStops.{TableAnswer, StopsByTrees, TableStops}
use Rattle.unit.proofs.Sound.{Sound, root_of_lem}
use Rattle.unit.proofs.Luma.{luma_sound}
use Rattle.unit.proofs.RootTree.{root_turning, root_search}
use Rattle.unit.proofs.Accepts.{deliver_or}
use Rattle.unit.proofs.Numbers.{apart, one_of_more, answered_later, not_answered}
use Rattle.unit.proofs.Tested.{has_tested, fault_stops}
use Rattle.unit.proofs.TreeTurning.{RowsTurned, turned_or_refused}
use Rattle.unit.proofs.TurnsExactly.{table_number, write_stopped, write_given}

-- ---- the fault with a number

module _ {k : Kind} {root : Node} {rows : List Row} where
  fault_27 : {number place : ℕ} → TableFault k root rows number place → number ≡ 27 → GoesOn k root rows × (place ≡ length rows)
  fault_27 (ends_early g) e = (g, refl)
  fault_27 (goes_past g) e = absurd (omega arith)
  fault_27 (leaves_trees l) e = absurd (omega arith)

  fault_28 : {number place : ℕ} → TableFault k root rows number place → number ≡ 28 → (g : GoesPast k root rows) × (place ≡ length (rows_of g.0))
  fault_28 (ends_early g) e = absurd (omega arith)
  fault_28 (goes_past g) e = (g, refl)
  fault_28 (leaves_trees l) e = absurd (omega arith)

  fault_16 : {number place : ℕ} → TableFault k root rows number place → number ≡ 16 → LeavesAt k root rows place
  fault_16 (ends_early g) e = absurd (omega arith)
  fault_16 (goes_past g) e = absurd (omega arith)
  fault_16 (leaves_trees l) e = l

-- ---- an answer that delivers rows of a tree, and refuses others with their fault

module _ {k : Kind} {root : Node} {rows : List Row} (delivery : List ℕ) (p : apart (0 ∷ delivery) no_tree_numbers ≡ true) (answer : Answer)
    (stand : RowsTurned k root rows) (turned : HasRows k root rows → AcceptedOr delivery answer)
    (stopped : (number place : ℕ) → TableFault k root rows number place → answer ≡ Refused number place) where
  has_fault : (number place : ℕ) → OneOf number no_tree_numbers → answer ≡ Refused number place → TableFault k root rows number place
  has_fault number place o e = go stand
    where
      go : RowsTurned k root rows → TableFault k root rows number place
      go (inl t) = absurd (not_answered delivery no_tree_numbers p answer (turned t) (rw e o))
      go (inr f) =
          let g : Refused f.0 f.1 ≡ Refused number place = sym (stopped f.0 f.1 f.2) ∙ e in
          let x : f.0 ≡ number = cc in
          let y : f.1 ≡ place = cc in
          rw (← x, ← y) f.2

  has_rows : AcceptedOr delivery answer → HasRows k root rows
  has_rows d = go stand
    where
      go : RowsTurned k root rows → HasRows k root rows
      go (inl t) = t
      go (inr f) = absurd (not_answered delivery no_tree_numbers p answer d (rw (stopped f.0 f.1 f.2) (table_number f.2)))

  leaves : (q : ℕ) → answer ≡ Refused 16 q → LeavesAt k root rows q
  leaves q e = fault_16 (has_fault 16 q (inr (inr (inl refl))) e) refl

  -- "all other tables without a tree"
  other : (q : ℕ) → answer ≡ Refused 16 q → (¬ HasRows k root rows) × (¬ GoesOn k root rows) × (¬ GoesPast k root rows)
  other q e = (
    λ t. (leaves q e).none_whole t.0 [] (sym t.1 ∙ sym (append-nil (rows_of t.0))),
    λ g. let f = stopped 27 _ (ends_early g) in never (cc),
    λ g. (leaves q e).none_whole g.0 (g.1 ∷ g.2) g.3,
  )

  no_other : (¬ HasRows k root rows) × (¬ GoesOn k root rows) × (¬ GoesPast k root rows) → (q : ℕ) × (answer ≡ Refused 16 q)
  no_other none = go stand
    where
      fault : {number place : ℕ} → TableFault k root rows number place → answer ≡ Refused number place → (q : ℕ) × (answer ≡ Refused 16 q)
      fault (ends_early g) e = absurd (none.1 g)
      fault (goes_past g) e = absurd (none.2 g)
      fault (leaves_trees {p = q} l) e = (q, e)

      go : RowsTurned k root rows → (q : ℕ) × (answer ≡ Refused 16 q)
      go (inl t) = absurd (none.0 t)
      go (inr f) = fault f.2 (stopped f.0 f.1 f.2)

  numbers : RowsTurned k root rows → AcceptedOr (no_tree_numbers ++ delivery) answer
  numbers (inl t) = answered_later no_tree_numbers delivery answer (turned t)
  numbers (inr f) = rw (stopped f.0 f.1 f.2) (one_of_more f.0 no_tree_numbers delivery (table_number f.2))

  table_answer : TableAnswer k root rows delivery answer
  table_answer = record {
    delivered = (has_rows, turned);
    early = λ q. (λ e. fault_27 (has_fault 27 q (inl refl) e) refl, λ g. rw g.1 (stopped 27 _ (ends_early g.0)));
    past = λ q. (λ e. fault_28 (has_fault 28 q (inr (inl refl)) e) refl, λ g. rw g.1 (stopped 28 _ (goes_past g.0)));
    leaves = λ q. (leaves q, λ l. stopped 16 q (leaves_trees l));
    others = (λ x. other x.0 x.1, no_other);
    numbers = numbers stand;
  }

-- ---- the two calls on a unit

module _ {us : Units} (law : Sound us) (a : ℕ) (h : refusal_in us a ≡ 0) (bytes : List ℕ) (w : length bytes % 8 ≡ 0) where
  stands : RowsTurned us.kind (root_in us a) (rows_in bytes)
  stands = let r = root_of_lem law a h in turned_or_refused (root_turning r) (root_search r) (rows_in bytes)

  stops_test : (number place : ℕ) → TableFault us.kind (root_in us a) (rows_in bytes) number place → (test_in us a bytes).end ≡ stops number place
  stops_test number place f = fault_stops law a bytes (rows_none h w f)

  of_test : TableAnswer us.kind (root_in us a) (rows_in bytes) [] (answer_of (test_in us a bytes))
  of_test = table_answer [] refl _ stands (λ t. rw (has_tested law a bytes h w t) tt) (λ number place f. rw (stops_test number place f))

  of_way_back : (buffer : List ℕ) → TableAnswer us.kind (root_in us a) (rows_in bytes) (17 ∷ []) (write_in us a bytes buffer).answer
  of_way_back buffer =
      table_answer (17 ∷ []) refl _ stands (λ t. rw (write_given law a bytes buffer (has_tested law a bytes h w t)) (deliver_or 17 _ _ buffer (17 ∷ []) (inl refl)))
      (λ number place f. ap (λ o. o.answer) (write_stopped law a bytes buffer number place (stops_test number place f)))

pub stops_by_trees : {us : Units} → Sound us → (a : ℕ) → refusal_in us a ≡ 0 → StopsByTrees us a
stops_by_trees law a h bytes w = (of_test law a h bytes w, of_way_back law a h bytes w)

pub table_stops : TableStops
table_stops s = stops_by_trees (luma_sound s)
