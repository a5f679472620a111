-- The rows of a unit that is there are turned back exactly as its coding trees say.
use Prim.Native.Nat.{ℕ, ◌%◌}
use mathlib.Core.Path.{◌≡◌, refl, sym, ap, ◌∙◌}
use mathlib.Core.List.{List, [], ◌∷◌}
use mathlib.Core.Logic.{inl, inr, ◌↔◌}
use lib.ListN.{length}
use Rattle.tree.specs.declared.Node.{Node}
use Rattle.tree.specs.Kind.{Kind}
use Rattle.tree.specs.Rows.{Row, table_bytes, rows_in}
use Rattle.tree.specs.Run.{stops}
use Rattle.tree.specs.Tree.{flags_of, rows_of}
use Rattle.laws.proofs.Runs.{gives}
use Rattle.laws.proofs.Tests.{never}
use Rattle.refusals.specs.Said.{Accepted}
use Rattle.unit.specs.Answers.{number_of, refused, deliver, finish_end}
use Rattle.unit.specs.Units.{Units, refusal_in, root_in}
use Rattle.unit.specs.Writer.{test_in, write_rows, write_located, write_in}
use Rattle.unit.specs.Exactly.{UnitTree, OneOf, no_tree_numbers, AcceptedOr, Bytes, TurnsExactly}
use Rattle.unit.specs.Faults.{TableFault, ends_early, goes_past, leaves_trees, RowsFault, rows_unit, rows_cut, rows_none}
use Rattle.unit.proofs.Sound.{Sound, root_of_lem, unit_none}
use Rattle.unit.proofs.RootTree.{root_turning, root_said}
use Rattle.unit.proofs.Accepts.{delivered, deliver_or}
use Rattle.unit.proofs.Numbers.{one_of_more, one_of_later, not_answered}
use Rattle.unit.proofs.Tested.{Tested, faulty, passed, unit_tested, tree_tested, tested, table_of}

module _ {us : Units} (law : Sound us) (a : ℕ) (bytes buffer : List ℕ) where
  -- the way back is the test, and the delivery of its flags
  pub write_stopped : (number place : ℕ) → (test_in us a bytes).end ≡ stops number place
      → write_in us a bytes buffer ≡ refused number place buffer
  unfolding write_located finish_end
  write_stopped number place e = rw e

  pub write_given : {flags : List ℕ} → test_in us a bytes ≡ gives flags []
      → write_in us a bytes buffer ≡ deliver 17 (length flags) flags buffer
  unfolding write_located finish_end
  write_given e = rw e

-- the number of a fault of rows
pub table_number : {k : Kind} {n : Node} {rows : List Row} {number place : ℕ} → TableFault k n rows number place → OneOf number no_tree_numbers
table_number (ends_early g) = inl refl
table_number (goes_past g) = inr (inl refl)
table_number (leaves_trees l) = inr (inr (inl refl))

module _ {us : Units} (law : Sound us) (a : ℕ) (h : refusal_in us a ≡ 0) where
  rows_number : {bytes : List ℕ} {number place : ℕ} → RowsFault us a bytes number place → OneOf number (15 ∷ no_tree_numbers)
  rows_number (rows_unit f) = absurd (unit_none law a h f)
  rows_number (rows_cut h w) = inl refl
  rows_number (rows_none h w f) = inr (table_number f)

  whole_number : {bytes : List ℕ} → length bytes % 8 ≡ 0 → {number place : ℕ} → RowsFault us a bytes number place → OneOf number no_tree_numbers
  whole_number w (rows_unit f) = absurd (unit_none law a h f)
  whole_number w (rows_cut h cut) = absurd (cut w)
  whole_number w (rows_none h v f) = table_number f

  pub unit_rows : (bytes buffer : List ℕ) → write_in us a bytes buffer ≡ write_rows us.kind (root_in us a) bytes buffer
  unfolding write_located write_rows
  unit_rows bytes buffer = rw (unit_tested law a h bytes)

  turns : (t : UnitTree us a) (buffer : List ℕ) → write_in us a (table_bytes (rows_of t)) buffer ≡ deliver 17 (length (flags_of t)) (flags_of t) buffer
  turns t buffer = write_given law a (table_bytes (rows_of t)) buffer (tree_tested law a h t)

  module _ (bytes : List ℕ) (small : Bytes bytes) (buffer : List ℕ) where
    only : (m : ℕ) → (write_in us a bytes buffer).answer ≡ Accepted m → (t : UnitTree us a) × (table_bytes (rows_of t) ≡ bytes) × (length (flags_of t) ≡ m)
    only m e = go (tested law a bytes)
      where
        go : Tested us a bytes → (t : UnitTree us a) × (table_bytes (rows_of t) ≡ bytes) × (length (flags_of t) ≡ m)
        go (faulty f w) = let g = write_stopped law a bytes buffer _ _ w in never (cc)
        go (passed p) =
            let d = delivered 17 _ _ buffer (rw (write_given law a bytes buffer p.gives_flags) at e) in
            (p.tree, table_of law a bytes small p, d.0)

    no_tree : length bytes % 8 ≡ 0 → OneOf (number_of (write_in us a bytes buffer).answer) no_tree_numbers ↔ ((t : UnitTree us a) → ¬ (table_bytes (rows_of t) ≡ bytes))
    no_tree w = (
      λ o t e. not_answered (17 ∷ []) no_tree_numbers refl (deliver 17 (length (flags_of t)) (flags_of t) buffer).answer (deliver_or 17 (length (flags_of t)) (flags_of t) buffer (17 ∷ []) (inl refl)) (rw (← e, turns t buffer) at o),
      λ none. go none (tested law a bytes),
    )
      where
        go : ((t : UnitTree us a) → ¬ (table_bytes (rows_of t) ≡ bytes)) → Tested us a bytes → OneOf (number_of (write_in us a bytes buffer).answer) no_tree_numbers
        go none (faulty f e) = rw (write_stopped law a bytes buffer _ _ e) (whole_number w f)
        go none (passed p) = absurd (none p.tree (table_of law a bytes small p))

  numbers : (bytes buffer : List ℕ) → AcceptedOr (15 ∷ 27 ∷ 28 ∷ 16 ∷ 17 ∷ []) (write_in us a bytes buffer).answer
  numbers bytes buffer = go (tested law a bytes)
    where
      go : Tested us a bytes → AcceptedOr (15 ∷ 27 ∷ 28 ∷ 16 ∷ 17 ∷ []) (write_in us a bytes buffer).answer
      go (faulty {number = number} f w) = rw (write_stopped law a bytes buffer _ _ w) (one_of_more number (15 ∷ no_tree_numbers) (17 ∷ []) (rows_number f))
      go (passed p) = rw (write_given law a bytes buffer p.gives_flags) (deliver_or 17 _ _ buffer (15 ∷ 27 ∷ 28 ∷ 16 ∷ 17 ∷ []) (one_of_later 17 (15 ∷ no_tree_numbers) (17 ∷ []) (inl refl)))

  pub turns_exactly : TurnsExactly us a
  turns_exactly = record {
    turns = turns;
    only = λ bytes small buffer. only bytes small buffer;
    refused = λ bytes small w buffer. no_tree bytes small buffer w;
    unique = λ t u e.
        let r = root_of_lem law a h in
        (root_turning r).rows_unique t u (sym (root_said r t) ∙ ap rows_in e ∙ root_said r u);
    numbers = numbers;
  }
