-- A unit that is there is read exactly as its coding trees say.
use Prim.Native.Nat.{ℕ}
use mathlib.Core.Path.{◌≡◌, refl, ◌∙◌}
use mathlib.Core.List.{List, [], ◌∷◌}
use mathlib.Core.Logic.{inl, inr}
use borrow.Author.Tests.{eq-eqb, ne_eqb}
use lib.ListN.{length}
use Rattle.settings.specs.Units.{located_by}
use Rattle.tree.specs.declared.Node.{Node}
use Rattle.tree.specs.Kind.{Kind}
use Rattle.tree.specs.Rows.{table_bytes}
use Rattle.tree.specs.Tree.{flags_of, rows_of}
use Rattle.laws.proofs.Tests.{never}
use Rattle.laws.proofs.Unique.{tree_unique}
use Rattle.laws.proofs.Reading.{ReadingIsTree}
use Rattle.refusals.specs.Said.{Accepted}
use Rattle.unit.specs.Answers.{refused, deliver}
use Rattle.unit.specs.Units.{Units, refusal_in, root_in}
use Rattle.unit.specs.Reader.{read_tree, read_located, read_in}
use Rattle.unit.specs.Exactly.{UnitTree, OneOf, AcceptedOr, ReadsExactly}
use Rattle.unit.specs.Faults.{FlagFault, end_early, no_flag, run_over}
use Rattle.unit.proofs.Sound.{Sound, root_of_lem}
use Rattle.unit.proofs.RootTree.{root_reading}
use Rattle.unit.proofs.Accepts.{deliver_or}
use Rattle.unit.proofs.TreeReading.{FlagsRead, tree_read, read_or_refused}

-- the numbers of refused flags, and that of a delivery, are among all
pub fault_number : {k : Kind} {n : Node} {flags : List ℕ} {number place : ℕ} → FlagFault k n flags number place → OneOf number (11 ∷ 12 ∷ 13 ∷ 14 ∷ [])
fault_number (end_early t flag more e) = inl refl
fault_number (no_flag t front byte after flag more e l f) = inr (inl refl)
fault_number (run_over t byte after e) = inr (inr (inl refl))

-- a unit that is not there
pub unread : (us : Units) (a : ℕ) (flags buffer : List ℕ) → ¬ (refusal_in us a ≡ 0) → read_in us a flags buffer ≡ refused (refusal_in us a) 0 buffer
unfolding read_located located_by
unread us a flags buffer h = rw (ne_eqb (refusal_in us a) 0 h)

module _ {us : Units} (law : Sound us) (a : ℕ) (h : refusal_in us a ≡ 0) where
  unit_reading : ReadingIsTree us.kind (root_in us a)
  unit_reading = root_reading (root_of_lem law a h)

  pub unit_read : (flags buffer : List ℕ) → read_in us a flags buffer ≡ read_tree us.kind (root_in us a) flags buffer
  unfolding read_located located_by
  unit_read flags buffer = rw (eq-eqb (refusal_in us a) 0 h)

  reads : (t : UnitTree us a) (buffer : List ℕ) → read_in us a (flags_of t) buffer ≡ deliver 14 (length (rows_of t)) (table_bytes (rows_of t)) buffer
  reads t buffer = unit_read (flags_of t) buffer ∙ tree_read unit_reading t buffer

  module _ (flags buffer : List ℕ) where
    only : (m : ℕ) → (read_in us a flags buffer).answer ≡ Accepted m → FlagsRead us.kind (root_in us a) flags → (t : UnitTree us a) × (flags_of t ≡ flags)
    only m e (inl t) = t
    only m e (inr f) = let g = unit_read flags buffer ∙ f.3 buffer in never (cc)

    numbers : FlagsRead us.kind (root_in us a) flags → AcceptedOr (11 ∷ 12 ∷ 13 ∷ 14 ∷ []) (read_in us a flags buffer).answer
    numbers (inl t) = rw (← t.1, reads t.0 buffer) (deliver_or 14 _ _ buffer (11 ∷ 12 ∷ 13 ∷ 14 ∷ []) (inr (inr (inr (inl refl)))))
    numbers (inr f) = rw (unit_read flags buffer, f.3 buffer) (fault_number f.2)

  pub reads_exactly : ReadsExactly us a
  reads_exactly = record {
    reads = reads;
    only = λ flags buffer m e. only flags buffer m e (read_or_refused unit_reading flags);
    unique = tree_unique;
    numbers = λ flags buffer. numbers flags buffer (read_or_refused unit_reading flags);
  }
