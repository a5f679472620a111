-- The reading of a whole tree, where the reading of a node is its coding tree: flags are those of a tree, or they are
-- refused for a fault of theirs.
use Prim.Native.Nat.{ℕ, suc, ◌<◌}
use mathlib.Core.Path.{◌≡◌, refl, subst}
use mathlib.Core.Bool.{Bool, true, false}
use mathlib.Core.List.{List, [], ◌∷◌, ◌++◌}
use mathlib.Core.Logic.{◌⊎◌, inl, inr}
use lib.ListN.{length, get_or, drop}
use lib.Dec.{ltb}
use native.Mathlib.Omega.{arith}
use borrow.Author.Tests.{ltb-true, ltb-false, le-ltb}
use Rattle.tree.specs.declared.Node.{Node}
use Rattle.tree.specs.Kind.{Kind}
use Rattle.tree.specs.Rows.{table_bytes}
use Rattle.tree.specs.Run.{End, goes, stops}
use Rattle.tree.specs.Reading.{read_node}
use Rattle.tree.specs.Tree.{Tree, flags_of, rows_of}
use Rattle.laws.proofs.Bytes.{Reads, reads_all, reads_end, reads_length, reads_seam}
use Rattle.laws.proofs.Runs.{gives}
use Rattle.laws.proofs.HaltsAt.{NoFlag, at_end, above_1}
use Rattle.laws.proofs.Walks.{Grown}
use Rattle.laws.proofs.Reading.{ReadingIsTree}
use Rattle.unit.specs.Answers.{refused, finish_end, deliver}
use Rattle.unit.specs.Reader.{none_after, rows_from, read_tree}
use Rattle.unit.specs.Faults.{FlagFault, end_early, no_flag, run_over}

-- flags that are refused for a fault
abbrev pub FlagsRefused : Kind → Node → List ℕ → Type 0
FlagsRefused k n flags =
    (number place : ℕ) × FlagFault k n flags number place
    × ((buffer : List ℕ) → read_tree k n flags buffer ≡ refused number place buffer)

-- flags of a tree, or refused
abbrev pub FlagsRead : Kind → Node → List ℕ → Type 0
FlagsRead k n flags = ((t : Tree k n) × (flags_of t ≡ flags)) ⊎ FlagsRefused k n flags

module _ {k : Kind} {n : Node} {flags : List ℕ} (t : Tree k n) where
  -- where the reading stopped within a tree's flags
  halt_fault : {a p : ℕ} (front : List ℕ) (flag : ℕ) (more : List ℕ) → flags_of t ≡ front ++ (flag ∷ more)
      → Reads flags 0 front p → NoFlag flags a p → FlagFault k n flags a p
  halt_fault front flag more is r at_end = end_early t flag more (subst (λ f. flags_of t ≡ f ++ (flag ∷ more)) (reads_end r (omega arith)) is)
  halt_fault front flag more is r (above_1 {at = at} l h) =
      let e = reads_length r in
      let place : length front ≡ at = omega arith in
      subst (FlagFault k n flags 12) place (no_flag t front (get_or flags at 0) (drop (suc at) flags) flag more (reads_seam r l) h is)

  -- where the reading ended before the bytes
  over_fault : {to : ℕ} → Reads flags 0 (flags_of t) to → to < length flags → FlagFault k n flags 13 to
  over_fault {to} r l =
      let e = reads_length r in
      let place : length (flags_of t) ≡ to = omega arith in
      subst (FlagFault k n flags 13) place (run_over t (get_or flags to 0) (drop (suc to) flags) (reads_seam r l))

module _ {k : Kind} {n : Node} (r : ReadingIsTree k n) where
  tree_rows : (t : Tree k n) → rows_from k n (flags_of t) ≡ gives (rows_of t) (length (flags_of t))
  unfolding rows_from none_after
  tree_rows t =
      rw ((r.exactly (flags_of t) 0 (rows_of t) (length (flags_of t))).1 (record { trees = t; reads = reads_all (flags_of t); same = refl }))
      (rw (le-ltb (length (flags_of t)) (length (flags_of t)) (omega arith)))

  pub tree_read : (t : Tree k n) (buffer : List ℕ)
      → read_tree k n (flags_of t) buffer ≡ deliver 14 (length (rows_of t)) (table_bytes (rows_of t)) buffer
  unfolding read_tree finish_end
  tree_read t buffer = rw (tree_rows t)

  pub read_or_refused : (flags : List ℕ) → FlagsRead k n flags
  unfolding read_tree rows_from finish_end none_after
  read_or_refused flags = go (read_node k flags n 0).end refl
    where
      past : (to : ℕ) → (read_node k flags n 0).end ≡ goes to → (b : Bool) → ltb to (length flags) ≡ b
          → FlagsRead k n flags
      past to e b l = end b l ((r.exactly flags 0 (read_node k flags n 0).given to).0 (λ i. record { given = (read_node k flags n 0).given; end = e i }))
        where
          end : (b : Bool) → ltb to (length flags) ≡ b → Grown k flags (n ∷ []) 0 (read_node k flags n 0).given to
              → FlagsRead k n flags
          end true l g = inr (13, to, over_fault g.trees g.reads (ltb-true to (length flags) l), λ buffer. rw e (rw l))
          end false l g = inl (g.trees, reads_end g.reads (ltb-false to (length flags) l))

      go : (end : End ℕ) → (read_node k flags n 0).end ≡ end → FlagsRead k n flags
      go (stops a p) e =
          let h = r.halted flags 0 a p (omega arith) e in
          let b = h.begins in
          inr (a, p, halt_fault h.trees b.front b.flag b.more b.is b.reads b.fault, λ buffer. rw e)
      go (goes to) e = past to e (ltb to (length flags)) refl
