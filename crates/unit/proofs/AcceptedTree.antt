-- An accepted reading belongs to a coding tree: the flags are the tree's, the buffer begins with its rows, and these
-- are turned back into the flags.
use Prim.Native.Nat.{ℕ, ◌*◌, ◌≤◌}
use mathlib.Core.Path.{◌≡◌, refl, sym, ap, subst, ◌∙◌}
use mathlib.Core.List.{List, [], ◌++◌}
use mathlib.Core.Logic.{inl, inr}
use lib.ListN.{length, take, drop}
use lib.Seq.{take-append_seam}
use Rattle.tree.specs.declared.Node.{Node}
use Rattle.tree.specs.Kind.{Kind}
use Rattle.tree.specs.Rows.{Row, table_bytes, rows_at}
use Rattle.tree.specs.Tree.{Tree, flags_of, rows_of}
use Rattle.laws.specs.Every.{Every}
use Rattle.laws.specs.Geometry.{SmallRow}
use Rattle.laws.proofs.Tables.{table_back}
use Rattle.laws.proofs.Tests.{never}
use Rattle.refusals.specs.Said.{Accepted}
use Rattle.unit.specs.Answers.{Outcome, accepted}
use Rattle.unit.specs.Reader.{read_tree}
use Rattle.unit.specs.Writer.{write_rows}
use Rattle.unit.proofs.Roots.{Root}
use Rattle.unit.proofs.RootTree.{root_reading, root_small, root_turns}
use Rattle.unit.proofs.Accepts.{deliver_all_lem, delivered}
use Rattle.unit.proofs.Parsed.{table_length}
use Rattle.unit.proofs.TreeReading.{FlagsRead, tree_read, read_or_refused}

-- flags that were accepted with so many rows, and what the buffer holds then
pub record AcceptedTree (k : Kind) (root : Node) (flags : List ℕ) (m : ℕ) (left : List ℕ) : Type 0 where
  pub tree : Tree k root
  pub said : flags_of tree ≡ flags
  pub rows : rows_at m left 0 ≡ rows_of tree
  pub bytes : take (8 * m) left ≡ table_bytes (rows_of tree)

-- a buffer that begins with the table of small rows
begins : {rows : List Row} → Every SmallRow rows → {m : ℕ} → length rows ≡ m → (rest : List ℕ) {left : List ℕ}
    → left ≡ table_bytes rows ++ rest → (rows_at m left 0 ≡ rows) × (take (8 * m) left ≡ table_bytes rows)
begins {rows} small e rest is =
    let n : 8 * length rows ≡ length (table_bytes rows) = sym (table_length rows) in
    rw (← e, is, n) (table_back [] rest small, take-append_seam (table_bytes rows) rest)

module _ {k : Kind} {root : Node} (r : Root k root) where
  abbrev read : List ℕ → List ℕ → Outcome
  read flags buffer = read_tree k root flags buffer

  of_tree : (t : Tree k root) (buffer : List ℕ) (m : ℕ) → (read (flags_of t) buffer).answer ≡ Accepted m
      → AcceptedTree k root (flags_of t) m (read (flags_of t) buffer).buffer
  of_tree t buffer m e =
      let is = tree_read (root_reading r) t buffer in
      let d = delivered 14 (length (rows_of t)) (table_bytes (rows_of t)) buffer (rw is at e) in
      let rest = drop (length (table_bytes (rows_of t))) buffer in
      let b = begins (root_small r t) d.0 rest (ap (λ o. o.buffer) (is ∙ d.1)) in
      record { tree = t; said = refl; rows = b.0; bytes = b.1 }

  pub accepted_tree : (flags buffer : List ℕ) (m : ℕ)
      → (read_tree k root flags buffer).answer ≡ Accepted m
      → AcceptedTree k root flags m (read_tree k root flags buffer).buffer
  accepted_tree flags buffer m e = go (read_or_refused (root_reading r) flags)
    where
      go : FlagsRead k root flags → AcceptedTree k root flags m (read flags buffer).buffer
      go (inl t) =
          subst (λ f. (read f buffer).answer ≡ Accepted m → AcceptedTree k root f m (read f buffer).buffer) t.1
          (of_tree t.0 buffer m) e
      go (inr f) = let g = f.3 buffer in never (cc)

  -- The rows of accepted flags, turned back into any buffer that is long enough, give exactly these flags; the rest of
  -- the buffer stays untouched.
  pub tree_back : {flags left : List ℕ} {m : ℕ} → AcceptedTree k root flags m left → (lent : List ℕ)
      → length flags ≤ length lent
      → write_rows k root (take (8 * m) left) lent ≡ accepted (length flags) flags lent
  tree_back x lent room =
      rw (x.bytes, ← x.said) (root_turns r x.tree lent ∙ deliver_all_lem 17 _ _ lent (rw x.said room))
