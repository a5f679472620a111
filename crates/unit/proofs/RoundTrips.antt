-- There and back: flags that are accepted come back from their rows, rows that are accepted come back from their flags, and whole rows are refused with 27,
-- 28 or 16 exactly where no flags give them.
use Prim.Native.Nat.{ℕ, ◌*◌, ◌/◌, ◌%◌, ◌≤◌}
use mathlib.Core.Path.{◌≡◌, sym, ap, subst, ◌∙◌}
use mathlib.Core.List.{List}
use mathlib.Core.Logic.{◌↔◌}
use native.Mathlib.Omega.{arith}
use native.Mathlib.Decide.{ℕ_discrete}
use lib.ListN.{length, take, drop}
use lib.Seq.{take-append_seam}
use Rattle.tree.specs.Rows.{table_bytes}
use Rattle.tree.specs.Tree.{flags_of, rows_of}
use Rattle.laws.proofs.Tests.{never}
use Rattle.refusals.specs.Said.{Accepted}
use Rattle.unit.specs.Answers.{number_of, accepted}
use Rattle.unit.specs.Units.{Units, refusal_in, root_in}
use Rattle.unit.specs.Reader.{read_in}
use Rattle.unit.specs.Writer.{write_in}
use Rattle.unit.specs.Exactly.{UnitTree, OneOf, no_tree_numbers, Bytes}
use Rattle.unit.specs.Demand2.{Given, Exact, Demand2}
use Rattle.unit.proofs.Accepts.{deliver_all_lem, delivered}
use Rattle.unit.proofs.Sound.{Sound, root_of_lem}
use Rattle.unit.proofs.Luma.{luma_sound}
use Rattle.unit.proofs.AcceptedTree.{AcceptedTree, accepted_tree, tree_back}
use Rattle.unit.proofs.Parsed.{table_length}
use Rattle.unit.proofs.ReadsExactly.{unread, unit_read, reads_exactly}
use Rattle.unit.proofs.Tested.{Tested, faulty, passed, tested}
use Rattle.unit.proofs.TurnsExactly.{write_stopped, unit_rows, turns_exactly}

module _ {us : Units} (law : Sound us) (a : ℕ) where
  -- only a unit that is there is read or turned back
  pub read_there : (flags buffer : List ℕ) (m : ℕ) → (read_in us a flags buffer).answer ≡ Accepted m → refusal_in us a ≡ 0
  read_there flags buffer m e = go (ℕ_discrete (refusal_in us a) 0)
    where
      go : Dec (refusal_in us a ≡ 0) → refusal_in us a ≡ 0
      go (yes h) = h
      go (no h) = let g = unread us a flags buffer h in never (cc)

  pub turned_there : (bytes buffer : List ℕ) (m : ℕ) → (write_in us a bytes buffer).answer ≡ Accepted m → refusal_in us a ≡ 0
  turned_there bytes buffer m e = go (tested law a bytes)
    where
      go : Tested us a bytes → refusal_in us a ≡ 0
      go (faulty f w) = let g = write_stopped law a bytes buffer _ _ w in never (cc)
      go (passed p) = p.there

  pub unit_accepted : refusal_in us a ≡ 0 → (flags buffer : List ℕ) (m : ℕ) → (read_in us a flags buffer).answer ≡ Accepted m
      → AcceptedTree us.kind (root_in us a) flags m (read_in us a flags buffer).buffer
  unit_accepted h flags buffer m e =
      subst (λ o. o.answer ≡ Accepted m → AcceptedTree us.kind (root_in us a) flags m o.buffer) (sym (unit_read law a h flags buffer))
      (accepted_tree (root_of_lem law a h) flags buffer m) e

  -- The rows of accepted flags, turned back into any buffer that is long enough, give exactly these flags; the rest of
  -- the buffer stays untouched.
  pub flags_back : (flags buffer : List ℕ) (m : ℕ) → (read_in us a flags buffer).answer ≡ Accepted m → (lent : List ℕ) → length flags ≤ length lent
      → write_in us a (take (8 * m) (read_in us a flags buffer).buffer) lent ≡ accepted (length flags) flags lent
  flags_back flags buffer m e lent room =
      let h = read_there flags buffer m e in
      unit_rows law a h _ lent ∙ tree_back (root_of_lem law a h) (unit_accepted h flags buffer m e) lent room

  -- The flags of an accepted way back, read into any buffer that is long enough, give exactly its rows; the rest of the buffer stays untouched.
  tree_rows : refusal_in us a ≡ 0 → (t : UnitTree us a) (buffer : List ℕ) (m : ℕ) (lent : List ℕ)
      → (write_in us a (table_bytes (rows_of t)) buffer).answer ≡ Accepted m → length (table_bytes (rows_of t)) ≤ length lent
      → read_in us a (take m (write_in us a (table_bytes (rows_of t)) buffer).buffer) lent ≡ accepted (length (table_bytes (rows_of t)) / 8) (table_bytes (rows_of t)) lent
  tree_rows h t buffer m lent e room =
      let w = (turns_exactly law a h).turns t buffer in
      let d = delivered 17 (length (flags_of t)) (flags_of t) buffer (rw w at e) in
      let l = table_length (rows_of t) in
      let n : length (table_bytes (rows_of t)) / 8 ≡ length (rows_of t) = omega arith in
      rw (w, d.1, ← d.0, take-append_seam (flags_of t) (drop (length (flags_of t)) buffer), n) ((reads_exactly law a h).reads t lent ∙ deliver_all_lem 14 _ _ lent room)

  pub rows_back : (bytes : List ℕ) → Bytes bytes → (buffer : List ℕ) (m : ℕ) → (write_in us a bytes buffer).answer ≡ Accepted m → (lent : List ℕ) → length bytes ≤ length lent
      → read_in us a (take m (write_in us a bytes buffer).buffer) lent ≡ accepted (length bytes / 8) bytes lent
  rows_back bytes small buffer m e lent =
      let h = turned_there bytes buffer m e in
      let t = (turns_exactly law a h).only bytes small buffer m e in
      subst (λ x. (write_in us a x buffer).answer ≡ Accepted m → length x ≤ length lent → read_in us a (take m (write_in us a x buffer).buffer) lent ≡ accepted (length x / 8) x lent)
      t.1 (tree_rows h t.0 buffer m lent) e

  -- ---- whole rows are refused exactly where no flags give them

  -- a tree's flags give its table, read into a buffer as long as it
  gives : refusal_in us a ≡ 0 → (t : UnitTree us a) → Given us a (table_bytes (rows_of t))
  gives h t =
      let table = table_bytes (rows_of t) in
      let r = (reads_exactly law a h).reads t table ∙ deliver_all_lem 14 _ _ table (omega arith) in
      let n : 8 * length (rows_of t) ≡ length table = sym (table_length (rows_of t)) in
      record {
        flags = flags_of t;
        buffer = table;
        count = length (rows_of t);
        accepted = ap (λ o. o.answer) r;
        rows = rw (r, n) (take-append_seam table (drop (length table) table));
      }

  pub refused_exactly : (bytes : List ℕ) → Bytes bytes → length bytes % 8 ≡ 0 → refusal_in us a ≡ 0 → (buffer : List ℕ)
      → OneOf (number_of (write_in us a bytes buffer).answer) no_tree_numbers ↔ ¬ Given us a bytes
  refused_exactly bytes small whole h buffer =
      let exact = (turns_exactly law a h).refused bytes small whole buffer in (
        λ n g. let x = unit_accepted h g.flags g.buffer g.count g.accepted in exact.0 n x.tree (sym x.bytes ∙ g.rows),
        λ none. exact.1 (λ t e. none (subst (Given us a) e (gives h t))),
      )

-- demand 2, whole
pub exact : {us : Units} → Sound us → (a : ℕ) → refusal_in us a ≡ 0 → Exact us a
exact law a h = record {
  reads = reads_exactly law a h;
  turns = turns_exactly law a h;
  refused = λ bytes small whole. refused_exactly law a bytes small whole h;
}

pub demand2 : Demand2
demand2 s = exact (luma_sound s)
