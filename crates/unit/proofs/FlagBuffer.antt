-- How long a flag buffer must be: the statement of R-7 holds.
use Prim.Native.Nat.{ℕ, ◌+◌, ◌*◌, ◌≤◌}
use mathlib.Core.Path.{◌≡◌, sym, ap, ◌∙◌}
use mathlib.Core.List.{List}
use lib.ListN.{length}
use native.Mathlib.Omega.{arith}
use Rattle.tree.specs.Rows.{table_bytes}
use Rattle.tree.specs.Tree.{flags_of, rows_of}
use Rattle.laws.proofs.Counts.{flag_count_lem}
use Rattle.unit.specs.Units.{Units, refusal_in}
use Rattle.unit.specs.Exactly.{UnitTree}
use Rattle.unit.specs.FlagBuffer.{FlagsOfRows, FlagsOfTree, Planned, FlagBuffer}
use Rattle.unit.proofs.Sound.{Sound}
use Rattle.unit.proofs.Luma.{luma_sound}
use Rattle.unit.proofs.Parsed.{table_length}
use Rattle.unit.proofs.Sizes.{flags_rows, read_tree_lem, short_tree}
use Rattle.unit.proofs.TurnsExactly.{turns_exactly}

module _ {us : Units} (law : Sound us) (a : ℕ) (h : refusal_in us a ≡ 0) where
  -- a tree has as many rows as its table
  rows_of_lem : (t : UnitTree us a) {table : List ℕ} {rows : ℕ} → table_bytes (rows_of t) ≡ table → length table ≡ 8 * rows
      → length (rows_of t) ≡ rows
  rows_of_lem t e l = let m = ap length e in let n = table_length (rows_of t) in omega arith

  -- what holds of the trees holds of the calls
  of_rows_lem : (each less : ℕ) → ((t : UnitTree us a) → length (flags_of t) + less ≤ each * length (rows_of t))
      → FlagsOfRows each less us a
  of_rows_lem each less bound = record {
    reads = λ flags buffer rows e.
        let t = read_tree_lem law a h flags buffer rows e in
        let l = bound t.0 in
        let m = ap (λ r. each * r) t.2 in
        let n = ap length t.1 in
        omega arith;
    turns = λ rows table small whole buffer flags e.
        let t = (turns_exactly law a h).only table small buffer flags e in
        let l = bound t.0 in
        let m = ap (λ r. each * r) (rows_of_lem t.0 t.1 whole) in
        let n = t.2 in
        omega arith;
    room = λ rows table small whole buffer enough place e.
        let x = short_tree law a table small buffer place e in
        let l = bound x.tree in
        let m = ap (λ r. each * r) (rows_of_lem x.tree x.rows whole) in
        let n = x.needs in
        let o = x.lacks in
        omega arith;
  }

  of_tree : (t : UnitTree us a) {table : List ℕ} {flags : ℕ} → table_bytes (rows_of t) ≡ table → length (flags_of t) ≡ flags
      → FlagsOfTree us a table flags
  of_tree t e l = record {
    tree = t;
    rows = e;
    only = λ u f. (turns_exactly law a h).unique u t (f ∙ sym e);
    said = sym l;
    counted = sym l ∙ flag_count_lem t;
  }

pub planned : {us : Units} → Sound us → (a : ℕ) → refusal_in us a ≡ 0 → Planned us a
planned law a h = record {
  six = of_rows_lem law a h _ _ (λ t. let l = flags_rows law a h t in omega arith);
  four = of_rows_lem law a h _ _ (λ t. let l = flags_rows law a h t in omega arith);
  count = λ table small buffer flags e. let t = (turns_exactly law a h).only table small buffer flags e in of_tree law a h t.0 t.1 t.2;
  needed = λ table small buffer place e. let x = short_tree law a table small buffer place e in of_tree law a h x.tree x.rows x.needs;
}

pub flag_buffer : FlagBuffer
flag_buffer s = planned (luma_sound s)
