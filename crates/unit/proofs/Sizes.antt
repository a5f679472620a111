-- How many rows a unit's coding tree has at most, how many flags by its rows, and the trees behind an accepted reading and the refusal 17.
use Prim.Native.Nat.{ℕ, ◌+◌, ◌*◌, ◌≤◌, ◌<◌}
use mathlib.Core.Path.{◌≡◌, refl}
use mathlib.Core.List.{List}
use mathlib.Core.Logic.{inl, inr}
use lib.ListN.{length}
use native.Mathlib.Omega.{arith}
use native.Mathlib.Nat.{mul-le-mul}
use Rattle.tree.specs.Rows.{table_bytes}
use Rattle.tree.specs.Tree.{flags_of, rows_of}
use Rattle.laws.proofs.FlagRows.{flags_four_rows}
use Rattle.laws.proofs.Sizes.{rows_fit}
use Rattle.refusals.specs.Said.{Accepted, Refused}
use Rattle.unit.specs.Units.{Units, refusal_in, root_in}
use Rattle.unit.specs.Reader.{read_in}
use Rattle.unit.specs.Writer.{write_in}
use Rattle.unit.specs.Exactly.{UnitTree, no_tree_numbers, Bytes}
use Rattle.unit.specs.Faults.{TurnFault, rows_unit, rows_cut, rows_none, tested_rows, tested_room}
use Rattle.unit.proofs.Decided.{turning_decides}
use Rattle.unit.proofs.Sound.{Sound, root_of_lem, unit_other}
use Rattle.unit.proofs.ReadsExactly.{reads_exactly}
use Rattle.unit.proofs.Accepts.{delivered}
use Rattle.unit.proofs.Numbers.{not_listed}
use Rattle.unit.proofs.TurnsExactly.{table_number}

module _ {us : Units} (law : Sound us) (a : ℕ) (h : refusal_in us a ≡ 0) where
  module _ (t : UnitTree us a) where
    -- a unit has 16,384 samples at most
    pub rows_most : length (rows_of t) ≤ 1024
    rows_most =
        let r = root_of_lem law a h in
        let w = r.square.most in
        let e = r.square.square in
        let v : (root_in us a).h ≤ 128 = omega arith in
        let m = mul-le-mul w v in
        let f = rows_fit r.valid r.good.shape t in
        omega arith

    pub flags_rows : length (flags_of t) + 2 ≤ 4 * length (rows_of t)
    flags_rows = let r = root_of_lem law a h in flags_four_rows r.valid r.good.shape r.here t

  -- the tree of an accepted reading
  pub read_tree_lem : (flags buffer : List ℕ) (count : ℕ) → (read_in us a flags buffer).answer ≡ Accepted count
      → (t : UnitTree us a) × (flags_of t ≡ flags) × (length (rows_of t) ≡ count)
  read_tree_lem flags buffer count e =
      let t = (reads_exactly law a h).only flags buffer count e in
      (t.0, t.1, (delivered 14 _ _ buffer (rw (← t.1, (reads_exactly law a h).reads t.0 buffer) at e)).0)

module _ {us : Units} (law : Sound us) (a : ℕ) where
  -- the tree behind the refusal 17: its flags do not fit the buffer, and the place is their number
  pub record Short (table : List ℕ) (room place : ℕ) : Type 0 where
    pub there : refusal_in us a ≡ 0
    pub tree : UnitTree us a
    pub rows : table_bytes (rows_of tree) ≡ table
    pub needs : length (flags_of tree) ≡ place
    pub lacks : room < place

  fault_short : {table : List ℕ} {room number place : ℕ} → TurnFault us a table room number place → number ≡ 17
      → Short table room place
  fault_short (tested_rows (rows_unit f)) e = absurd (unit_other law a (inr (inl e)) f)
  fault_short (tested_rows (rows_cut h c)) e = absurd (omega arith)
  fault_short (tested_rows (rows_none h w f)) e = absurd (not_listed 17 no_tree_numbers refl (rw e at (table_number f)))
  fault_short (tested_room h t f l) e = record { there = h; tree = t; rows = f; needs = refl; lacks = l }

  pub short_tree : (table : List ℕ) → Bytes table → (buffer : List ℕ) (place : ℕ)
      → (write_in us a table buffer).answer ≡ Refused 17 place → Short table (length buffer) place
  short_tree table small buffer place e = fault_short (((turning_decides law a table small buffer).refuses 17 place).0 e) refl
