-- The bounds of a unit's rows and flags, and the edge of the picture: what settings that pass promise of every unit.
use Prim.Native.Nat.{ℕ, ◌+◌, ◌*◌, ◌≤◌, ◌<◌}
use mathlib.Core.Path.{◌≡◌, refl, ap}
use mathlib.Core.Bool.{false}
use mathlib.Core.List.{List}
use mathlib.Core.Logic.{◌⊎◌, inl, inr}
use lib.ListN.{length}
use native.Mathlib.Omega.{arith}
use Rattle.settings.specs.declared.Settings.{Settings}
use Rattle.settings.specs.Checks.{settings_refusal}
use Rattle.settings.specs.Units.{unit_count, square_in, unit_refusal}
use Rattle.settings.proofs.Grid.{unit_taken}
use Rattle.settings.proofs.Passed.{passed}
use Rattle.tree.specs.Tree.{flags_of, rows_of}
use Rattle.laws.specs.Areas.{spare}
use Rattle.laws.proofs.FlagAreas.{square_flags}
use Rattle.laws.proofs.ReachedNodes.{reached_opens}
use Rattle.unit.specs.Units.{Units, refusal_in}
use Rattle.unit.specs.Luma.{units_of}
use Rattle.unit.specs.Exactly.{UnitTree}
use Rattle.unit.specs.Bounds.{most_flags, Bounded, Bounds}
use Rattle.unit.specs.Edge.{EdgeOpen}
use Rattle.unit.specs.Faults.{ReadFault, read_unit_fault, read_flags, read_room}
use Rattle.unit.proofs.Decided.{reading_decides}
use Rattle.unit.proofs.Parsed.{table_length}
use Rattle.unit.proofs.Sound.{Sound, root_of_lem, unit_other}
use Rattle.unit.proofs.Luma.{luma_sound}
use Rattle.unit.proofs.Sizes.{rows_most, read_tree_lem, short_tree}
use Rattle.unit.proofs.TurnsExactly.{turns_exactly}
use Rattle.unit.proofs.RoundTrips.{read_there, turned_there}
use Rattle.unit.proofs.FlagFaults.{fault_range}

-- ---- what bounds the trees of a unit bounds the calls on it

module _ {us : Units} (law : Sound us) (a R F : ℕ) (most-rows : refusal_in us a ≡ 0 → (t : UnitTree us a) → length (rows_of t) ≤ R)
    (most-flags : refusal_in us a ≡ 0 → (t : UnitTree us a) → length (flags_of t) ≤ F) where
  few_rows : {flags : List ℕ} {room number place : ℕ} → ReadFault us a flags room number place → number ≡ 14 → room < 8 * R
  few_rows (read_unit_fault f) e = absurd (unit_other law a (inl e) f)
  few_rows (read_flags h f) e = let m = fault_range f in absurd (omega arith)
  few_rows (read_room h t f l) e = let m = most-rows h t in omega arith

  pub bounded : Bounded R F us a
  bounded = record {
    rows = λ flags buffer count e.
        let h = read_there law a flags buffer count e in
        let t = read_tree_lem law a h flags buffer count e in
        let m = most-rows h t.0 in
        let f = most-flags h t.0 in
        let c = t.2 in
        let l = ap length t.1 in
        omega arith;
    row_room = λ flags buffer room place e. let l = few_rows (((reading_decides law a flags buffer).refuses 14 place).0 e) refl in omega arith;
    flags = λ bytes small buffer count e.
        let h = turned_there law a bytes buffer count e in
        let t = (turns_exactly law a h).only bytes small buffer count e in
        let m = most-rows h t.0 in
        let f = most-flags h t.0 in
        let c = t.2 in
        let l = ap length t.1 in
        let n = table_length (rows_of t.0) in
        omega arith;
    room_of_flags = λ bytes small buffer room place e.
        let x = short_tree law a bytes small buffer place e in
        let m = most-flags x.there x.tree in
        let n = x.needs in
        let l = x.lacks in
        omega arith;
  }

-- ---- H.266

module _ (s : Settings) (a : ℕ) (h : unit_refusal s a ≡ 0) (t : UnitTree (units_of s) a) where
  of_side : (side : ℕ) → s.ctu ≡ side → 64 * length (flags_of t) + 16 * spare side side false ≤ 7 * (side * side)
  unfolding square_in
  of_side side e = let r = root_of_lem (luma_sound s) a h in square_flags r.valid r.good.shape side e e refl t

  flags_most : length (flags_of t) ≤ most_flags s.ctu
  flags_most = go (passed s (unit_taken (settings_refusal s) (unit_count s) a h).0).ctu
    where
      go : (s.ctu ≡ 32) ⊎ ((s.ctu ≡ 64) ⊎ (s.ctu ≡ 128)) → length (flags_of t) ≤ most_flags s.ctu
      go (inl e) = let f = of_side 32 e in let m = ap most_flags e in omega arith
      go (inr (inl e)) = let f = of_side 64 e in let m = ap most_flags e in omega arith
      go (inr (inr e)) = let f = of_side 128 e in let m = ap most_flags e in omega arith

pub bounds : Bounds
bounds s a = bounded (luma_sound s) a 1024 (most_flags s.ctu) (λ h t. rows_most (luma_sound s) a h t) (flags_most s a)

pub edge_open_lem : EdgeOpen
edge_open_lem s a h n r out = let root = root_of_lem (luma_sound s) a h in reached_opens root.valid root.square r out
