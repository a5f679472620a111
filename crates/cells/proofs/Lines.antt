-- A line of cells, and several lines: what is left to fill, by what is filled already.
use Prim.Native.Nat.{ℕ, suc, ◌+◌, ◌-◌, ◌*◌, ◌/◌, ◌≤◌, ◌<◌}
use mathlib.Core.Path.{◌≡◌, sym, ◌∙◌}
use mathlib.Core.List.{List}
use native.Mathlib.Omega.{arith}
use borrow.Rule.Slice.PartMut.{mid_of, put_mid}
use lib.ListN.{length, drop, replicate, length-drop, length-replicate}
use lib.Seq.{sets, length-take-le}
use Rattle.blocks.proofs.Pastes.{part_stored}
use Rattle.tree.specs.declared.Node.{Node}
use Rattle.cells.specs.Map.{cell_at, put_lines, Inside}

-- ---- one line

-- cells filled as a slice
pub line_filled : (map : List ℕ) (at wide row : ℕ) → at + wide ≤ length map → {line : List ℕ} → line ≡ replicate (length (mid_of at (at + wide - at) map)) row
    → put_mid at (at + wide - at) map line ≡ sets map at (replicate wide row)
line_filled map at wide row room e =
    let k : at + wide - at ≡ wide = omega arith in
    let n : length (mid_of at wide map) ≡ wide = length-take-le wide (drop at map) (rw (length-drop at map) (omega arith)) in
    part_stored map (replicate wide row) at wide (sym (length-replicate wide row)) room (e ∙ rw (k, n))

-- ---- several lines

module _ (at wide high row : ℕ) where
  -- the lines, from line number k on
  abbrev pub lines_from : ℕ → List ℕ → List ℕ
  lines_from k map = put_lines (high - k) wide row (at + k * 32) map

  pub lines_next : (map : List ℕ) (k : ℕ) → k < high → lines_from (k + 1) (sets map (at + k * 32) (replicate wide row)) ≡ lines_from k map
  unfolding put_lines
  lines_next map k h =
      let e : high - k ≡ suc (high - (k + 1)) = omega arith in
      let f : at + (k + 1) * 32 ≡ at + k * 32 + 32 = omega arith in
      rw (e, f)

  pub lines_last : (map : List ℕ) (k : ℕ) → k ≡ high → lines_from k map ≡ map
  unfolding put_lines
  lines_last map k e = let f : high - k ≡ 0 = omega arith in rw f

-- ---- the lines of a node lie in the map

pub line_room : {n : Node} → Inside n → {corner wide high : ℕ} (k : ℕ) → corner ≡ cell_at n.x n.y → wide ≡ n.w / 4 → high ≡ n.h / 4 → k < high
    → corner + k * 32 + wide ≤ 1024
line_room i k c w h l = let r = i.right in let b = i.bottom in omega arith
