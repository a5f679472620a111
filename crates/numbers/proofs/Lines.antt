-- The line store after a unit: the unit's cell columns and cell rows hold what its map tells, and all other bytes stay.
use Prim.Native.Nat.{ℕ, ◌+◌, ◌-◌, ◌*◌, ◌/◌, ◌%◌, ◌≤◌, ◌<◌}
use mathlib.Core.Path.{◌≡◌, ap, ◌∙◌}
use mathlib.Core.Bool.{true, false, cond}
use mathlib.Core.List.{List}
use lib.ListN.{length, get_or}
use lib.Dec.{ltb}
use borrow.Author.Tests.{lt-ltb, le-ltb, le-leb, lt-leb}
use native.Mathlib.Omega.{arith}
use native.Mathlib.Decide.{dec_lt}
use Rattle.sides.proofs.Bools.{and_intro}
use Rattle.settings.specs.declared.Square.{Square}
use Rattle.tree.specs.declared.Direction.TheVariants.{Horizontal, Vertical}
use Rattle.laws.specs.Multiples.{Multiple}
use Rattle.numbers.specs.Standard.{among}
use Rattle.numbers.specs.Map.{Cell, cell_at}
use Rattle.numbers.specs.Store.{cell_told, column_told, line_told}
use Rattle.numbers.specs.StoreAfter.{columns_in, lines_in, of_pair, byte_after, store_after}
use Rattle.numbers.proofs.Changed.{changed_length, changed_at}
use Rattle.numbers.proofs.Places.{OnCells}

pair_first : (n a b : ℕ) → of_pair (2 * n) a b ≡ a
pair_first n a b = let e : 2 * n % 2 ≡ 0 = omega arith in rw e

pair_second : (n a b : ℕ) → of_pair (2 * n + 1) a b ≡ b
pair_second n a b = let e : (2 * n + 1) % 2 ≡ 1 = omega arith in rw e

module _ (width height : ℕ) (wide : Multiple 4 width) (q : Square) (o : OnCells q) (map : List Cell) (store : List ℕ) (long : length store ≡ width / 2 + 64) where
  abbrev after : List ℕ
  after = store_after width height q map store

  pub after_long : length after ≡ width / 2 + 64
  unfolding store_after
  after_long = changed_length (byte_after width height q map) 0 store ∙ long

  byte_at : (i : ℕ) → i < width / 2 + 64 → get_or after i 0 ≡ byte_after width height q map i (get_or store i 0)
  unfolding store_after
  byte_at i h =
      let e : 0 + i ≡ i = omega arith in
      changed_at (byte_after width height q map) 0 store i 0 (omega arith) ∙ ap (λ j. byte_after width height q map j (get_or store i 0)) e

  -- ---- columns

  abbrev lowest : ℕ → Cell
  lowest column = cell_at map (column - q.x / 4) (lines_in height q - 1)

  column_byte_lem : (i column : ℕ) → i / 2 ≡ column → i < width / 2
      → get_or after i 0 ≡ cond (among (q.x / 4) (columns_in width q) column) (of_pair i (lowest column).ew (lowest column).qt) (get_or store i 0)
  column_byte_lem i column e h = byte_at i (omega arith) ∙ rw (lt-ltb i (width / 2) h, e)

  module _ (px : ℕ) (inside : px < width) where
    -- a column of the unit holds its lowest block
    pub own_column : q.x ≤ px → px < q.x + q.side → column_told after (px / 4) ≡ cell_told Vertical (lowest (px / 4))
    own_column low high =
        let w = wide.is in
        let a = o.x.is in
        let b = o.side.is in
        let t : among (q.x / 4) (columns_in width q) (px / 4) ≡ true =
        and_intro _ _ (le-leb (q.x / 4) (px / 4) (omega arith)) (lt-ltb (px / 4) (q.x / 4 + columns_in width q) (omega arith)) in
        let x = column_byte_lem (2 * (px / 4)) (px / 4) (omega arith) (omega arith) in
        let y = column_byte_lem (2 * (px / 4) + 1) (px / 4) (omega arith) (omega arith) in
        rw (x, y, t, pair_first (px / 4), pair_second (px / 4))

    -- any other one what it held before
    pub other_column : (q.x ≤ px → px < q.x + q.side → ⊥) → column_told after (px / 4) ≡ column_told store (px / 4)
    other_column out =
        let w = wide.is in
        let a = o.x.is in
        let b = o.side.is in
        let t = none (dec_lt px q.x) in
        let x = column_byte_lem (2 * (px / 4)) (px / 4) (omega arith) (omega arith) in
        let y = column_byte_lem (2 * (px / 4) + 1) (px / 4) (omega arith) (omega arith) in
        rw (x, y, t)
      where
        none : Dec (px < q.x) → among (q.x / 4) (columns_in width q) (px / 4) ≡ false
        none (yes h) = let a = o.x.is in rw (lt-leb (q.x / 4) (px / 4) (omega arith))
        none (no h) =
            let a = o.x.is in
            let b = o.side.is in
            let past = past_end (dec_lt px (q.x + q.side)) in
            rw (le-leb (q.x / 4) (px / 4) (omega arith), le-ltb (px / 4) (q.x / 4 + columns_in width q) (omega arith))
          where
            past_end : Dec (px < q.x + q.side) → q.x + q.side ≤ px
            past_end (yes k) = absurd (out (omega arith) k)
            past_end (no k) = omega arith

  -- ---- lines

  abbrev rightmost : ℕ → Cell
  rightmost line = cell_at map (columns_in width q - 1) line

  line_byte_lem : (i line : ℕ) → i / 2 ≡ line → i < 64
      → get_or after (width / 2 + i) 0 ≡ cond (ltb line (lines_in height q)) (of_pair i (rightmost line).eh (rightmost line).qt) (get_or store (width / 2 + i) 0)
  line_byte_lem i line e h =
      let d : width / 2 + i - width / 2 ≡ i = omega arith in
      byte_at (width / 2 + i) (omega arith) ∙ rw (le-ltb (width / 2 + i) (width / 2) (omega arith), d, e)

  -- a cell row of the unit holds its rightmost block
  pub own_line : (line : ℕ) → line < lines_in height q → line_told width after line ≡ cell_told Horizontal (rightmost line)
  own_line line h =
      let m = o.most in
      let t = lt-ltb line (lines_in height q) h in
      let x = line_byte_lem (2 * line) line (omega arith) (omega arith) in
      let y = line_byte_lem (2 * line + 1) line (omega arith) (omega arith) in
      rw (x, y, t, pair_first line, pair_second line)
