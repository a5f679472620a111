-- The pass that makes the marks, row by row.
use Rattle.std.proofs.Common.{◌≡◌, ℕ, ◌+◌, ◌-◌, ◌*◌, ◌/◌, ◌%◌, ◌^◌, ◌<◌, ◌≤◌, List, ◌∷◌, ◌++◌, length, get_or, take, set, replicate, sym, ap, ◌∙◌, arith, length-set, get_or-set_other, get_or-set_same}
use native.Mathlib.Decide.{dec_le, dec_lt}
use lib.ListN.{length-replicate, get_or-replicate}
use Rattle.tree.specs.Rows.{row_at, rows_in}
use Rattle.tree.specs.Back.{cells_of}
use Rattle.marks.specs.Table.{rows_left, word_at, Eight}
use Rattle.marks.specs.Marks.{corner_after, cells_before, Marked}
use Rattle.marks.proofs.Corners.{corner_here, corner_within, corner_past}
use Rattle.marks.proofs.RowWords.{word_corner, word_cells}
use Rattle.marks.proofs.NextRows.{from_next, from_end, rows_apart, cells_next, cells_more, cells_later, rows_cells}

-- the marks when so many rows are passed
pub record MarkedTo (bytes marks : List ℕ) (i : ℕ) : Type 0 where
  pub long : length marks ≡ 2048
  pub before : (j : ℕ) → j < i → get_or marks j 0 ≡ cells_before bytes j
  pub past : (c : ℕ) → c < 1024 → c < cells_before bytes i → get_or marks (1024 + c) 0 ≡ corner_after c (rows_in bytes)
  pub ahead : (c : ℕ) → c < 1024 → cells_before bytes i ≤ c → get_or marks (1024 + c) 0 ≡ 4294967295
  pub small : (j : ℕ) → j < i → Eight bytes (j * 8)

pub none_marked : (bytes : List ℕ) {marks : List ℕ} → marks ≡ replicate 2048 4294967295 → MarkedTo bytes marks 0
none_marked bytes e = record {
  long = rw e (length-replicate {A = ℕ} 2048 4294967295);
  before = λ j h. absurd (omega arith);
  past = λ c h k. absurd (omega arith);
  ahead = λ c h k. rw e (get_or-replicate {A = ℕ} 2048 (1024 + c) 4294967295 0 (omega arith));
  small = λ j h. absurd (omega arith);
}

-- the corner after more cells than the rows before have
corner_from : (bytes : List ℕ) (i c : ℕ) → cells_before bytes i ≤ c → corner_after c (rows_in bytes) ≡ corner_after (c - cells_before bytes i) (rows_left bytes i)
corner_from bytes i c h =
    let e : c ≡ cells_before bytes i + (c - cells_before bytes i) = omega arith in
    ap (λ rows. corner_after c rows) (sym (rows_apart bytes i)) ∙ ap (λ c. corner_after c (take i (rows_in bytes) ++ rows_left bytes i)) e
    ∙ corner_past (rows_left bytes i) (take i (rows_in bytes)) (c - cells_before bytes i)

module _ {bytes marks : List ℕ} {i : ℕ} (m : MarkedTo bytes marks i) where
  module _ (there : i < length bytes / 8) (fewer : cells_before bytes i < 1024) (eight : Eight bytes (i * 8)) where
    -- the two stores for the row
    abbrev corner : ℕ
    corner = (row_at bytes (i * 8)).x + 65536 * (row_at bytes (i * 8)).y

    abbrev counted : List ℕ
    counted = set marks i (cells_before bytes i)

    abbrev stored : List ℕ
    stored = set counted (1024 + cells_before bytes i) corner

    few : i < 1024
    few = let a = rows_cells bytes i (omega arith) in omega arith

    -- an entry of the second half that is not the row's, one of the first half that is not, and the row's two
    kept_corner : (c : ℕ) → ¬ (c ≡ cells_before bytes i) → get_or stored (1024 + c) 0 ≡ get_or marks (1024 + c) 0
    kept_corner c differs =
        get_or-set_other counted (1024 + cells_before bytes i) (1024 + c) corner 0 (λ e. differs (omega arith))
        ∙ get_or-set_other marks i (1024 + c) (cells_before bytes i) 0 (λ e. let f = few in omega arith)

    kept_first : (j : ℕ) → j < 1024 → get_or stored j 0 ≡ get_or counted j 0
    kept_first j h = get_or-set_other counted (1024 + cells_before bytes i) j corner 0 (λ e. omega arith)

    kept_count : (j : ℕ) → j < i → get_or stored j 0 ≡ get_or marks j 0
    kept_count j h = kept_first j (let f = few in omega arith) ∙ get_or-set_other marks i j (cells_before bytes i) 0 (λ e. omega arith)

    own_corner : get_or stored (1024 + cells_before bytes i) 0 ≡ corner
    own_corner = get_or-set_same counted (1024 + cells_before bytes i) corner 0 (let l = m.long in rw (length-set marks i (cells_before bytes i)) (omega arith))

    own_count : get_or stored i 0 ≡ cells_before bytes i
    own_count = kept_first i few ∙ get_or-set_same marks i (cells_before bytes i) 0 (let l = m.long in let f = few in omega arith)

    from_row : (c : ℕ) → cells_before bytes i ≤ c → corner_after c (rows_in bytes) ≡ corner_after (c - cells_before bytes i) (row_at bytes (i * 8) ∷ rows_left bytes (i + 1))
    from_row c h = corner_from bytes i c h ∙ ap (λ rows. corner_after (c - cells_before bytes i) rows) (from_next bytes i there)

    corner_now : (c : ℕ) → c < 1024 → c < cells_before bytes (i + 1) → get_or stored (1024 + c) 0 ≡ corner_after c (rows_in bytes)
    corner_now c h k = go (dec_lt c (cells_before bytes i)) (dec_le c (cells_before bytes i))
      where
        go : Dec (c < cells_before bytes i) → Dec (c ≤ cells_before bytes i) → get_or stored (1024 + c) 0 ≡ corner_after c (rows_in bytes)
        go (yes l) d = kept_corner c (λ e. omega arith) ∙ m.past c h l
        go (no l) (yes k) =
            let e : c ≡ cells_before bytes i = omega arith in
            let z : c - cells_before bytes i ≡ 0 = omega arith in
            ap (λ c. get_or stored (1024 + c) 0) e ∙ own_corner ∙ sym (from_row c (omega arith) ∙ ap (λ c. corner_after c (row_at bytes (i * 8) ∷ rows_left bytes (i + 1))) z ∙ corner_here (rows_left bytes (i + 1)) (row_at bytes (i * 8)))
        go (no l) (no g) =
            let n = cells_next bytes i there in
            kept_corner c (λ e. omega arith) ∙ m.ahead c h (omega arith)
            ∙ sym (from_row c (omega arith) ∙ corner_within (rows_left bytes (i + 1)) (row_at bytes (i * 8)) (c - cells_before bytes i) (omega arith) (omega arith))

    pub more_marked : MarkedTo bytes stored (i + 1)
    more_marked = record {
      long = length-set counted (1024 + cells_before bytes i) corner ∙ length-set marks i (cells_before bytes i) ∙ m.long;
      before = λ j h. count j h (dec_lt j i);
      past = corner_now;
      ahead = λ c h k. let n = cells_more bytes i there in kept_corner c (λ e. omega arith) ∙ m.ahead c h (omega arith);
      small = λ j h. bytes_at j h (dec_lt j i);
    }
      where
        count : (j : ℕ) → j < i + 1 → Dec (j < i) → get_or stored j 0 ≡ cells_before bytes j
        count j h (yes l) = kept_count j l ∙ m.before j l
        count j h (no l) = let e : j ≡ i = omega arith in rw e own_count

        bytes_at : (j : ℕ) → j < i + 1 → Dec (j < i) → Eight bytes (j * 8)
        bytes_at j h (yes l) = m.small j l
        bytes_at j h (no l) = let e : j ≡ i = omega arith in rw e eight

  -- all rows are passed, or 1,024 cells
  pub all_marked : length bytes / 8 ≤ i → Marked bytes marks
  unfolding corner_after
  all_marked end = record {
    before = λ j h k. m.before j (omega arith);
    starts = λ c h. go c h (dec_lt c (cells_before bytes i));
    small = λ j h k. m.small j (omega arith);
  }
    where
      go : (c : ℕ) → c < 1024 → Dec (c < cells_before bytes i) → get_or marks (1024 + c) 0 ≡ corner_after c (rows_in bytes)
      go c h (yes l) = m.past c h l
      go c h (no l) = m.ahead c h (omega arith) ∙ sym (corner_from bytes i c (omega arith) ∙ ap (λ rows. corner_after (c - cells_before bytes i) rows) (from_end bytes i end))

  pub enough_marked : 1024 ≤ cells_before bytes i → Marked bytes marks
  enough_marked enough = record {
    before = λ j h k. m.before j (sooner j k);
    starts = λ c h. m.past c h (omega arith);
    small = λ j h k. m.small j (sooner j k);
  }
    where
      sooner : (j : ℕ) → cells_before bytes j < 1024 → j < i
      sooner j k = go (dec_lt j i)
        where
          go : Dec (j < i) → j < i
          go (yes l) = l
          go (no l) = let c = cells_later bytes i j (omega arith) in absurd (omega arith)

-- ---- what the code has found of a row

-- what holds of the number of a row, the cells so far and the marks
abbrev pub Passed : List ℕ → ℕ → ℕ → List ℕ → Type 0
Passed bytes i covered marks = (covered ≡ cells_before bytes i) × MarkedTo bytes marks i

pub row_passed : (bytes : List ℕ) {marks : List ℕ} {i covered row cells : ℕ} → Passed bytes i covered marks → i < length bytes / 8 → covered < 1024
    → (row ≡ word_at bytes (i * 8)) × Eight bytes (i * 8) → (cells ≡ 2 ^ ((row / 4294967296 + row / 1099511627776 + 12) % 16)) × (0 < cells) × (cells ≤ 32768)
    → Passed bytes (i + 1) (covered + cells) (set (set marks i covered) (1024 + covered) (row % 4294967296))
row_passed bytes {marks} {i} {covered} {row} {cells} p there fewer w n =
    let corner : row % 4294967296 ≡ (row_at bytes (i * 8)).x + 65536 * (row_at bytes (i * 8)).y = ap (λ r. r % 4294967296) w.0 ∙ word_corner w.1 in
    let size : cells ≡ cells_of (row_at bytes (i * 8)) = n.0 ∙ ap (λ r. 2 ^ ((r / 4294967296 + r / 1099511627776 + 12) % 16)) w.0 ∙ word_cells w.1 in
    let c = p.0 in
    let more = cells_next bytes i there in
    (omega arith, rw (c, corner) (more_marked p.1 there (omega arith) w.1))

-- a row that is passed is below the cells, so that there is a place for its mark
pub few_rows : (bytes : List ℕ) {marks : List ℕ} {i covered : ℕ} → Passed bytes i covered marks → i ≤ length bytes / 8 → i ≤ covered
few_rows bytes {marks} {i} p there = let r = rows_cells bytes i there in let c = p.0 in omega arith
